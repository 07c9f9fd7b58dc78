use mathlib.Core.Path.{◌≡◌}
use Rattle.base.specs.Inner.Fill.{Filled}
use Rattle.plan.proofs.BlockLaws.{cut_to}
use Rattle.plan.proofs.fill.put_cut.Given as goal

abbrev pub invariant-loop-i : goal.invariant-loop-i
invariant-loop-i l = Filled (λ j v. v ≡ cut_to l.keys l.masks l.cut j) l.initial.plan l.plan l.at 0 l.i
