use Rattle.plan.proofs.KnownLaws.{zero_plus}
use Rattle.base.specs.Bits.{bit}
use lib.ListN.{get_or}
use mathlib.Core.Path.{ap, ◌∙◌}
use Prim.Native.Nat.{ℕ, ◌%◌}
use native.Mathlib.Omega.{arith}
use Rattle.search_steps.proofs.targets.is_special.Goals as goal

pub bounds-plan-class : goal.bounds-plan-class
bounds-plan-class c = omega (arith, c.requires.0, c.requires.1)

pub returns : goal.returns
returns c = c.has_bit.ensures ∙ ap (λ (k : ℕ). bit (get_or c.args.plan.now k 0) (c.args.event % 32)) (zero_plus _)
