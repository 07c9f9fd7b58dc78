use mathlib.Core.Path.{◌≡◌}
use lib.Dec.{eqb}
use lib.ListN.{length}
use Rattle.base.specs.Inner.Fill.{Filled}
use Rattle.constraints.specs.Inner.Words.{AllIf, leaf_entries}
use Rattle.constraints.proofs.leaves.put_number.Given as goal

abbrev pub invariant-loop-b : goal.invariant-loop-b
invariant-loop-b l =
    (length l.leaves ≡ leaf_entries) × Filled (λ i r. AllIf (eqb l.v i) r) l.initial.leaves l.leaves l.at 0 l.b
