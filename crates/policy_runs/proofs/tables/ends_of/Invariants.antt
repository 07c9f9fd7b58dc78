use Prim.Native.Nat.{◌-◌}
use mathlib.Core.Path.{◌≡◌}
use lib.ListN.{length}
use Rattle.policy_runs.specs.Inner.Tables.{Summed}
use Rattle.policy_runs.proofs.TableLaws.{added_up}
use Rattle.policy_runs.proofs.tables.ends_of.Given as goal

abbrev pub invariant-loop-k : goal.invariant-loop-k
invariant-loop-k l =
    (length l.ends ≡ 10) × Summed (added_up l.first l.second) l.ends (l.k - 1)
