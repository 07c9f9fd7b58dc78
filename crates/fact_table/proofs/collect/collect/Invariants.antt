use Prim.Native.Nat.{◌+◌, ◌-◌, ◌≤◌}
use mathlib.Core.Path.{◌≡◌}
use lib.ListN.{length}
use Rattle.policy_image.specs.Policy.{policy_of}
use Rattle.fact_table.specs.Inner.Collect.{Collected}
use Rattle.fact_table.proofs.collect.collect.Given as goal

abbrev pub invariant-loop-k : goal.invariant-loop-k
invariant-loop-k l =
    (length l.codes ≡ length l.initial.codes) × (length l.given ≡ length l.initial.given) × (l.k ≤ l.records + 1) × Collected (policy_of l.policy) (l.k - 1) l.codes l.given l.n
