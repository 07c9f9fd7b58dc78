use Prim.Native.Nat.{◌+◌, ◌-◌, ◌≤◌}
use Rattle.policy_image.specs.Policy.{policy_of}
use Rattle.policy_runs.proofs.CountingLaws.{CountedTo}
use Rattle.policy_runs.proofs.count_kinds.Given as goal

abbrev pub invariant-loop-k : goal.invariant-loop-k
invariant-loop-k l = (l.k ≤ l.records + 1) × CountedTo (policy_of l.policy).rec (l.k - 1) l.table
