use Prim.Native.Nat.{◌+◌, ◌-◌, ◌≤◌}
use Rattle.policy_image.specs.Policy.{policy_of}
use Rattle.policy_runs.proofs.CountingLaws.{NumberedTo}
use Rattle.policy_runs.proofs.count_nodes.Given as goal

abbrev pub invariant-loop-k : goal.invariant-loop-k
invariant-loop-k l = (l.k ≤ l.records + 1) × NumberedTo (policy_of l.policy) (l.k - 1) l.nodes l.table
