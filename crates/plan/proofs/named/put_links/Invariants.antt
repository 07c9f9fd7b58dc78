use Prim.Native.Nat.{◌+◌, ◌≤◌}
use Rattle.goal_image.specs.Goal.{goal_of}
use Rattle.plan.specs.Inner.Named.{Linking}
use Rattle.plan.proofs.named.put_links.Given as goal

abbrev pub invariant-loop-k : goal.invariant-loop-k
invariant-loop-k l = (l.k ≤ l.count + 1) × Linking (goal_of l.goal) l.initial.plan l.plan l.k
