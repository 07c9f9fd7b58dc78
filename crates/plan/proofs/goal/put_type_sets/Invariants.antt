use Prim.Native.Nat.{◌+◌, ◌≤◌}
use Rattle.base.specs.Inner.Fill.{Filled}
use Rattle.context.specs.Codes.{context_at}
use Rattle.goal_image.specs.Goal.{goal_of}
use Rattle.goal_image.specs.Inner.Memberships.{ContextSets}
use Rattle.plan.specs.Inner.Regions.{type_sets_start}
use Rattle.plan.proofs.goal.put_type_sets.Given as goal

abbrev pub invariant-loop-t : goal.invariant-loop-t
invariant-loop-t l =
    (l.t ≤ l.types + 1) × Filled (λ j v. ContextSets (goal_of l.goal) (context_at j 0 0) v) l.initial.plan l.plan type_sets_start 1 l.t
