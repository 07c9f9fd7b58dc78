use Prim.Native.Nat.{◌+◌, ◌*◌, ◌≤◌}
use Rattle.base.specs.Inner.Fill.{Filled}
use Rattle.context.specs.Codes.{event_of}
use Rattle.goal_image.specs.Goal.{goal_of}
use Rattle.goal_image.specs.Inner.Memberships.{EventSets}
use Rattle.plan.specs.Inner.Regions.{event_sets_start}
use Rattle.plan.proofs.goal.put_events.Given as goal

abbrev pub invariant-loop-class : goal.invariant-loop-class
invariant-loop-class l =
    (l.class ≤ l.classes + 1) × Filled (λ e v. EventSets (goal_of l.goal) (event_of e) v) l.initial.plan l.plan event_sets_start 32 (32 * l.class)
