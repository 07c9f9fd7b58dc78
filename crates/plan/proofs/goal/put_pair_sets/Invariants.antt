use Rattle.base.specs.Inner.Fill.{Filled}
use Rattle.goal_image.specs.Goal.{goal_of}
use Rattle.plan.specs.Inner.Regions.{pair_sets_start}
use Rattle.plan.specs.Inner.Plan.{PairSets}
use Rattle.plan.proofs.goal.put_pair_sets.Given as goal

abbrev pub invariant-loop-i : goal.invariant-loop-i
invariant-loop-i l = Filled (λ j v. PairSets (goal_of l.goal) l.counts j v) l.initial.plan l.plan pair_sets_start 0 l.i
