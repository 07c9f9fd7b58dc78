use Rattle.base.specs.Inner.Fill.{Filled}
use Rattle.goal_image.specs.Goal.{goal_of}
use Rattle.plan.proofs.EventLaws.{Chained}
use Rattle.plan.proofs.goal.put_class.Given as goal

abbrev pub invariant-loop-h : goal.invariant-loop-h
invariant-loop-h l = Filled (λ q v. Chained (goal_of l.goal) l.class l.h q v) l.initial.plan l.plan l.at 0 32
