use Rattle.plan.specs.Inner.Leads.{NotTransition, AlikeTable}
use Rattle.plan.proofs.alike.put_alike.Given as goal

abbrev pub invariant-loop-left : goal.invariant-loop-left
invariant-loop-left l = NotTransition l.class l.left × AlikeTable l.plan l.alike

abbrev pub decreases-loop-left : goal.decreases-loop-left
decreases-loop-left l = l.left
