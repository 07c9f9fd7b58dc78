use Rattle.plan.proofs.LeadLaws.{Sorting}
use Rattle.plan.proofs.leads.leading.Given as goal

abbrev pub invariant-loop-left : goal.invariant-loop-left
invariant-loop-left l = Sorting l.alike l.class l.mask l.left l.r

abbrev pub decreases-loop-left : goal.decreases-loop-left
decreases-loop-left l = l.left
