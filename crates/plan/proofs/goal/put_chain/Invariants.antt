use Rattle.plan.proofs.EventLaws.{Marking}
use Rattle.plan.proofs.goal.put_chain.Given as goal

abbrev pub invariant-loop-q : goal.invariant-loop-q
invariant-loop-q l = Marking l.initial.plan l.at l.h l.mask l.plan l.q-iterator.left
