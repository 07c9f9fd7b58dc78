use Rattle.plan.proofs.EventLaws.{marking_start, marking_step, marking_end}
use Rattle.plan.proofs.goal.put_chain.Goals as goal

pub loop-q-init : goal.loop-q-init
loop-q-init c = marking_start (cc)

pub loop-q-preserved : goal.loop-q-preserved
loop-q-preserved c = marking_step c.loop-q.invariant c.requires.1 c.in-Some.ensures.steps c.with_bit.ensures

pub returns : goal.returns
returns c = marking_end c.in-None.ensures.steps.0 c.loop-q.invariant
