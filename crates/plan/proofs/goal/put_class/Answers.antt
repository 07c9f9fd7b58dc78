use native.Mathlib.Omega.{arith}
use Rattle.plan.proofs.EventLaws.{chained_start, chained_more, chained_end}
use Rattle.plan.proofs.goal.put_class.Goals as goal

pub loop-h-init : goal.loop-h-init
loop-h-init c = chained_start c.clear.ensures

pub loop-h-preserved : goal.loop-h-preserved
loop-h-preserved c = chained_more c.loop-h.invariant c.chain_mask.ensures c.put_chain.ensures

pub returns : goal.returns
returns c = chained_end (omega arith) c.clear.ensures c.loop-h.invariant
