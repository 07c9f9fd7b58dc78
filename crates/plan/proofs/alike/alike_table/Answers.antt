use Rattle.plan.proofs.LeadLaws.{table_begin}
use Rattle.plan.proofs.alike.alike_table.Goals as goal

pub loop-class-init : goal.loop-class-init
loop-class-init c = table_begin _

pub loop-class-preserved : goal.loop-class-preserved
loop-class-preserved c = c.put_alike.ensures

pub returns : goal.returns
returns c = c.loop-class.invariant
