use Rattle.plan.proofs.LeadLaws.{alike_put}
use Rattle.plan.proofs.alike.put_alikes.Goals as goal

pub returns : goal.returns
returns c = alike_put c.alike_table-alike.ensures c.put.ensures
