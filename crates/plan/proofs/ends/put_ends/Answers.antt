use Rattle.plan.proofs.EndsLaws.{ends_put}
use Rattle.plan.proofs.ends.put_ends.Goals as goal

pub returns : goal.returns
returns c =
    ends_put c.requires.0 c.requires.1 c.requires.2 c.clear.ensures c.put_record.ensures c.put_record-2.ensures c.put_alikes.ensures
