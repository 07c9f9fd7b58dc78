use Rattle.plan.proofs.PlanLaws.{groups_put}
use Rattle.plan.proofs.make.put_groups.Goals as goal

pub returns : goal.returns
returns c = groups_put c.constraint_groups-groups.ensures c.put.ensures
