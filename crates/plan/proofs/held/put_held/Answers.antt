use Rattle.plan.proofs.ContextLaws.{held_put}
use Rattle.plan.proofs.held.put_held.Goals as goal

pub returns : goal.returns
returns c =
    held_put c.role_table-roles.ensures c.put.ensures c.put_holders.ensures
