use Rattle.relations.specs.Relations.{role_change}
use Rattle.relations.proofs.role_change.Goals as goal

pub returns : goal.returns
unfolding role_change
returns c = c.is_given.ensures
