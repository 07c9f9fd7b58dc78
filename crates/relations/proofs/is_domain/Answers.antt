use Rattle.policy_sources.specs.Sources.{domain}
use Rattle.relations.proofs.is_domain.Goals as goal

pub returns : goal.returns
unfolding domain
returns c = c.is_given.ensures
