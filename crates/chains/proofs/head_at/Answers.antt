use Rattle.chains.specs.Inner.Links.{head_in}
use Rattle.chains.proofs.head_at.Goals as goal

pub returns : goal.returns
unfolding head_in
returns c = c.u16_at.ensures.0
