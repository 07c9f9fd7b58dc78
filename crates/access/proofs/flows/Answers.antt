use Rattle.access.specs.Authorization.{flow}
use Rattle.relations.specs.Relations.{write_like, read_like}
use Rattle.access.proofs.flows.Goals as goal

pub returns-then-acts : goal.returns-then-acts
unfolding flow write_like read_like
returns-then-acts c = rw (← c.acts.ensures, c.if-acts.true)

pub returns-else-acts : goal.returns-else-acts
unfolding flow write_like read_like
returns-else-acts c = rw (← c.acts.ensures, c.if-acts.false) c.acts-else-acts.ensures
