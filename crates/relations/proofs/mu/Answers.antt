use Rattle.relations.specs.Relations.{μ}
use Rattle.relations.proofs.mu.Goals as goal

pub returns-then-is_given : goal.returns-then-is_given
unfolding μ
returns-then-is_given c = rw (← c.is_given.ensures, c.if-is_given.true)

pub returns : goal.returns
unfolding μ
returns c = rw (← c.is_given.ensures, c.if-is_given.false)
