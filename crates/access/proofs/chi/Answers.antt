use Rattle.access.specs.Authorization.{χ}
use Rattle.access.proofs.chi.Goals as goal

pub returns-then-gamma : goal.returns-then-gamma
unfolding χ
returns-then-gamma c = rw (← c.gamma.ensures, c.if-gamma.true) c.constraints_hold.ensures

pub returns-else-gamma : goal.returns-else-gamma
unfolding χ
returns-else-gamma c = rw (← c.gamma.ensures, c.if-gamma.false)
