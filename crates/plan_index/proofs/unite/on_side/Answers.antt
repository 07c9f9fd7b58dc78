use borrow.Author.Tests.{eq-eqb, ne_eqb}
use Rattle.plan_index.proofs.unite.on_side.Goals as goal

pub returns-then-item-side : goal.returns-then-item-side
returns-then-item-side c = rw (eq-eqb _ _ c.if-item-side.true)

pub returns-else-item-side : goal.returns-else-item-side
returns-else-item-side c = rw (ne_eqb _ _ c.if-item-side.false)
