use borrow.Author.Tests.{eq-eqb, ne_eqb}
use Rattle.relations.specs.Relations.{ρ}
use Rattle.relations.proofs.rho.Goals as goal

pub returns-then-is_given : goal.returns-then-is_given
unfolding ρ
returns-then-is_given c = rw (← c.is_given.ensures, c.if-is_given.true)

pub returns-then-role-ne1 : goal.returns-then-role-ne1
unfolding ρ
returns-then-role-ne1 c = rw (← c.is_given.ensures, c.if-is_given.false, ne_eqb _ _ c.if-role-ne1.true)

pub returns : goal.returns
unfolding ρ
returns c = rw (← c.is_given.ensures, c.if-is_given.false, eq-eqb _ _ c.if-role-ne1.false, c.is_domain.ensures)
