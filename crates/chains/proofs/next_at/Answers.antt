use borrow.Author.Rules.{rules}
use Rattle.chains.specs.Inner.Links.{next_in}
use Rattle.chains.proofs.ShapeLaws.{link_within}
use Rattle.chains.proofs.next_at.Goals as goal

pub overflow_mul-shape : goal.overflow_mul-shape
overflow_mul-shape c = search (rules, link_within _ _ c.requires.0 _ c.requires.1 c.requires.2)

pub overflow_add-shape : goal.overflow_add-shape
overflow_add-shape c = search (rules, link_within _ _ c.requires.0 _ c.requires.1 c.requires.2)

pub u16_at-requires : goal.u16_at-requires
u16_at-requires c = link_within _ _ c.requires.0 _ c.requires.1 c.requires.2

pub returns : goal.returns
unfolding next_in
returns c = c.u16_at.ensures.0
