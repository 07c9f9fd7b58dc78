use mathlib.Core.Path.{◌∙◌}
use borrow.Author.Rules.{rules}
use Rattle.chains.proofs.ShapeLaws.{next_of, count_of}
use Rattle.goal_image.proofs.records.next_at.Goals as goal

pub next_at-requires : goal.next_at-requires
next_at-requires c = search (rules, count_of c.goal_shape.ensures)

pub returns : goal.returns
returns c = c.next_at.ensures ∙ next_of c.goal_shape.ensures _
