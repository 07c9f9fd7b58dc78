use mathlib.Core.Path.{sym, ◌∙◌}
use Rattle.plan_tables.proofs.GroupLaws.{in_mask, off_mask}
use Rattle.plan_tables.proofs.groups.side.Goals as goal

pub returns-then-has_bit : goal.returns-then-has_bit
returns-then-has_bit c = in_mask (sym c.has_bit.ensures ∙ c.if-has_bit.true)

pub returns-else-has_bit : goal.returns-else-has_bit
returns-else-has_bit c = off_mask (sym c.has_bit.ensures ∙ c.if-has_bit.false) c.without.ensures
