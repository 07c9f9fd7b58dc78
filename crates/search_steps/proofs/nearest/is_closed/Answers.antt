use mathlib.Core.Path.{◌∙◌}
use Rattle.search_steps.proofs.NearestLaws.{kept_few, closed_first, closed_second}
use Rattle.search_steps.proofs.nearest.is_closed.Goals as goal

pub returns-then-has_bit : goal.returns-then-has_bit
returns-then-has_bit c = c.if-has_bit.true ∙ closed_first c.args.a c.args.by c.args.swept c.has_bit.ensures c.if-has_bit.true

pub has_member-requires : goal.has_member-requires
has_member-requires c = rw c.kept_of.ensures (kept_few c.args.a c.args.by c.requires)

pub returns-else-has_bit : goal.returns-else-has_bit
returns-else-has_bit c =
    closed_second c.args.a c.args.by c.args.swept c.has_bit.ensures c.if-has_bit.false c.kept_of.ensures c.has_member.ensures
