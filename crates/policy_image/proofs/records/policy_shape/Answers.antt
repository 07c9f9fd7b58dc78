use Rattle.policy_image.specs.Layout.{record_count}
use Rattle.policy_image.proofs.LayoutLaws.{policy_shape_lem}
use Rattle.policy_image.proofs.records.policy_shape.Goals as goal

pub returns : goal.returns
unfolding record_count
returns c = policy_shape_lem _ _ c.requires c.u16_at.ensures.0
