use Rattle.goal_image.proofs.LayoutLaws.{goal_shape_lem}
use Rattle.goal_image.proofs.records.goal_shape.Goals as goal

pub returns : goal.returns
returns c = goal_shape_lem _ _ c.requires c.record_count.ensures
