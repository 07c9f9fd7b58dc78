use Rattle.goal_image.specs.Layout.{goal_count}
use Rattle.goal_image.proofs.records.record_count.Goals as goal

pub returns : goal.returns
unfolding goal_count
returns c = c.u16_at.ensures.0
