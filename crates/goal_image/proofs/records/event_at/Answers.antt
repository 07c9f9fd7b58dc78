use Rattle.goal_image.specs.Layout.{event_record_of}
use Rattle.goal_image.proofs.records.event_at.Goals as goal

pub returns : goal.returns
unfolding event_record_of
returns c = cc
