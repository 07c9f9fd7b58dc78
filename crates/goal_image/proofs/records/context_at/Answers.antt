use Rattle.goal_image.specs.Layout.{context_record_of}
use Rattle.goal_image.proofs.records.context_at.Goals as goal

pub returns : goal.returns
unfolding context_record_of
returns c = cc
