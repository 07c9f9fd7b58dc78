use mathlib.Core.Path.{◌∙◌}
use Rattle.chains.proofs.ShapeLaws.{head_of}
use Rattle.goal_image.proofs.records.head_at.Goals as goal

pub returns : goal.returns
returns c = c.head_at.ensures ∙ head_of c.goal_shape.ensures _
