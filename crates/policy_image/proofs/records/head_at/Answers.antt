use mathlib.Core.Path.{◌∙◌}
use Rattle.chains.proofs.ShapeLaws.{head_of}
use Rattle.policy_image.proofs.records.head_at.Goals as goal

pub returns : goal.returns
returns c = rw (← c.number.ensures) (c.head_at.ensures ∙ head_of c.policy_shape.ensures _)
