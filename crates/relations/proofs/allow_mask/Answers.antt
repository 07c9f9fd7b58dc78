use Rattle.policy_image.specs.OfKind.{some}
use Rattle.relations.specs.Relations.{allowed}
use Rattle.relations.proofs.allow_mask.Goals as goal

pub returns : goal.returns
unfolding allowed some
returns c = record { at = λ q. c.united.ensures.at q }
