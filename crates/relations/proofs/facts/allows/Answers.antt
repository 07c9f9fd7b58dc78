use mathlib.Core.Path.{refl}
use Rattle.relations.proofs.facts.allows.Goals as goal

pub returns : goal.returns
returns c = rw c.target.ensures refl
