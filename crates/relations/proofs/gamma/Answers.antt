use mathlib.Core.Path.{◌∙◌}
use Rattle.relations.specs.Relations.{Γ}
use Rattle.relations.proofs.gamma.Goals as goal

pub returns : goal.returns
unfolding Γ
returns c = c.has_bit.ensures ∙ c.united-mask.ensures.at c.args.e.perm
