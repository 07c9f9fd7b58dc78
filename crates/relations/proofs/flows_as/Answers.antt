use mathlib.Core.Path.{◌∙◌}
use Rattle.relations.proofs.flows_as.Goals as goal

pub returns : goal.returns
returns c = c.has_bit.ensures ∙ c.united-mask.ensures.at c.args.e.perm
