use mathlib.Core.Bool.{not}
use mathlib.Core.Path.{sym, ap, ◌∙◌}
use Rattle.search_steps.proofs.OfferLaws.{plain_flow}
use Rattle.search_steps.proofs.targets.is_target.Goals as goal

pub returns-then-not-special : goal.returns-then-not-special
returns-then-not-special c =
    ap not c.if-not-special.true ∙ sym (plain_flow c.args.x _ c.requires.4.meets c.requires.5 c.requires.4.offering (sym c.requires.4.conditions ∙ c.if-not-special.true))
