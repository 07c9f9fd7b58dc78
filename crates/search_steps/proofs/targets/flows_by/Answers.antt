use Rattle.search_steps.proofs.OfferLaws.{ways_yes, ways_rest}
use mathlib.Core.Path.{◌∙◌}
use Rattle.search_steps.proofs.targets.flows_by.Goals as goal

pub returns-then-may_act : goal.returns-then-may_act
returns-then-may_act c =
    c.if-may_act.true ∙ ways_yes c.args.x c.args.y c.requires.4 c.requires.5 c.requires.6 c.has_bit-out.ensures c.may_act.ensures c.if-may_act.true

pub returns-else-may_act : goal.returns-else-may_act
returns-else-may_act c =
    ways_rest c.args.x c.args.y c.requires.4 c.requires.5 c.requires.6 c.has_bit-out.ensures c.may_act.ensures c.if-may_act.false c.has_bit-back.ensures c.may_act-else-may_act.ensures
