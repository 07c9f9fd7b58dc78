use borrow.Author.Rules.{rules}
use Rattle.base.proofs.Decide.{yes_of, no_of, decides_no}
use Rattle.chains.proofs.ShapeLaws.{rising_of}
use Rattle.goal_image.proofs.Pass.{links_part}
use Rattle.goal_image.proofs.links.one_chain_each.Goals as goal

pub each_on_one-requires : goal.each_on_one-requires
each_on_one-requires c =
    let r = c.links_rise in
    (search rules, yes_of r.result (rising_of c.goal_shape.ensures r.result r.ensures) c.if-links_rise.true)

pub returns-else-links_rise : goal.returns-else-links_rise
returns-else-links_rise c =
    let r = c.links_rise in
    decides_no r.result c.if-links_rise.false
    (λ o. no_of r.result (rising_of c.goal_shape.ensures r.result r.ensures) c.if-links_rise.false (links_part _ o))
