use Rattle.base.proofs.Decide.{decides_iff}
use Rattle.chains.proofs.ShapeLaws.{rising_of}
use Rattle.policy_links.proofs.Walk.{rising, rising_links}
use Rattle.policy_links.proofs.links_rise.Goals as goal

pub returns : goal.returns
returns c =
    decides_iff c.links_rise.result (rising_links _) (rising _)
    (rising_of c.policy_shape.ensures c.links_rise.result c.links_rise.ensures)
