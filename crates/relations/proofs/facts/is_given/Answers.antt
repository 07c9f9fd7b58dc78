use Rattle.std.proofs.Common.{rules}
use Rattle.policy_links.proofs.Searches.{any_some}
use Rattle.relations.specs.Inner.Facts.{states}
use Rattle.relations.proofs.facts.is_given.Goals as goal

pub returns : goal.returns
returns c =
    any_some c.args.policy.now c.requires.links c.requires.chains c.args.f.kind (states c.args.f) _ _
    (λ x b q k. search rules) c.records_of.result c.records_of.ensures _ _ c.any.ensures.ran
