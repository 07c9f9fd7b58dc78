use Rattle.std.proofs.Common.{rules}
use Rattle.policy_image.specs.declared.kinds.Kind.TheVariants.{Allow}
use Rattle.policy_links.proofs.Searches.{all_every, decides_test}
use Rattle.policy_sources.specs.Sources.{domain}
use Rattle.policy_sources.proofs.allows_from_domains.Goals as goal

pub returns : goal.returns
returns c =
    decides_test (all_every c.args.image.now c.requires.1 c.requires.2 Allow (λ r. domain _ r.a) _ _
    (λ x b q k. let m = c.domain_table-domains.ensures.at x.a in search rules) c.records_of.result c.records_of.ensures _ _ c.all.ensures.ran)
