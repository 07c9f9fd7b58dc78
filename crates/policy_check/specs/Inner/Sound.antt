-- What the layers above know of an accepted policy: the answers, each by its name.
use Rattle.std.specs.Prelude.{ℕ, List}
use Rattle.policy_image.specs.Layout.{PolicyExact, counts_of}
use Rattle.policy_image.specs.Counts.{CountsInRange}
use Rattle.policy_image.specs.Policy.{policy_of}
use Rattle.policy_links.specs.Chains.{LinksRise, ChainsByKind}
use Rattle.policy_fields.specs.Fields.{FieldsInRange}
use Rattle.policy_expressions.specs.Nodes.{NodesInOrder}
use Rattle.policy_sources.specs.Sources.{AllowsFromDomains}

-- s passes questions 1 to 6 and 14
pub record Sound (s : List ℕ) : Type 0 where
  pub exact : PolicyExact s
  pub range : CountsInRange (counts_of s)
  pub links : LinksRise (policy_of s)
  pub chains : ChainsByKind (policy_of s)
  pub fields : FieldsInRange (policy_of s)
  pub nodes : NodesInOrder (policy_of s)
  pub sources : AllowsFromDomains (policy_of s)
