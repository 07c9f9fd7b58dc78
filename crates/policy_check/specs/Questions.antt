-- Questions 1 to 6 in order (paper 01, "Questions in order, with the number for 'no'"), and 14 (paper 02, b).
use Rattle.std.specs.Prelude.{ℕ, List, [], ◌∷◌}
use Rattle.base.specs.Questions.{Question, ask}
use Rattle.policy_image.specs.Layout.{PolicyExact, counts_of}
use Rattle.policy_image.specs.Counts.{CountsInRange}
use Rattle.policy_image.specs.Policy.{policy_of}
use Rattle.policy_links.specs.Chains.{LinksRise, ChainsByKind}
use Rattle.policy_fields.specs.Fields.{FieldsInRange}
use Rattle.policy_expressions.specs.Nodes.{NodesInOrder}
use Rattle.policy_sources.specs.Sources.{AllowsFromDomains}

-- "Policy, before all else": each question is asked of the whole image before the next; 14 is "asked after question 6 and before any goal
-- or question is read"
abbrev pub policy_questions : List ℕ → List Question
policy_questions s =
    ask 1 (PolicyExact s)
    ∷ ask 2 (CountsInRange (counts_of s))
    ∷ ask 3 (LinksRise (policy_of s))
    ∷ ask 4 (ChainsByKind (policy_of s))
    ∷ ask 5 (FieldsInRange (policy_of s))
    ∷ ask 6 (NodesInOrder (policy_of s))
    ∷ ask 14 (AllowsFromDomains (policy_of s))
    ∷ []
