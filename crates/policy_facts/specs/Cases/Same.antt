-- When two policies say the same (paper 02, e): "their counts, their facts of kinds 1 to 7 as written (masks bit by bit, flow's 3 being 1
-- and 2), and their lists of kinds 8 and 9 agree, a node being named by its place in the list".
use Rattle.std.specs.Prelude.{ℕ, ◌≡◌, true, false, List, map}
use Rattle.base.specs.Ranges.{Within}
use Rattle.policy_image.specs.declared.records.Record.{Record}
use Rattle.policy_image.specs.Policy.{Policy}
use Rattle.policy_lists.specs.Lists.{kind_list, with_next}
use Rattle.policy_lists.specs.Joined.{nodes_upto, renumbered}
use Rattle.policy_facts.specs.Facts.{is_stated, permits, carries_mask}

-- the records of kind k in their order, each node that they use named by its place in the list of nodes; next is no part of what they say
abbrev pub by_place : Policy → ℕ → List Record
by_place p k = map (λ r. with_next 0 (renumbered (nodes_upto p) r)) (kind_list p k)

pub record Same (p q : Policy) : Type 0 where
  pub types : p.counts.types ≡ q.counts.types
  pub roles : p.counts.roles ≡ q.counts.roles
  pub users : p.counts.users ≡ q.counts.users
  pub classes : p.counts.classes ≡ q.counts.classes
  pub keys : (k a b c : ℕ) → Within 1 7 k → carries_mask k ≡ false → is_stated p k a b c ≡ is_stated q k a b c
  pub permissions : (k a b c i : ℕ) → carries_mask k ≡ true → permits p k a b c i ≡ permits q k a b c i
  pub constraints : by_place p 8 ≡ by_place q 8
  pub nodes : by_place p 9 ≡ by_place q 9
