-- No field of what it is to say the same (`Same`, paper 02, e) can be left out: for each there are two policies of which all the others hold, and
-- which are written in different bytes.
use Rattle.std.specs.Prelude.{ℕ, true, false, List, [], ◌∷◌, ◌≡◌}
use Rattle.base.specs.Ranges.{Within}
use Rattle.base.specs.Questions.{AllYes}
use Rattle.policy_image.specs.Policy.{Policy, policy_of}
use Rattle.policy_image.specs.Cases.Written.{domain, permissions, flow, allow, role_type, user_role, role_change, constraint, node, image, no_chain, chain_of}
use Rattle.policy_check.specs.Questions.{policy_questions}
use Rattle.policy_facts.specs.Facts.{is_stated, permits, carries_mask}
use Rattle.policy_facts.specs.Cases.Same.{by_place, Same}
use Rattle.canonical.specs.Canonical.{canonical_image}

-- the fields of `Same`, each by itself
module _ (p q : Policy) where
  abbrev pub SameTypes : Type 0
  SameTypes = p.counts.types ≡ q.counts.types

  abbrev pub SameRoles : Type 0
  SameRoles = p.counts.roles ≡ q.counts.roles

  abbrev pub SameUsers : Type 0
  SameUsers = p.counts.users ≡ q.counts.users

  abbrev pub SameClasses : Type 0
  SameClasses = p.counts.classes ≡ q.counts.classes

  abbrev pub SameKeys : Type 0
  SameKeys = (k a b c : ℕ) → Within 1 7 k → carries_mask k ≡ false → is_stated p k a b c ≡ is_stated q k a b c

  abbrev pub SamePermissions : Type 0
  SamePermissions = (k a b c i : ℕ) → carries_mask k ≡ true → permits p k a b c i ≡ permits q k a b c i

  abbrev pub SameConstraints : Type 0
  SameConstraints = by_place p 8 ≡ by_place q 8

  abbrev pub SameNodes : Type 0
  SameNodes = by_place p 9 ≡ by_place q 9

  -- .. and some of them together
  abbrev pub SameCounts : Type 0
  SameCounts = SameTypes × SameRoles × SameUsers × SameClasses

  abbrev pub SameFacts : Type 0
  SameFacts = SameKeys × SamePermissions

  abbrev pub SameLists : Type 0
  SameLists = SameConstraints × SameNodes

-- two policies that pass the checks, of which these fields hold and not all, and whose canonical images differ
pub record ByOneField (s t : List ℕ) (Others : Policy → Policy → Type 0) : Type 0 where
  pub accepted : AllYes (policy_questions s)
  pub accepted' : AllYes (policy_questions t)
  pub others : Others (policy_of s) (policy_of t)
  pub rejected : Same (policy_of s) (policy_of t) → ⊥
  pub bytes : canonical_image s ≡ canonical_image t → ⊥

-- ---- policies with counts of 2 and few records
abbrev pub two : List ℕ → List (List ℕ) → List ℕ
two hs rs = image 2 2 2 2 hs rs

-- one record of kind k
abbrev pub one : ℕ → List ℕ → List ℕ
one k r = two (chain_of k) (r ∷ [])

-- a domain and an allow of it
abbrev pub allowing : List ℕ → List ℕ
allowing r = two (1 ∷ 0 ∷ 0 ∷ 2 ∷ 0 ∷ 0 ∷ 0 ∷ 0 ∷ 0 ∷ []) (domain 0 2 ∷ r ∷ [])

-- a constraint on a class and a mask, with its root, then "same type" and another operator
abbrev pub constraining : ℕ → ℕ → ℕ → ℕ → List ℕ
constraining class mask root operator =
    two (0 ∷ 0 ∷ 0 ∷ 0 ∷ 0 ∷ 0 ∷ 0 ∷ 1 ∷ 2 ∷ []) (constraint 0 class mask root ∷ node 3 4 0 0 0 ∷ node 0 operator 0 0 0 ∷ [])

-- two nodes alike, then "not" of one of them
abbrev pub negating : ℕ → List ℕ
negating left = two (chain_of 9) (node 2 4 0 0 0 ∷ node 3 4 0 0 0 ∷ node 0 1 0 left 0 ∷ [])

pub record CanonicalSame : Type 0 where
  -- ---- "their counts"
  pub types : ByOneField (two no_chain []) (image 1 2 2 2 no_chain [])
      (λ p q. SameRoles p q × SameUsers p q × SameClasses p q × SameFacts p q × SameLists p q)
  pub roles : ByOneField (two no_chain []) (image 2 1 2 2 no_chain [])
      (λ p q. SameTypes p q × SameUsers p q × SameClasses p q × SameFacts p q × SameLists p q)
  pub users : ByOneField (two no_chain []) (image 2 2 1 2 no_chain [])
      (λ p q. SameTypes p q × SameRoles p q × SameClasses p q × SameFacts p q × SameLists p q)
  pub classes : ByOneField (two no_chain []) (image 2 2 2 1 no_chain [])
      (λ p q. SameTypes p q × SameRoles p q × SameUsers p q × SameFacts p q × SameLists p q)
  -- ---- "their facts of kinds 1 to 7 as written": a key of each kind that carries no mask
  pub domains : ByOneField (one 1 (domain 0 1)) (one 1 (domain 0 2)) (λ p q. SameCounts p q × SamePermissions p q × SameLists p q)
  pub role_types : ByOneField (one 5 (role_type 0 1 2)) (one 5 (role_type 0 2 1)) (λ p q. SameCounts p q × SamePermissions p q × SameLists p q)
  pub user_roles : ByOneField (one 6 (user_role 0 1 2)) (one 6 (user_role 0 2 1)) (λ p q. SameCounts p q × SamePermissions p q × SameLists p q)
  pub role_changes : ByOneField (one 7 (role_change 0 1 2)) (one 7 (role_change 0 2 1)) (λ p q. SameCounts p q × SamePermissions p q × SameLists p q)
  -- "masks bit by bit", of each kind that carries one; "flow's 3 being 1 and 2", and not 1 alone; self
  pub permissions : ByOneField (one 2 (permissions 0 1 1)) (one 2 (permissions 0 1 3)) (λ p q. SameCounts p q × SameKeys p q × SameLists p q)
  pub flows : ByOneField (one 3 (flow 0 1 1 1)) (one 3 (flow 0 1 2 1)) (λ p q. SameCounts p q × SameKeys p q × SameLists p q)
  pub both_ways_lem : ByOneField (one 3 (flow 0 1 1 1)) (one 3 (flow 0 1 3 1)) (λ p q. SameCounts p q × SameKeys p q × SameLists p q)
  pub allows : ByOneField (allowing (allow 0 2 1 1 1)) (allowing (allow 0 2 1 2 1)) (λ p q. SameCounts p q × SameKeys p q × SameLists p q)
  pub self : ByOneField (allowing (allow 0 2 0 1 1)) (allowing (allow 0 2 2 1 1)) (λ p q. SameCounts p q × SameKeys p q × SameLists p q)
  -- ---- "and their lists of kinds 8 and 9 agree, a node being named by its place in the list": a constraint's class, its mask, its root
  pub constraint_class : ByOneField (constraining 1 1 2 5) (constraining 2 1 2 5) (λ p q. SameCounts p q × SameFacts p q × SameNodes p q)
  pub constraint_mask : ByOneField (constraining 1 1 2 5) (constraining 1 0 2 5) (λ p q. SameCounts p q × SameFacts p q × SameNodes p q)
  pub constraint_root : ByOneField (constraining 1 1 2 5) (constraining 1 1 3 5) (λ p q. SameCounts p q × SameFacts p q × SameNodes p q)
  -- a node's operator, what it compares with, and its child
  pub node_operator : ByOneField (constraining 1 1 2 5) (constraining 1 1 2 6) (λ p q. SameCounts p q × SameFacts p q × SameConstraints p q)
  pub node_compared : ByOneField (one 9 (node 0 7 1 0 0)) (one 9 (node 0 7 2 0 0)) (λ p q. SameCounts p q × SameFacts p q × SameConstraints p q)
  pub node_child : ByOneField (negating 1) (negating 2) (λ p q. SameCounts p q × SameFacts p q × SameConstraints p q)
