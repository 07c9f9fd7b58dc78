-- Every field of what it is to say the same is needed: two policies that differ in it alone are written in different bytes.
use Prim.Native.Nat.{ℕ}
use mathlib.Core.Bool.{true, false}
use mathlib.Core.List.{List, [], ◌∷◌}
use mathlib.Core.Logic.{⊎_elim}
use mathlib.Core.Path.{◌≡◌, refl, sym, ap, subst, ◌∙◌}
use native.Mathlib.Omega.{arith}
use borrow.Author.Tests.{leb-true, le-leb}
use lib.Dec.{leb}
use lib.ListN.{get_or}
use Rattle.base.specs.Questions.{AllYes}
use Rattle.base.specs.Ranges.{Within}
use Rattle.base.proofs.BoolLaws.{clash, and_true, and_first, and_second}
use Rattle.base.proofs.Numbers.{split_le, three_of}
use Rattle.policy_image.specs.declared.records.Record.{Record}
use Rattle.policy_image.specs.Policy.{Policy, policy_of}
use Rattle.policy_image.specs.Cases.Written.{domain, permissions as class, flow, allow, role_type, user_role, role_change, node, image, no_chain, chain_of}
use Rattle.policy_check.specs.Questions.{policy_questions}
use Rattle.policy_lists.specs.Lists.{no_record}
use Rattle.policy_facts.specs.Facts.{is_stated, permits, carries_mask}
use Rattle.policy_facts.specs.Cases.Same.{Same}
use Rattle.canonical.specs.Canonical.{canonical_image}
use Rattle.weir_canonical.specs.Cases.CanonicalSame.{SameKeys, SamePermissions, SameConstraints, SameNodes, SameCounts, SameFacts, SameLists, ByOneField, two, one, allowing, constraining, negating, CanonicalSame}
use Rattle.weir_canonical.proofs.CanonicalImages.{written, accepted_b, passing, facts_by, image_by, writes}
use Rattle.weir_canonical.proofs.CanonicalPairs.{apart_b, bytes_apart}

-- ---- what holds of kinds 1, 5, 6 and 7 holds of those that carry no mask, what holds of kinds 2, 3 and 4 of those that carry one
bare_kinds : (P : ℕ → Type 0) → P 1 → P 5 → P 6 → P 7 → (k : ℕ) → Within 1 7 k → carries_mask k ≡ false → P k
bare_kinds P a b c d k w m =
    ⊎_elim
    (λ h. let l = w.low in subst P (let e : 1 ≡ k = omega arith in e) a)
    (λ h.
    ⊎_elim (λ l. three_of P 5 k l w.high b c d)
    (λ l. absurd (clash (and_true (leb 2 k) (leb k 4) (le-leb 2 k h) (le-leb k 4 (omega arith))) m))
    (split_le 5 k))
    (split_le k 1)

mask_kinds : (P : ℕ → Type 0) → P 2 → P 3 → P 4 → (k : ℕ) → carries_mask k ≡ true → P k
mask_kinds P a b c k m = three_of P 2 k (leb-true 2 k (and_first (leb 2 k) (leb k 4) m)) (leb-true k 4 (and_second (leb 2 k) (leb k 4) m)) a b c

module _ (p q : Policy) where
  abbrev KeysOf : ℕ → Type 0
  KeysOf k = (a b c : ℕ) → is_stated p k a b c ≡ is_stated q k a b c

  abbrev PermissionsOf : ℕ → Type 0
  PermissionsOf k = (a b c i : ℕ) → permits p k a b c i ≡ permits q k a b c i

  keys : KeysOf 1 → KeysOf 5 → KeysOf 6 → KeysOf 7 → SameKeys p q
  keys one five six seven k a b c w m = bare_kinds KeysOf one five six seven k w m a b c

  permissions : PermissionsOf 2 → PermissionsOf 3 → PermissionsOf 4 → SamePermissions p q
  permissions two three four k a b c i m = mask_kinds PermissionsOf two three four k m a b c i

-- ---- two policies that pass, and are written in different bytes
record Pair (s t : List ℕ) : Type 0 where
  accepted : AllYes (policy_questions s)
  accepted' : AllYes (policy_questions t)
  bytes : canonical_image s ≡ canonical_image t → ⊥

pair : (s t one two : List ℕ) → accepted_b s ≡ true → accepted_b t ≡ true → facts_by s one ≡ true → image_by s one ≡ one → facts_by t two ≡ true
    → image_by t two ≡ two → apart_b one two ≡ true → Pair s t
pair s t one two a b e i f j d =
    record { accepted = passing s a; accepted' = passing t b; bytes = λ h. bytes_apart one two d (sym (writes s one e i) ∙ h ∙ writes t two f j) }

-- .. as they stand
as_they_stand : {s t : List ℕ} → accepted_b s ≡ true → accepted_b t ≡ true → facts_by s s ≡ true → image_by s s ≡ s → facts_by t t ≡ true → image_by t t ≡ t
    → apart_b s t ≡ true → Pair s t
as_they_stand {s} {t} = pair s t s t

module _ {s t : List ℕ} (w : Pair s t) where
  abbrev p : Policy
  p = policy_of s

  abbrev q : Policy
  q = policy_of t

  by_field : {Others : Policy → Policy → Type 0} → Others p q → (Same p q → ⊥) → ByOneField s t Others
  by_field o r = record { accepted = w.accepted; accepted' = w.accepted'; others = o; rejected = r; bytes = w.bytes }

  -- all but the keys; the permissions; the constraints; the nodes
  keys_apart : SameCounts p q → PermissionsOf p q 2 → PermissionsOf p q 3 → PermissionsOf p q 4 → SameLists p q → (Same p q → ⊥)
      → ByOneField s t (λ p q. SameCounts p q × SamePermissions p q × SameLists p q)
  keys_apart c two three four l r = by_field (c, permissions p q two three four, l) r

  permissions_apart : SameCounts p q → KeysOf p q 1 → KeysOf p q 5 → KeysOf p q 6 → KeysOf p q 7 → SameLists p q → (Same p q → ⊥)
      → ByOneField s t (λ p q. SameCounts p q × SameKeys p q × SameLists p q)
  permissions_apart c one five six seven l r = by_field (c, keys p q one five six seven, l) r

  list_apart : (Other : Policy → Policy → Type 0) → SameCounts p q → KeysOf p q 1 → KeysOf p q 5 → KeysOf p q 6 → KeysOf p q 7 → PermissionsOf p q 2
      → PermissionsOf p q 3 → PermissionsOf p q 4 → Other p q → (Same p q → ⊥) → ByOneField s t (λ p q. SameCounts p q × SameFacts p q × Other p q)
  list_apart Other c one five six seven two three four l r = by_field (c, (keys p q one five six seven, permissions p q two three four), l) r

-- ---- the pairs, by computing
types_pair : Pair (two no_chain []) (image 1 2 2 2 no_chain [])
unfolding written
types_pair = as_they_stand refl refl refl refl refl refl refl

roles_pair : Pair (two no_chain []) (image 2 1 2 2 no_chain [])
unfolding written
roles_pair = as_they_stand refl refl refl refl refl refl refl

users_pair : Pair (two no_chain []) (image 2 2 1 2 no_chain [])
unfolding written
users_pair = as_they_stand refl refl refl refl refl refl refl

classes_pair : Pair (two no_chain []) (image 2 2 2 1 no_chain [])
unfolding written
classes_pair = as_they_stand refl refl refl refl refl refl refl

domains_pair : Pair (one 1 (domain 0 1)) (one 1 (domain 0 2))
unfolding written
domains_pair = as_they_stand refl refl refl refl refl refl refl

role_types_pair : Pair (one 5 (role_type 0 1 2)) (one 5 (role_type 0 2 1))
unfolding written
role_types_pair = as_they_stand refl refl refl refl refl refl refl

user_roles_pair : Pair (one 6 (user_role 0 1 2)) (one 6 (user_role 0 2 1))
unfolding written
user_roles_pair = as_they_stand refl refl refl refl refl refl refl

role_changes_pair : Pair (one 7 (role_change 0 1 2)) (one 7 (role_change 0 2 1))
unfolding written
role_changes_pair = as_they_stand refl refl refl refl refl refl refl

classes_permit_pair : Pair (one 2 (class 0 1 1)) (one 2 (class 0 1 3))
unfolding written
classes_permit_pair = as_they_stand refl refl refl refl refl refl refl

flows_pair : Pair (one 3 (flow 0 1 1 1)) (one 3 (flow 0 1 2 1))
unfolding written
flows_pair = as_they_stand refl refl refl refl refl refl refl

allows_pair : Pair (allowing (allow 0 2 1 1 1)) (allowing (allow 0 2 1 2 1))
unfolding written
allows_pair = as_they_stand refl refl refl refl refl refl refl

self_pair : Pair (allowing (allow 0 2 0 1 1)) (allowing (allow 0 2 2 1 1))
unfolding written
self_pair = as_they_stand refl refl refl refl refl refl refl

constraint_class_pair : Pair (constraining 1 1 2 5) (constraining 2 1 2 5)
unfolding written
constraint_class_pair = as_they_stand refl refl refl refl refl refl refl

constraint_mask_pair : Pair (constraining 1 1 2 5) (constraining 1 0 2 5)
unfolding written
constraint_mask_pair = as_they_stand refl refl refl refl refl refl refl

constraint_root_pair : Pair (constraining 1 1 2 5) (constraining 1 1 3 5)
unfolding written
constraint_root_pair = as_they_stand refl refl refl refl refl refl refl

node_operator_pair : Pair (constraining 1 1 2 5) (constraining 1 1 2 6)
unfolding written
node_operator_pair = as_they_stand refl refl refl refl refl refl refl

node_compared_pair : Pair (one 9 (node 0 7 1 0 0)) (one 9 (node 0 7 2 0 0))
unfolding written
node_compared_pair = as_they_stand refl refl refl refl refl refl refl

node_child_pair : Pair (negating 1) (negating 2)
unfolding written
node_child_pair = as_they_stand refl refl refl refl refl refl refl

-- flow's 3 is split
both_ways_pair : Pair (one 3 (flow 0 1 1 1)) (one 3 (flow 0 1 3 1))
unfolding written
both_ways_pair =
    pair (one 3 (flow 0 1 1 1)) (one 3 (flow 0 1 3 1)) (one 3 (flow 0 1 1 1)) (two (chain_of 3) (flow 2 1 1 1 ∷ flow 0 1 2 1 ∷ [])) refl refl refl refl refl refl
    refl

-- THE FIFTEENTH THEOREM
pub canonical_same : CanonicalSame
unfolding written
canonical_same =
    record {
      types =
          by_field types_pair (refl, refl, refl, ((λ k a b c w m. refl), (λ k a b c i m. refl)), (refl, refl))
          (λ S. let z : ◌≡◌ {A = ℕ} 2 1 = S.types in omega arith);
      roles =
          by_field roles_pair (refl, refl, refl, ((λ k a b c w m. refl), (λ k a b c i m. refl)), (refl, refl))
          (λ S. let z : ◌≡◌ {A = ℕ} 2 1 = S.roles in omega arith);
      users =
          by_field users_pair (refl, refl, refl, ((λ k a b c w m. refl), (λ k a b c i m. refl)), (refl, refl))
          (λ S. let z : ◌≡◌ {A = ℕ} 2 1 = S.users in omega arith);
      classes =
          by_field classes_pair (refl, refl, refl, ((λ k a b c w m. refl), (λ k a b c i m. refl)), (refl, refl))
          (λ S. let z : ◌≡◌ {A = ℕ} 2 1 = S.classes in omega arith);
      domains =
          keys_apart domains_pair (refl, refl, refl, refl) (λ a b c i. refl) (λ a b c i. refl) (λ a b c i. refl) (refl, refl)
          (λ S. clash refl (S.keys 1 1 0 0 (omega arith) refl));
      role_types =
          keys_apart role_types_pair (refl, refl, refl, refl) (λ a b c i. refl) (λ a b c i. refl) (λ a b c i. refl) (refl, refl)
          (λ S. clash refl (S.keys 5 1 2 0 (omega arith) refl));
      user_roles =
          keys_apart user_roles_pair (refl, refl, refl, refl) (λ a b c i. refl) (λ a b c i. refl) (λ a b c i. refl) (refl, refl)
          (λ S. clash refl (S.keys 6 1 2 0 (omega arith) refl));
      role_changes =
          keys_apart role_changes_pair (refl, refl, refl, refl) (λ a b c i. refl) (λ a b c i. refl) (λ a b c i. refl) (refl, refl)
          (λ S. clash refl (S.keys 7 1 2 0 (omega arith) refl));
      permissions =
          permissions_apart classes_permit_pair (refl, refl, refl, refl) (λ a b c. refl) (λ a b c. refl) (λ a b c. refl) (λ a b c. refl) (refl, refl)
          (λ S. clash (S.permissions 2 1 0 0 1 refl) refl);
      flows =
          permissions_apart flows_pair (refl, refl, refl, refl) (λ a b c. refl) (λ a b c. refl) (λ a b c. refl) (λ a b c. refl) (refl, refl)
          (λ S. clash refl (S.permissions 3 1 1 0 0 refl));
      both_ways_lem =
          permissions_apart both_ways_pair (refl, refl, refl, refl) (λ a b c. refl) (λ a b c. refl) (λ a b c. refl) (λ a b c. refl) (refl, refl)
          (λ S. clash (S.permissions 3 1 2 0 0 refl) refl);
      allows =
          permissions_apart allows_pair (refl, refl, refl, refl) (λ a b c. refl) (λ a b c. refl) (λ a b c. refl) (λ a b c. refl) (refl, refl)
          (λ S. clash refl (S.permissions 4 2 1 1 0 refl));
      self =
          permissions_apart self_pair (refl, refl, refl, refl) (λ a b c. refl) (λ a b c. refl) (λ a b c. refl) (λ a b c. refl) (refl, refl)
          (λ S. clash refl (S.permissions 4 2 0 1 0 refl));
      constraint_class =
          list_apart constraint_class_pair SameNodes (refl, refl, refl, refl) (λ a b c. refl) (λ a b c. refl) (λ a b c. refl) (λ a b c. refl)
          (λ a b c i. refl) (λ a b c i. refl) (λ a b c i. refl) refl
          (λ S. let z : ◌≡◌ {A = ℕ} 1 2 = ap (λ (l : List Record). (get_or l 0 no_record).a) S.constraints in omega arith);
      constraint_mask =
          list_apart constraint_mask_pair SameNodes (refl, refl, refl, refl) (λ a b c. refl) (λ a b c. refl) (λ a b c. refl) (λ a b c. refl)
          (λ a b c i. refl) (λ a b c i. refl) (λ a b c i. refl) refl
          (λ S. let z : ◌≡◌ {A = ℕ} 1 0 = ap (λ (l : List Record). (get_or l 0 no_record).mask) S.constraints in omega arith);
      constraint_root =
          list_apart constraint_root_pair SameNodes (refl, refl, refl, refl) (λ a b c. refl) (λ a b c. refl) (λ a b c. refl) (λ a b c. refl)
          (λ a b c i. refl) (λ a b c i. refl) (λ a b c i. refl) refl
          (λ S. let z : ◌≡◌ {A = ℕ} 1 2 = ap (λ (l : List Record). (get_or l 0 no_record).d) S.constraints in omega arith);
      node_operator =
          list_apart node_operator_pair SameConstraints (refl, refl, refl, refl) (λ a b c. refl) (λ a b c. refl) (λ a b c. refl) (λ a b c. refl)
          (λ a b c i. refl) (λ a b c i. refl) (λ a b c i. refl) refl
          (λ S. let z : ◌≡◌ {A = ℕ} 5 6 = ap (λ (l : List Record). (get_or l 1 no_record).a) S.nodes in omega arith);
      node_compared =
          list_apart node_compared_pair SameConstraints (refl, refl, refl, refl) (λ a b c. refl) (λ a b c. refl) (λ a b c. refl) (λ a b c. refl)
          (λ a b c i. refl) (λ a b c i. refl) (λ a b c i. refl) refl
          (λ S. let z : ◌≡◌ {A = ℕ} 1 2 = ap (λ (l : List Record). (get_or l 0 no_record).b) S.nodes in omega arith);
      node_child =
          list_apart node_child_pair SameConstraints (refl, refl, refl, refl) (λ a b c. refl) (λ a b c. refl) (λ a b c. refl) (λ a b c. refl)
          (λ a b c i. refl) (λ a b c i. refl) (λ a b c i. refl) refl
          (λ S. let z : ◌≡◌ {A = ℕ} 1 2 = ap (λ (l : List Record). (get_or l 2 no_record).mask) S.nodes in omega arith);
    }
