-- Truth values of up to 64 pairs of contexts at once: bit j of a word is for pair j, in which one context acts on the other.
use Rattle.std.specs.Prelude.{ℕ, ◌+◌, ◌*◌, ◌≤◌, ◌<◌, ◌≡◌, Bool, false, not, ◌||◌, List, ◌⊎◌, eqb, get_or}
use Rattle.base.specs.Bits.{bit}
use Rattle.policy_image.specs.declared.records.Record.{Record}
use Rattle.policy_image.specs.Layout.{root_of}
use Rattle.policy_image.specs.Policy.{Policy}
use Rattle.context.specs.declared.Context.{Context}
use Rattle.context.specs.declared.Event.{Event}
use Rattle.constraints.specs.Eval.{value_of, eval_node}
use Rattle.constraints.specs.Constraints.{constrains, constraints_hold}

-- the word r has f of each of m pairs
pub record Word (m : ℕ) (f : ℕ → Bool) (r : ℕ) : Type 0 where
  pub at : (j : ℕ) → j < m → bit r j ≡ f j

-- .. and one truth value for all 64
abbrev pub AllIf : Bool → ℕ → Type 0
AllIf b r = Word 64 (λ _. b) r

-- ---- what leaves say, as one list: the types of both sides, the words of `same role` and of `same user`, and for each side 16 words of
-- "the role is", by number, and 16 of "the user is"
abbrev pub leaf_entries : ℕ
leaf_entries = 68

abbrev pub same_role_at : ℕ
same_role_at = 2

abbrev pub same_user_at : ℕ
same_user_at = 3

abbrev pub role_words_at : ℕ → ℕ
role_words_at s = 4 + 32 * s

abbrev pub user_words_at : ℕ → ℕ
user_words_at s = 20 + 32 * s

-- .. of the contexts on a side, which all have one type: side 0 acts, side 1 is acted on
pub record SideOf (leaves : List ℕ) (s m : ℕ) (zs : ℕ → Context) : Type 0 where
  pub type : (j : ℕ) → j < m → (zs j).ty ≡ get_or leaves s 0
  pub role : (b : ℕ) → b < 16 → Word m (λ j. eqb (zs j).role b) (get_or leaves (role_words_at s + b) 0)
  pub user : (b : ℕ) → b < 16 → Word m (λ j. eqb (zs j).user b) (get_or leaves (user_words_at s + b) 0)

-- .. of m pairs, in which xs j acts on ys j
pub record LeavesOf (leaves : List ℕ) (m : ℕ) (xs ys : ℕ → Context) : Type 0 where
  pub few : m ≤ 64
  pub acting : SideOf leaves 0 m xs
  pub acted : SideOf leaves 1 m ys
  pub same_role : Word m (λ j. eqb (xs j).role (ys j).role) (get_or leaves same_role_at 0)
  pub same_user : Word m (λ j. eqb (xs j).user (ys j).user) (get_or leaves same_user_at 0)

-- a side is written, and nothing else
pub record SidePut (old new : List ℕ) (s m : ℕ) (zs : ℕ → Context) : Type 0 where
  pub side : SideOf new s m zs
  pub kept : (i : ℕ) → (i ≡ s → ⊥) → (i < role_words_at s) ⊎ (role_words_at s + 32 ≤ i) → get_or new i 0 ≡ get_or old i 0

-- ---- the word r has, for whatever pairs the leaves are of, the value of a leaf with the operator op and the number b
pub record LeafWord (leaves : List ℕ) (op b r : ℕ) : Type 0 where
  pub of : (m : ℕ) (xs ys : ℕ → Context) → LeavesOf leaves m xs ys → Word m (λ j. value_of op b 0 0 (λ _. false) (xs j) (ys j)) r

-- .. the value of a node
pub record NodeWord (p : Policy) (leaves : List ℕ) (n r : ℕ) : Type 0 where
  pub of : (m : ℕ) (xs ys : ℕ → Context) → LeavesOf leaves m xs ys → Word m (λ j. eval_node p (xs j) (ys j) n) r

-- .. whether the constraint c is true or is not on the event
pub record ConstraintWord (p : Policy) (c : Record) (e : Event) (leaves : List ℕ) (r : ℕ) : Type 0 where
  pub of : (m : ℕ) (xs ys : ℕ → Context) → LeavesOf leaves m xs ys → Word m (λ j. not (constrains c e) || eval_node p (xs j) (ys j) (root_of c)) r

-- .. whether all constraints on the event are true
pub record EventWord (p : Policy) (e : Event) (leaves : List ℕ) (r : ℕ) : Type 0 where
  pub of : (m : ℕ) (xs ys : ℕ → Context) → LeavesOf leaves m xs ys → Word m (λ j. constraints_hold p e (xs j) (ys j)) r
