-- Question 6 of a policy (paper 01): "Are root, left and right, where used, kind 9 records, children lower than their node,
-- no node used twice?"
use Rattle.std.specs.Prelude.{ℕ, zero, suc, ◌≤◌, ◌<◌, ◌≡◌, Bool, true, false, ◌&&◌, eqb, leb, Option, None, Some}
use Rattle.policy_image.specs.declared.records.Record.{Record}
use Rattle.policy_image.specs.Layout.{root_of, left_of, right_of}
use Rattle.policy_image.specs.Policy.{Policy}

abbrev pub pick : Bool → Option ℕ → Option ℕ → Option ℕ
pick true a b = a
pick false a b = b

-- "8: constraint", "9: expression node", "left (operators 1 to 3)", "right (2 and 3)"
abbrev pub has_root : Record → Bool
has_root r = eqb r.kind 8

abbrev pub has_left : Record → Bool
has_left r = eqb r.kind 9 && (leb 1 r.a && leb r.a 3)

abbrev pub has_right : Record → Bool
has_right r = eqb r.kind 9 && (leb 2 r.a && leb r.a 3)

-- a record may use a node at two places: its root or its left at place 0, its right at place 1
unfoldable pub use_of : Record → ℕ → Option ℕ
use_of r zero = pick (has_root r) (Some (root_of r)) (pick (has_left r) (Some (left_of r)) None)
use_of r (suc zero) = pick (has_right r) (Some (right_of r)) None
use_of r (suc (suc s)) = None

-- record i of the policy uses node n at its place s, whether or not record i is used itself
pub record Uses (p : Policy) (i s n : ℕ) : Type 0 where
  pub low : 1 ≤ i
  pub high : i ≤ p.size
  pub at : use_of (p.rec i) s ≡ Some n

pub record IsNode (p : Policy) (n : ℕ) : Type 0 where
  pub low : 1 ≤ n
  pub high : n ≤ p.size
  pub nine : (p.rec n).kind ≡ 9

-- what record i, of kind κ, uses at n is a node, and lower where record i is a node itself
pub record UsedWell (p : Policy) (i κ n : ℕ) : Type 0 where
  pub node : IsNode p n
  pub lower : κ ≡ 9 → n < i

-- Question 6; "A node is used at most once, as a root or a child."
pub record NodesInOrder (p : Policy) : Type 0 where
  pub well : (i s n : ℕ) → Uses p i s n → UsedWell p i (p.rec i).kind n
  pub once : (i s j t n : ℕ) → Uses p i s n → Uses p j t n → (i ≡ j) × (s ≡ t)
