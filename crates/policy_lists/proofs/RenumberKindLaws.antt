-- What renumbering makes of a record, by its kind and its operator.
use Prim.Native.Nat.{ℕ, ◌≤◌, ◌<◌}
use mathlib.Core.Path.{◌≡◌, ap, ◌∙◌}
use mathlib.Core.Bool.{Bool, true, false, ◌&&◌}
use native.Mathlib.Omega.{arith}
use borrow.Author.Tests.{eq-eqb, ne_eqb, le-leb, lt-leb}
use lib.Dec.{eqb, leb}
use Rattle.base.proofs.BoolLaws.{and_true, and_no}
use Rattle.policy_image.specs.declared.records.Record.{Record}
use Rattle.policy_image.specs.Layout.{root_of, left_of, right_of}
use Rattle.policy_expressions.specs.Nodes.{has_root, has_left, has_right}
use Rattle.policy_lists.specs.Joined.{with_root, with_children, renumbered}
use Rattle.policy_lists.proofs.RenumberUseLaws.{moved_none, moved_root, moved_left, moved_both}

-- ---- the answers on a record's kind and operator
module _ (r : Record) where
  pub root_yes : r.kind ≡ 8 → has_root r ≡ true
  root_yes e = eq-eqb r.kind 8 e

  root_no : (r.kind ≡ 8 → ⊥) → has_root r ≡ false
  root_no d = ne_eqb r.kind 8 d

  -- a record of another kind has no children
  no_node : (t : Bool) → (r.kind ≡ 9 → ⊥) → (eqb r.kind 9 && t) ≡ false
  no_node t d = ap (λ (b : Bool). b && t) (ne_eqb r.kind 9 d)

  operator_in : (l h : ℕ) → l ≤ r.a → r.a ≤ h → (leb l r.a && leb r.a h) ≡ true
  operator_in l h a b = and_true (leb l r.a) (leb r.a h) (le-leb l r.a a) (le-leb r.a h b)

  operator_below : (l h : ℕ) → r.a < l → (leb l r.a && leb r.a h) ≡ false
  operator_below l h a = ap (λ (b : Bool). b && leb r.a h) (lt-leb l r.a a)

  operator_above : (l h : ℕ) → h < r.a → (leb l r.a && leb r.a h) ≡ false
  operator_above l h b = and_no (leb l r.a) (leb r.a h) (lt-leb r.a h b)

  module _ (nine : r.kind ≡ 9) where
    of_node : {t c : Bool} → t ≡ c → (eqb r.kind 9 && t) ≡ c
    of_node {t} e = ap (λ (b : Bool). b && t) (eq-eqb r.kind 9 nine) ∙ e

    pub left_yes : 1 ≤ r.a → r.a ≤ 3 → has_left r ≡ true
    left_yes a b = of_node (operator_in 1 3 a b)

    pub right_yes : 2 ≤ r.a → r.a ≤ 3 → has_right r ≡ true
    right_yes a b = of_node (operator_in 2 3 a b)

    no_root_lem : has_root r ≡ false
    no_root_lem = root_no (λ e. let z : ⊥ = omega arith in z)

    -- ---- nodes
    module _ (to : ℕ → ℕ) where
      pub not_moved : r.a ≡ 1 → renumbered to r ≡ with_children (to (left_of r)) (right_of r) r
      not_moved e = moved_left to r no_root_lem (left_yes (omega arith) (omega arith)) (of_node (operator_below 2 3 (omega arith)))

      pub pair_moved : 2 ≤ r.a → r.a ≤ 3 → renumbered to r ≡ with_children (to (left_of r)) (to (right_of r)) r
      pair_moved a b = moved_both to r no_root_lem (left_yes (omega arith) b) (right_yes a b)

      pub low_same : r.a < 1 → renumbered to r ≡ r
      low_same a = moved_none to r no_root_lem (of_node (operator_below 1 3 a)) (of_node (operator_below 2 3 (omega arith)))

      pub high_same : 3 < r.a → renumbered to r ≡ r
      high_same a = moved_none to r no_root_lem (of_node (operator_above 1 3 a)) (of_node (operator_above 2 3 a))

  -- ---- other records
  module _ (to : ℕ → ℕ) where
    pub constraint_moved : r.kind ≡ 8 → renumbered to r ≡ with_root (to (root_of r)) r
    constraint_moved e = let d : r.kind ≡ 9 → ⊥ = λ n. omega arith in moved_root to r (root_yes e) (no_node (leb 1 r.a && leb r.a 3) d) (no_node (leb 2 r.a && leb r.a 3) d)

    pub other_same : (r.kind ≡ 8 → ⊥) → (r.kind ≡ 9 → ⊥) → renumbered to r ≡ r
    other_same e d = moved_none to r (root_no e) (no_node (leb 1 r.a && leb r.a 3) d) (no_node (leb 2 r.a && leb r.a 3) d)
