-- Renumbering keeps a record's kind, and a record of kinds 1 to 7 as it is.
use Prim.Native.Nat.{ℕ, ◌≤◌}
use mathlib.Core.Path.{◌≡◌, refl, ap, ◌∙◌}
use mathlib.Core.Bool.{Bool, true, false, ◌&&◌, cond}
use native.Mathlib.Omega.{arith}
use borrow.Author.Tests.{ne_eqb}
use lib.Dec.{eqb, leb}
use Rattle.policy_image.specs.declared.records.Record.{Record}
use Rattle.policy_image.specs.Layout.{root_of, left_of, right_of}
use Rattle.policy_expressions.specs.Nodes.{has_root, has_left, has_right}
use Rattle.policy_lists.specs.Joined.{with_root, with_children, root_moved, left_moved, right_moved, renumbered}

either_kind : (t : Bool) (x r : Record) → x.kind ≡ r.kind → (cond t x r).kind ≡ r.kind
either_kind true x r e = e
either_kind false x r e = refl

module _ (to : ℕ → ℕ) (r : Record) where
  pub renumbered_kind : (renumbered to r).kind ≡ r.kind
  renumbered_kind =
      let y = right_moved to r in
      let z = left_moved to y in
      either_kind (has_root z) (with_root (to (root_of z)) z) z refl
      ∙ either_kind (has_left y) (with_children (to (left_of y)) (right_of y) y) y refl
      ∙ either_kind (has_right r) (with_children (left_of r) (to (right_of r)) r) r refl

  pub renumbered_same : r.kind ≤ 7 → renumbered to r ≡ r
  renumbered_same h = ap (λ (x : Record). root_moved to (left_moved to x)) right ∙ ap (root_moved to) left ∙ root
    where
      nine : eqb r.kind 9 ≡ false
      nine = ne_eqb r.kind 9 (λ e. let z : ⊥ = omega arith in z)

      root : root_moved to r ≡ r
      root = ap (λ (t : Bool). cond t (with_root (to (root_of r)) r) r) (ne_eqb r.kind 8 (λ e. let z : ⊥ = omega arith in z))

      left : left_moved to r ≡ r
      left = ap (λ (t : Bool). cond (t && (leb 1 r.a && leb r.a 3)) (with_children (to (left_of r)) (right_of r) r) r) nine

      right : right_moved to r ≡ r
      right = ap (λ (t : Bool). cond (t && (leb 2 r.a && leb r.a 3)) (with_children (left_of r) (to (right_of r)) r) r) nine
