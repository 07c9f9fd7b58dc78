-- Which nodes a record uses, by its kind and its operator; and the children of a node, where question 6 is answered with yes.
use Prim.Native.Nat.{ℕ, ◌≤◌, ◌<◌}
use mathlib.Core.Path.{◌≡◌}
use mathlib.Core.Logic.{⊎_elim}
use native.Mathlib.Omega.{arith}
use borrow.Author.Tests.{eq-eqb, ne_eqb, le-leb, lt-leb}
use Rattle.base.proofs.Numbers.{split_eq, split_le}
use Rattle.policy_image.specs.declared.records.Record.{Record}
use Rattle.policy_image.specs.Layout.{root_of, left_of, right_of}
use Rattle.policy_image.specs.Policy.{Policy}
use Rattle.std.specs.Prelude.{None, Some}
use Rattle.policy_expressions.specs.Nodes.{use_of, Uses, IsNode, NodesInOrder}

pub use_left : (r : Record) → r.kind ≡ 9 → 1 ≤ r.a → r.a ≤ 3 → use_of r 0 ≡ Some (left_of r)
unfolding use_of
use_left r k a b = simp (ne_eqb r.kind 8 (omega arith), eq-eqb r.kind 9 k, le-leb 1 r.a a, le-leb r.a 3 b)

pub use_right : (r : Record) → r.kind ≡ 9 → 2 ≤ r.a → r.a ≤ 3 → use_of r 1 ≡ Some (right_of r)
unfolding use_of
use_right r k a b = simp (eq-eqb r.kind 9 k, le-leb 2 r.a a, le-leb r.a 3 b)

pub use_root : (r : Record) → r.kind ≡ 8 → use_of r 0 ≡ Some (root_of r)
unfolding use_of
use_root r k = simp (eq-eqb r.kind 8 k)

pub use_none : (r : Record) → (r.kind ≡ 8 → ⊥) → (r.kind ≡ 9 → 1 ≤ r.a → r.a ≤ 3 → ⊥) → use_of r 0 ≡ None
unfolding use_of
use_none r n h =
    ⊎_elim
    (λ k. ⊎_elim
    (λ a. ⊎_elim (λ b. absurd (h k a b)) (λ b. simp (ne_eqb r.kind 8 n, eq-eqb r.kind 9 k, le-leb 1 r.a a, lt-leb r.a 3 b)) (split_le r.a 3))
    (λ a. simp (ne_eqb r.kind 8 n, eq-eqb r.kind 9 k, lt-leb 1 r.a a)) (split_le 1 r.a))
    (λ k. simp (ne_eqb r.kind 8 n, ne_eqb r.kind 9 k))
    (split_eq r.kind 9)

pub use_none_right : (r : Record) → (r.kind ≡ 9 → 2 ≤ r.a → r.a ≤ 3 → ⊥) → use_of r 1 ≡ None
unfolding use_of
use_none_right r h =
    ⊎_elim
    (λ k. ⊎_elim
    (λ a. ⊎_elim (λ b. absurd (h k a b)) (λ b. simp (eq-eqb r.kind 9 k, le-leb 2 r.a a, lt-leb r.a 3 b)) (split_le r.a 3))
    (λ a. simp (eq-eqb r.kind 9 k, lt-leb 2 r.a a)) (split_le 2 r.a))
    (λ k. simp (ne_eqb r.kind 9 k))
    (split_eq r.kind 9)

module _ (p : Policy) (N : NodesInOrder p) (n : ℕ) (I : IsNode p n) where
  pub left_child : 1 ≤ (p.rec n).a → (p.rec n).a ≤ 3 → IsNode p (left_of (p.rec n)) × (left_of (p.rec n) < n)
  left_child a b =
      let m : Uses p n 0 (left_of (p.rec n)) = record { low = I.low; high = I.high; at = use_left (p.rec n) I.nine a b } in
      let q = N.well n 0 (left_of (p.rec n)) m in (q.node, q.lower I.nine)

  pub right_child : 2 ≤ (p.rec n).a → (p.rec n).a ≤ 3 → IsNode p (right_of (p.rec n)) × (right_of (p.rec n) < n)
  right_child a b =
      let m : Uses p n 1 (right_of (p.rec n)) = record { low = I.low; high = I.high; at = use_right (p.rec n) I.nine a b } in
      let q = N.well n 1 (right_of (p.rec n)) m in (q.node, q.lower I.nine)
