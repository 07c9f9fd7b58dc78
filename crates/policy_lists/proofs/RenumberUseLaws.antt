-- A renumbered record uses at each place what `to` gives for what it used there.
use Prim.Native.Nat.{ℕ, zero, suc, ◌+◌, ◌*◌, ◌/◌, ◌%◌, ◌<◌}
use mathlib.Core.Path.{◌≡◌, refl, sym, ap, ap₂, subst, ◌∙◌}
use mathlib.Core.Bool.{Bool, true, false, ◌&&◌, cond}
use native.Mathlib.Omega.{arith}
use borrow.Author.Tests.{eqb-true, leb-true, le-leb}
use lib.Dec.{eqb, leb}
use Rattle.base.proofs.BoolLaws.{clash, and_true, and_first, and_second}
use Rattle.policy_image.specs.declared.records.Record.{Record}
use Rattle.policy_image.specs.Layout.{root_of, left_of, right_of}
use Rattle.std.specs.Prelude.{Option, None, Some}
use Rattle.policy_expressions.specs.Nodes.{pick, has_root, has_left, has_right, use_of}
use Rattle.policy_lists.specs.Joined.{with_root, with_children, root_moved, left_moved, right_moved, renumbered}

abbrev pub moved_use : (ℕ → ℕ) → Option ℕ → Option ℕ
moved_use to None = None
moved_use to (Some n) = Some (to n)

-- ---- what a record uses, by the answers on its kind and its operator
pub use_first : (w : Record) (x y : Bool) → has_root w ≡ x → has_left w ≡ y → use_of w 0 ≡ pick x (Some (root_of w)) (pick y (Some (left_of w)) None)
unfolding use_of
use_first w x y a b = ap₂ (λ (x y : Bool). pick x (Some (root_of w)) (pick y (Some (left_of w)) None)) a b

pub use_second : (w : Record) (z : Bool) → has_right w ≡ z → use_of w 1 ≡ pick z (Some (right_of w)) None
unfolding use_of
use_second w z c = ap (λ (z : Bool). pick z (Some (right_of w)) None) c

use_later : (w : Record) (s : ℕ) → use_of w (suc (suc s)) ≡ None
unfolding use_of
use_later w s = refl

pub no_root_left : (r : Record) → has_root r ≡ true → has_left r ≡ true → ⊥
no_root_left r a b =
    let k = eqb-true r.kind 8 a in
    let l = eqb-true r.kind 9 (and_first (eqb r.kind 9) (leb 1 r.a && leb r.a 3) b) in
    omega arith

right_left : (r : Record) → has_right r ≡ true → has_left r ≡ true
right_left r c =
    let n = and_first (eqb r.kind 9) (leb 2 r.a && leb r.a 3) c in
    let m = and_second (eqb r.kind 9) (leb 2 r.a && leb r.a 3) c in
    let l = leb-true 2 r.a (and_first (leb 2 r.a) (leb r.a 3) m) in
    and_true (eqb r.kind 9) (leb 1 r.a && leb r.a 3) n
    (and_true (leb 1 r.a) (leb r.a 3) (le-leb 1 r.a (omega arith)) (and_second (leb 2 r.a) (leb r.a 3) m))

module _ (to : ℕ → ℕ) where
  root_by : (w : Record) (t : Bool) → has_root w ≡ t → root_moved to w ≡ cond t (with_root (to (root_of w)) w) w
  root_by w t e = ap (λ (t : Bool). cond t (with_root (to (root_of w)) w) w) e

  left_by : (w : Record) (t : Bool) → has_left w ≡ t → left_moved to w ≡ cond t (with_children (to (left_of w)) (right_of w) w) w
  left_by w t e = ap (λ (t : Bool). cond t (with_children (to (left_of w)) (right_of w) w) w) e

  right_by : (w : Record) (t : Bool) → has_right w ≡ t → right_moved to w ≡ cond t (with_children (left_of w) (to (right_of w)) w) w
  right_by w t e = ap (λ (t : Bool). cond t (with_children (left_of w) (to (right_of w)) w) w) e

  -- ---- what renumbering makes of a record, by the same answers
  module _ (r : Record) where
    abbrev righted : Record
    righted = with_children (left_of r) (to (right_of r)) r

    pub moved_none : has_root r ≡ false → has_left r ≡ false → has_right r ≡ false → renumbered to r ≡ r
    moved_none a b c =
        ap (λ (x : Record). root_moved to (left_moved to x)) (right_by r false c) ∙ ap (root_moved to) (left_by r false b) ∙ root_by r false a

    pub moved_root : has_root r ≡ true → has_left r ≡ false → has_right r ≡ false → renumbered to r ≡ with_root (to (root_of r)) r
    moved_root a b c =
        ap (λ (x : Record). root_moved to (left_moved to x)) (right_by r false c) ∙ ap (root_moved to) (left_by r false b) ∙ root_by r true a

    pub moved_left : has_root r ≡ false → has_left r ≡ true → has_right r ≡ false → renumbered to r ≡ with_children (to (left_of r)) (right_of r) r
    moved_left a b c =
        ap (λ (x : Record). root_moved to (left_moved to x)) (right_by r false c) ∙ ap (root_moved to) (left_by r true b)
        ∙ root_by (with_children (to (left_of r)) (right_of r) r) false a

    pub moved_both : has_root r ≡ false → has_left r ≡ true → has_right r ≡ true → renumbered to r ≡ with_children (to (left_of r)) (to (right_of r)) r
    moved_both a b c =
        ap (λ (x : Record). root_moved to (left_moved to x)) (right_by r true c)
        ∙ ap (root_moved to) (left_by righted true b)
        ∙ root_by (with_children (to (left_of righted)) (right_of righted) righted) false a
        ∙ ap₂ (λ (x y : ℕ). with_children (to x) y r)
        (let e : (left_of r + 65536 * to (right_of r)) % 65536 ≡ left_of r = omega arith in e)
        (let e : (left_of r + 65536 * to (right_of r)) / 65536 ≡ to (right_of r) = omega arith in e)

    -- what holds in each of the four cases holds of the renumbered record
    pub moved_cases : (P : Record → Type 0)
        → (has_root r ≡ true → has_left r ≡ false → has_right r ≡ false → P (with_root (to (root_of r)) r))
        → (has_root r ≡ false → has_left r ≡ true → has_right r ≡ false → P (with_children (to (left_of r)) (right_of r) r))
        → (has_root r ≡ false → has_left r ≡ true → has_right r ≡ true → P (with_children (to (left_of r)) (to (right_of r)) r))
        → (has_root r ≡ false → has_left r ≡ false → has_right r ≡ false → P r)
        → P (renumbered to r)
    moved_cases P root left both none = go (has_root r) (has_left r) (has_right r) refl refl refl
      where
        go : (x y z : Bool) → has_root r ≡ x → has_left r ≡ y → has_right r ≡ z → P (renumbered to r)
        go true true z a b c = absurd (no_root_left r a b)
        go true false true a b c = absurd (clash (right_left r c) b)
        go true false false a b c = subst P (sym (moved_root a b c)) (root a b c)
        go false true false a b c = subst P (sym (moved_left a b c)) (left a b c)
        go false true true a b c = subst P (sym (moved_both a b c)) (both a b c)
        go false false true a b c = absurd (clash (right_left r c) b)
        go false false false a b c = subst P (sym (moved_none a b c)) (none a b c)

    -- the record w uses at each place what `to` gives for what r uses there
    pub record UsesMoved (w : Record) : Type 0 where
      pub first : use_of w 0 ≡ moved_use to (use_of r 0)
      pub second : use_of w 1 ≡ moved_use to (use_of r 1)

    -- by the kind and the operator, which w has from r
    as_moved : (w : Record) (x y z : Bool)
        → has_root r ≡ x → has_left r ≡ y → has_right r ≡ z → has_root w ≡ x → has_left w ≡ y → has_right w ≡ z
        → pick x (Some (root_of w)) (pick y (Some (left_of w)) None) ≡ moved_use to (pick x (Some (root_of r)) (pick y (Some (left_of r)) None))
        → pick z (Some (right_of w)) None ≡ moved_use to (pick z (Some (right_of r)) None)
        → UsesMoved w
    as_moved w x y z a b c a' b' c' f g =
        record {
          first = use_first w x y a' b' ∙ f ∙ sym (ap (moved_use to) (use_first r x y a b));
          second = use_second w z c' ∙ g ∙ sym (ap (moved_use to) (use_second r z c));
        }

    -- the left stands in two bytes, so what it becomes must fit them
    module _ (fits : (n : ℕ) → use_of r 0 ≡ Some n → to n < 65536) where
      fits_left : has_root r ≡ false → has_left r ≡ true → to (left_of r) < 65536
      fits_left a b = fits (left_of r) (use_first r false true a b)

      moved_uses : UsesMoved (renumbered to r)
      moved_uses =
          moved_cases UsesMoved
          (λ a b c.
          as_moved (with_root (to (root_of r)) r) true false false a b c a b c
          (ap Some (let n : ℕ = to (root_of r) in let e : n % 256 + 256 * (n / 256) ≡ n = omega arith in e)) refl)
          (λ a b c.
          let h = fits_left a b in
          as_moved (with_children (to (left_of r)) (right_of r) r) false true false a b c a b c
          (ap Some (let e : (to (left_of r) + 65536 * right_of r) % 65536 ≡ to (left_of r) = omega arith in e)) refl)
          (λ a b c.
          let h = fits_left a b in
          as_moved (with_children (to (left_of r)) (to (right_of r)) r) false true true a b c a b c
          (ap Some (let e : (to (left_of r) + 65536 * to (right_of r)) % 65536 ≡ to (left_of r) = omega arith in e))
          (ap Some (let e : (to (left_of r) + 65536 * to (right_of r)) / 65536 ≡ to (right_of r) = omega arith in e)))
          (λ a b c. as_moved r false false false a b c a b c refl refl)

      pub use_moved : (s : ℕ) → use_of (renumbered to r) s ≡ moved_use to (use_of r s)
      use_moved zero = moved_uses.first
      use_moved (suc zero) = moved_uses.second
      use_moved (suc (suc s)) = use_later (renumbered to r) s ∙ sym (ap (moved_use to) (use_later r s))

      -- so what the renumbered record uses is what `to` gives for a node that the record used
      pub use_back : (s m : ℕ) → use_of (renumbered to r) s ≡ Some m → (n : ℕ) × (use_of r s ≡ Some n) × (m ≡ to n)
      use_back s m e = go (use_of r s) refl
        where
          go : (u : Option ℕ) → use_of r s ≡ u → (n : ℕ) × (use_of r s ≡ Some n) × (m ≡ to n)
          go None h = let z : Some m ≡ None = sym e ∙ use_moved s ∙ ap (moved_use to) h in let o : ◌≡◌ {A = ℕ} 0 1 = cc in let b : ⊥ = omega arith in absurd b
          go (Some n) h = let z : Some m ≡ Some (to n) = sym e ∙ use_moved s ∙ ap (moved_use to) h in let o : m ≡ to n = cc in (n, h, o)

-- two ways to renumber that agree on the nodes that a record uses
pub renumbered_agrees : (to other : ℕ → ℕ) (r : Record) → (has_root r ≡ true → to (root_of r) ≡ other (root_of r)) → (has_left r ≡ true → to (left_of r) ≡ other (left_of r))
    → (has_right r ≡ true → to (right_of r) ≡ other (right_of r)) → renumbered to r ≡ renumbered other r
renumbered_agrees to other r root left right =
    moved_cases to r (λ x. x ≡ renumbered other r)
    (λ a b c. ap (λ (n : ℕ). with_root n r) (root a) ∙ sym (moved_root other r a b c))
    (λ a b c. ap (λ (n : ℕ). with_children n (right_of r) r) (left b) ∙ sym (moved_left other r a b c))
    (λ a b c. ap₂ (λ (m n : ℕ). with_children m n r) (left b) (right c) ∙ sym (moved_both other r a b c))
    (λ a b c. sym (moved_none other r a b c))
