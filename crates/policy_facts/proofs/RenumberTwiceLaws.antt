-- Renumbering twice is renumbering once, and renumbering does not look at a record's next.
use Prim.Native.Nat.{ℕ, ◌+◌, ◌*◌, ◌/◌, ◌%◌, ◌<◌}
use mathlib.Core.Path.{◌≡◌, sym, ap, ap₂, ◌∙◌}
use mathlib.Core.Bool.{true}
use native.Mathlib.Omega.{arith}
use Rattle.policy_image.specs.declared.records.Record.{Record}
use Rattle.policy_image.specs.Layout.{root_of, left_of, right_of}
use Rattle.policy_expressions.specs.Nodes.{has_left}
use Rattle.policy_lists.specs.Lists.{with_next}
use Rattle.policy_lists.specs.Joined.{with_root, with_children, renumbered}
use Rattle.policy_lists.proofs.RenumberUseLaws.{moved_none, moved_root, moved_left, moved_both, moved_cases}

pub renumbered_next : (to : ℕ → ℕ) (n : ℕ) (r : Record) → renumbered to (with_next n r) ≡ with_next n (renumbered to r)
renumbered_next to n r =
    moved_cases to r (λ w. renumbered to (with_next n r) ≡ with_next n w) (moved_root to (with_next n r)) (moved_left to (with_next n r))
    (moved_both to (with_next n r)) (moved_none to (with_next n r))

-- the left stands in two bytes, so what it becomes at first must fit them
pub renumber_twice : (to next : ℕ → ℕ) (r : Record) → (has_left r ≡ true → to (left_of r) < 65536)
    → renumbered next (renumbered to r) ≡ renumbered (λ n. next (to n)) r
renumber_twice to next r fits =
    moved_cases to r (λ w. renumbered next w ≡ renumbered (λ n. next (to n)) r)
    (λ a b c.
    let n : ℕ = to (root_of r) in
    moved_root next (with_root n r) a b c
    ∙ ap (λ (x : ℕ). with_root (next x) r) (let e : n % 256 + 256 * (n / 256) ≡ n = omega arith in e)
    ∙ sym (moved_root (λ n. next (to n)) r a b c))
    (λ a b c.
    let h = fits b in
    moved_left next (with_children (to (left_of r)) (right_of r) r) a b c
    ∙ ap₂ (λ (x y : ℕ). with_children (next x) y r) (left_back (to (left_of r)) (right_of r) h) (right_back (to (left_of r)) (right_of r) h)
    ∙ sym (moved_left (λ n. next (to n)) r a b c))
    (λ a b c.
    let h = fits b in
    moved_both next (with_children (to (left_of r)) (to (right_of r)) r) a b c
    ∙ ap₂ (λ (x y : ℕ). with_children (next x) (next y) r) (left_back (to (left_of r)) (to (right_of r)) h) (right_back (to (left_of r)) (to (right_of r)) h)
    ∙ sym (moved_both (λ n. next (to n)) r a b c))
    (λ a b c. moved_none next r a b c ∙ sym (moved_none (λ n. next (to n)) r a b c))
  where
    left_back : (x y : ℕ) → x < 65536 → (x + 65536 * y) % 65536 ≡ x
    left_back x y h = omega arith

    right_back : (x y : ℕ) → x < 65536 → (x + 65536 * y) / 65536 ≡ y
    right_back x y h = omega arith
