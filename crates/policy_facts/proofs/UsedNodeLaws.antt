-- The records of a policy that passes question 6 use nodes alone: renumbering them goes by what becomes of nodes.
use Prim.Native.Nat.{ℕ, ◌≤◌}
use mathlib.Core.Path.{◌≡◌, refl}
use mathlib.Core.Bool.{true, false}
use mathlib.Core.Logic.{⊎_elim}
use Rattle.base.proofs.BoolLaws.{true_or_false}
use Rattle.policy_image.specs.declared.records.Record.{Record}
use Rattle.policy_image.specs.Layout.{root_of, left_of, right_of}
use Rattle.policy_image.specs.Policy.{Policy}
use Rattle.std.specs.Prelude.{Some}
use Rattle.policy_expressions.specs.Nodes.{has_root, has_left, has_right, use_of, IsNode, NodesInOrder}
use Rattle.policy_lists.specs.Joined.{renumbered}
use Rattle.policy_lists.proofs.RenumberUseLaws.{use_first, use_second, no_root_left, renumbered_agrees}

module _ (p : Policy) (N : NodesInOrder p) (i : ℕ) (low : 1 ≤ i) (high : i ≤ p.size) where
  abbrev r : Record
  r = p.rec i

  used : (s n : ℕ) → use_of r s ≡ Some n → IsNode p n
  used s n e = (N.well i s n (record { low = low; high = high; at = e })).node

  used_root : has_root r ≡ true → IsNode p (root_of r)
  used_root a = used 0 (root_of r) (use_first r true (has_left r) a refl)

  pub used_left : has_left (p.rec i) ≡ true → IsNode p (left_of (p.rec i))
  used_left b =
      ⊎_elim (λ a. absurd (no_root_left r a b)) (λ a. used 0 (left_of r) (use_first r false true a b)) (true_or_false (has_root r))

  used_right : has_right r ≡ true → IsNode p (right_of r)
  used_right c = used 1 (right_of r) (use_second r true c)

  pub renumbered_used : (to other : ℕ → ℕ) → ((n : ℕ) → IsNode p n → to n ≡ other n) → renumbered to (p.rec i) ≡ renumbered other (p.rec i)
  renumbered_used to other h =
      renumbered_agrees to other r (λ a. h (root_of r) (used_root a)) (λ b. h (left_of r) (used_left b)) (λ c. h (right_of r) (used_right c))
