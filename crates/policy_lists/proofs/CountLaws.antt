-- The larger of two numbers, and question 2 of the joined policy: the larger of two counts in range is in range.
use Prim.Native.Nat.{ℕ, ◌≤◌}
use mathlib.Core.Path.{◌≡◌, refl}
use mathlib.Core.Bool.{Bool, true, false, cond}
use native.Mathlib.Omega.{arith}
use borrow.Author.Tests.{leb-true, leb-false}
use lib.Dec.{leb}
use Rattle.base.specs.Ranges.{Within}
use Rattle.policy_image.specs.declared.counts.Counts.{Counts}
use Rattle.policy_image.specs.Counts.{CountsInRange}
use Rattle.policy_image.specs.Policy.{Policy}
use Rattle.policy_lists.specs.Joined.{larger, larger_counts, joined}

-- what holds of both holds of the larger
pub larger_either : (P : ℕ → Type 0) (a b : ℕ) → P a → P b → P (larger a b)
larger_either P a b x y = go (leb a b)
  where
    go : (t : Bool) → P (cond t b a)
    go true = y
    go false = x

pub larger_left : (a b : ℕ) → a ≤ larger a b
larger_left a b = go (leb a b) refl
  where
    go : (t : Bool) → leb a b ≡ t → a ≤ cond t b a
    go true e = leb-true a b e
    go false e = omega arith

pub larger_right : (a b : ℕ) → b ≤ larger a b
larger_right a b = go (leb a b) refl
  where
    go : (t : Bool) → leb a b ≡ t → b ≤ cond t b a
    go true e = omega arith
    go false e = let h = leb-false a b e in omega (arith, h)

pub larger_counts_lem : (c d : Counts) → CountsInRange c → CountsInRange d → CountsInRange (larger_counts c d)
larger_counts_lem c d C D =
    record {
      types = larger_either (Within 1 255) c.types d.types C.types D.types;
      roles = larger_either (Within 1 15) c.roles d.roles C.roles D.roles;
      users = larger_either (Within 1 15) c.users d.users C.users D.users;
      classes = larger_either (Within 1 31) c.classes d.classes C.classes D.classes;
    }

pub joined_counts_range : (p q : Policy) → CountsInRange p.counts → CountsInRange q.counts → CountsInRange (joined p q).counts
joined_counts_range p q C D =
    let L = larger_counts_lem p.counts q.counts C D in
    record { types = L.types; roles = L.roles; users = L.users; classes = L.classes }
