-- Truth values that decide statements: what a caller learns from one, and tests that antt computes, for theorems on
-- images that are written out.
use Prim.Native.Nat.{ℕ, zero, suc, ◌≤◌}
use mathlib.Core.Path.{◌≡◌, refl, sym, subst}
use mathlib.Core.Bool.{Bool, true, false, not, ◌&&◌, ◌||◌}
use mathlib.Core.Logic.{◌⊎◌, inl, inr, ⊎_elim}
use native.Mathlib.Nat.{eq-or-lt_of_le}
use native.Mathlib.Omega.{arith}
use borrow.Author.Tests.{leb-true, leb-false, eqb-true, eqb-false}
use lib.Dec.{leb, eqb}
use Rattle.base.specs.Inner.Decides.{Decides}
use Rattle.base.specs.Ranges.{Within}
use Rattle.base.specs.Upto.{all_upto}

-- ---- what a caller learns: after a test `b`, and after a test `!b`
pub yes_of : {P : Type 0} (b : Bool) → Decides b P → b ≡ true → P
yes_of {P} b h e = subst (λ (x : Bool). Decides x P) e h

pub no_of : {P : Type 0} (b : Bool) → Decides b P → b ≡ false → P → ⊥
no_of {P} b h e = subst (λ (x : Bool). Decides x P) e h

pub not_no : {P : Type 0} (b : Bool) → Decides b P → not b ≡ true → P → ⊥
not_no false h e = h
not_no true h e = λ p. let z : ◌≡◌ {A = ℕ} 0 1 = cc in omega arith

pub not_yes : {P : Type 0} (b : Bool) → Decides b P → not b ≡ false → P
not_yes true h e = h
not_yes false h e = let z : ◌≡◌ {A = ℕ} 0 1 = cc in absurd (omega arith)

pub decides_no : {P : Type 0} (b : Bool) → b ≡ false → (P → ⊥) → Decides b P
decides_no {P} b e n = subst (λ (x : Bool). Decides x P) (sym e) n

-- what decides a statement decides one that follows from it and that it follows from
pub decides_iff : {P Q : Type 0} (b : Bool) → (P → Q) → (Q → P) → Decides b P → Decides b Q
decides_iff true f g h = f h
decides_iff false f g h = λ q. h (g q)

-- ---- the same as a record, so that antt reads the test and the statement off its type
pub record Says (b : Bool) (P : Type 0) : Type 0 where
  pub it : Decides b P

pub says_yes : {b : Bool} {P : Type 0} → Says b P → b ≡ true → P
says_yes {b} {P} h e = yes_of b h.it e

pub says_no : {b : Bool} {P : Type 0} → Says b P → b ≡ false → P → ⊥
says_no {b} {P} h e = no_of b h.it e

pub says_iff : {b : Bool} {P Q : Type 0} → (P → Q) → (Q → P) → Says b P → Says b Q
says_iff {b} f g h = record { it = decides_iff b f g h.it }

pub dec_le : (a b : ℕ) → Says (leb a b) (a ≤ b)
dec_le a b = record { it = go (leb a b) refl }
  where
    go : (t : Bool) → leb a b ≡ t → Decides t (a ≤ b)
    go true e = leb-true a b e
    go false e = λ h. let l = leb-false a b e in omega arith

pub dec_eq : (a b : ℕ) → Says (eqb a b) (a ≡ b)
dec_eq a b = record { it = go (eqb a b) refl }
  where
    go : (t : Bool) → eqb a b ≡ t → Decides t (a ≡ b)
    go true e = eqb-true a b e
    go false e = eqb-false a b e

and' : (P Q : Type 0) (a b : Bool) → Decides a P → Decides b Q → Decides (a && b) (P × Q)
and' P Q true true h k = (h, k)
and' P Q true false h k = λ x. k x.1
and' P Q false true h k = λ x. h x.0
and' P Q false false h k = λ x. h x.0

or' : (P Q : Type 0) (a b : Bool) → Decides a P → Decides b Q → Decides (a || b) (P ⊎ Q)
or' P Q true true h k = inl h
or' P Q true false h k = inl h
or' P Q false true h k = inr k
or' P Q false false h k = λ x. ⊎_elim h k x

infixr 60 ◌both◌
pub ◌both◌ : {P Q : Type 0} {a b : Bool} → Says a P → Says b Q → Says (a && b) (P × Q)
◌both◌ {P} {Q} {a} {b} h k = record { it = and' P Q a b h.it k.it }

infixr 55 ◌or◌
pub ◌or◌ : {P Q : Type 0} {a b : Bool} → Says a P → Says b Q → Says (a || b) (P ⊎ Q)
◌or◌ {P} {Q} {a} {b} h k = record { it = or' P Q a b h.it k.it }

-- a range
abbrev pub within_b : ℕ → ℕ → ℕ → Bool
within_b lo hi n = leb lo n && leb n hi

pub dec_within : (lo hi n : ℕ) → Says (within_b lo hi n) (Within lo hi n)
dec_within lo hi n = says_iff (λ h. record { low = h.0; high = h.1 }) (λ h. (h.low, h.high)) (dec_le lo n both dec_le n hi)

-- every number from 1 to n
pub dec_all : {P : ℕ → Type 0} {f : ℕ → Bool} → ((i : ℕ) → Says (f i) (P i)) → (n : ℕ) → Says (all_upto f n) ((i : ℕ) → 1 ≤ i → i ≤ n → P i)
dec_all {P} {f} d zero = record { it = λ i a b. let z : ⊥ = omega arith in absurd z }
dec_all {P} {f} d (suc n) =
    says_iff
    (λ h i a b. ⊎_elim (λ e. subst P (sym e) h.1) (λ l. h.0 i a (omega (arith, l))) (eq-or-lt_of_le b))
    (λ h. (λ i a b. h i a (omega arith), h (suc n) (omega arith) (omega arith)))
    (dec_all d n both d (suc n))
