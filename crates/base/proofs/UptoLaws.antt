-- Laws of the tests of the numbers from 1 to n.
use Prim.Native.Nat.{ℕ, zero, suc, ◌≤◌}
use mathlib.Core.Path.{◌≡◌, refl, sym, subst}
use mathlib.Core.Bool.{Bool, true, false}
use mathlib.Core.Logic.{⊎_elim}
use native.Mathlib.Nat.{eq-or-lt_of_le}
use native.Mathlib.Omega.{arith}
use Rattle.base.specs.Upto.{any_upto, all_upto}
use Rattle.base.proofs.BoolLaws.{clash, or_true, or_left, or_false, or_cases, and_true, and_first, and_second, true_or_false}

-- ---- some
pub any_yes : (f : ℕ → Bool) (n i : ℕ) → 1 ≤ i → i ≤ n → f i ≡ true → any_upto f n ≡ true
any_yes f zero i a b e = let z : ⊥ = omega arith in absurd z
any_yes f (suc n) i a b e =
    ⊎_elim (λ q. or_true (any_upto f n) (f (suc n)) (subst (λ (j : ℕ). f j ≡ true) q e))
    (λ l. or_left (any_upto f n) (f (suc n)) (any_yes f n i a (omega (arith, l)) e)) (eq-or-lt_of_le b)

pub any_no : (f : ℕ → Bool) (n : ℕ) → ((i : ℕ) → 1 ≤ i → i ≤ n → f i ≡ false) → any_upto f n ≡ false
any_no f zero h = refl
any_no f (suc n) h = or_false (any_upto f n) (f (suc n)) (any_no f n (λ i a b. h i a (omega arith))) (h (suc n) (omega arith) (omega arith))

-- a number at which a test holds
pub record Found (f : ℕ → Bool) (n : ℕ) : Type 0 where
  pub at : ℕ
  pub low : 1 ≤ at
  pub high : at ≤ n
  pub holds : f at ≡ true

pub any_found : (f : ℕ → Bool) (n : ℕ) → any_upto f n ≡ true → Found f n
any_found f zero e = absurd (clash e refl)
any_found f (suc n) e =
    ⊎_elim
    (λ h. let r = any_found f n h in let b = r.high in record { at = r.at; low = r.low; high = omega arith; holds = r.holds })
    (λ h. record { at = suc n; low = omega arith; high = omega arith; holds = h })
    (or_cases (any_upto f n) (f (suc n)) e)

-- ---- every
pub all_yes : (f : ℕ → Bool) (n : ℕ) → ((i : ℕ) → 1 ≤ i → i ≤ n → f i ≡ true) → all_upto f n ≡ true
all_yes f zero h = refl
all_yes f (suc n) h = and_true (all_upto f n) (f (suc n)) (all_yes f n (λ i a b. h i a (omega arith))) (h (suc n) (omega arith) (omega arith))

pub all_at : (f : ℕ → Bool) (n i : ℕ) → all_upto f n ≡ true → 1 ≤ i → i ≤ n → f i ≡ true
all_at f zero i e a b = let z : ⊥ = omega arith in absurd z
all_at f (suc n) i e a b =
    ⊎_elim (λ q. subst (λ (j : ℕ). f j ≡ true) (sym q) (and_second (all_upto f n) (f (suc n)) e))
    (λ l. all_at f n i (and_first (all_upto f n) (f (suc n)) e) a (omega (arith, l))) (eq-or-lt_of_le b)

pub all_no : (f : ℕ → Bool) (n i : ℕ) → 1 ≤ i → i ≤ n → f i ≡ false → all_upto f n ≡ false
all_no f n i a b e =
    ⊎_elim (λ h. absurd (clash (all_at f n i h a b) e)) (λ h. h) (true_or_false (all_upto f n))
