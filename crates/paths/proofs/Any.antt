-- Truth values, tests of the numbers below a bound, and functions cut off at a number.
use mathlib.Core.Path.{◌≡◌, refl, subst}
use mathlib.Core.Bool.{Bool, true, false, ◌&&◌, ◌||◌}
use mathlib.Core.Logic.{◌⊎◌, inl, inr, ◌↔◌}
use Prim.Native.Nat.{ℕ, zero, suc, ◌<◌}
use native.Mathlib.Nat.{not-suc-le-zero, le_refl}
use native.Mathlib.Decide.{ℕ_discrete, dec_lt}
use native.Mathlib.Omega.{arith}
use lib.Dec.{T}
use Rattle.paths.specs.Inner.Below.{any_below}

-- ---- truth values
pub or_cases : (a b : Bool) → T (a || b) → T a ⊎ T b
or_cases true b t = inl tt
or_cases false b t = inr t

pub or_left : (a b : Bool) → T a → T (a || b)
or_left true b t = tt
or_left false b t = absurd t

pub or_right : (a b : Bool) → T b → T (a || b)
or_right true b t = tt
or_right false b t = t

and_left : (a b : Bool) → T (a && b) → T a
and_left true b t = tt
and_left false b t = absurd t

and_right : (a b : Bool) → T (a && b) → T b
and_right true b t = t
and_right false b t = absurd t

and_both : (a b : Bool) → T a → T b → T (a && b)
and_both true b s t = t
and_both false b s t = absurd s

-- `simp and_T at t` takes any nest of && apart, and `simp and_T (s, t)` makes one
pub and_T : (a b : Bool) → T (a && b) ↔ (T a × T b)
and_T a b = (λ t. (and_left a b t, and_right a b t), λ t. and_both a b t.0 t.1)

pub T-dec : (b : Bool) → Dec (T b)
T-dec true = yes tt
T-dec false = no (λ t. t)

pub not_true : (b : Bool) → ¬ T b → b ≡ false
not_true true h = absurd (h tt)
not_true false h = refl

-- two tests that pass together are one
pub same_test : (a b : Bool) → (T a → T b) → (T b → T a) → a ≡ b
same_test true true f g = refl
same_test true false f g = absurd (f tt)
same_test false true f g = absurd (g tt)
same_test false false f g = refl

-- ---- some number below n
pub any_witness : (n : ℕ) (f : ℕ → Bool) → T (any_below n f) → (k : ℕ) × (k < n) × T (f k)
any_witness zero f t = absurd t
any_witness (suc n) f t = go (or_cases (any_below n f) (f n) t) (λ s. any_witness n f s)
  where
    go : T (any_below n f) ⊎ T (f n) → (T (any_below n f) → (k : ℕ) × (k < n) × T (f k)) → (k : ℕ) × (k < suc n) × T (f k)
    go (inl s) ih = let r = ih s in (r.0, omega (arith, r.1), r.2)
    go (inr s) ih = (n, le_refl (suc n), s)

pub any_of : (n : ℕ) (f : ℕ → Bool) (k : ℕ) → k < n → T (f k) → T (any_below n f)
any_of zero f k h t = absurd (not-suc-le-zero h)
any_of (suc n) f k h t = go (ℕ_discrete k n) (λ s. any_of n f k s t)
  where
    go : Dec (k ≡ n) → (k < n → T (any_below n f)) → T (any_below n f || f n)
    go (yes e) ih = or_right (any_below n f) (f n) (subst (λ (q : ℕ). T (f q)) e t)
    go (no ne) ih = or_left (any_below n f) (f n) (ih (omega arith))

pub any_same : (n : ℕ) (f g : ℕ → Bool) → ((k : ℕ) → k < n → f k ≡ g k) → any_below n f ≡ any_below n g
any_same zero f g h = refl
any_same (suc n) f g h = cc (any_same n f g (λ k q. h k (omega arith)), h n (omega arith))

-- what holds below j, and at j, holds below j + 1
pub next : (P : ℕ → Type 0) (j : ℕ) → ((l : ℕ) → l < j → P l) → P j → (l : ℕ) → l < suc j → P l
next P j f a l h = go (dec_lt l j)
  where
    go : Dec (l < j) → P l
    go (yes k) = f l k
    go (no k) = let q : l ≡ j = omega arith in rw q a

-- ---- f up to before k, and a from k on
abbrev pub till : {B : Type 0} → ℕ → (ℕ → B) → B → ℕ → B
till zero f a j = a
till (suc k) f a zero = f 0
till (suc k) f a (suc j) = till k (λ i. f (suc i)) a j

pub till_below : {B : Type 0} (k : ℕ) (f : ℕ → B) (a : B) (j : ℕ) → j < k → till k f a j ≡ f j
till_below zero f a j h = absurd (not-suc-le-zero h)
till_below (suc k) f a zero h = refl
till_below (suc k) f a (suc j) h = till_below k (λ i. f (suc i)) a j (omega arith)

pub till_at : {B : Type 0} (k : ℕ) (f : ℕ → B) (a : B) → till k f a k ≡ a
till_at zero f a = refl
till_at (suc k) f a = till_at k (λ i. f (suc i)) a
