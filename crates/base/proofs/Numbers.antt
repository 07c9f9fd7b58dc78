-- Laws of numbers and tables that the proofs of every layer cite.
use Prim.Native.Nat.{ℕ, zero, suc, ◌+◌, ◌≤◌, ◌<◌}
use mathlib.Core.Path.{◌≡◌, refl, sym, subst, ap, ◌∙◌}
use mathlib.Core.Logic.{◌⊎◌, inl, inr, ⊎_elim}
use mathlib.Core.List.{List}
use mathlib.Core.Bool.{Bool, cond}
use native.Mathlib.Nat.{eq-or-lt_of_le}
use native.Mathlib.Decide.{dec_le, ℕ_discrete}
use native.Mathlib.Omega.{arith}
use lib.Dec.{eqb}
use lib.ListN.{length, get_or, replicate, get_or-eq_default}
use borrow.Author.Tests.{eq-eqb, ne_eqb}

either : {P : Type 0} → Dec P → P ⊎ (P → ⊥)
either (yes p) = inl p
either (no n) = inr n

pub split_eq : (a b : ℕ) → (a ≡ b) ⊎ (a ≡ b → ⊥)
split_eq a b = either (ℕ_discrete a b)

pub split_le : (a b : ℕ) → (a ≤ b) ⊎ (b < a)
split_le a b = ⊎_elim (λ h. inl h) (λ h. inr (omega (arith, h))) (either (dec_le a b))

-- below n + 1 is below n or n itself
pub below_or : {i n : ℕ} → i < n + 1 → (i ≡ n) ⊎ (i < n)
below_or l = eq-or-lt_of_le (omega arith)

-- a number from k on that is not k is from k + 1 on
pub skip : {n : ℕ} (k : ℕ) → k ≤ n → (n ≡ k → ⊥) → k < n
skip k h d = omega arith

-- what holds of every number from a to below i, and from 1
module _ (P : ℕ → Type 0) (a : ℕ) where
  pub from_none : (k : ℕ) → a ≤ k → k < a → P k
  from_none k l h = let z : ⊥ = omega arith in absurd z

  pub from_more : (i : ℕ) → ((k : ℕ) → a ≤ k → k < i → P k) → P i → (k : ℕ) → a ≤ k → k < i + 1 → P k
  from_more i all here k l h =
      ⊎_elim (λ e. subst P (sym e) here) (λ t. all k l t) (below_or h)

pub upto_none : (P : ℕ → Type 0) (k : ℕ) → 1 ≤ k → k < 1 → P k
upto_none P = from_none P 1

pub upto_more : (P : ℕ → Type 0) (i : ℕ) → ((k : ℕ) → 1 ≤ k → k < i → P k) → P i → (k : ℕ) → 1 ≤ k → k < i + 1 → P k
upto_more P = from_more P 1

-- a number between two neighbours is one of them; of three likewise
pub two_of : (P : ℕ → Type 0) (k n : ℕ) → k ≤ n → n ≤ k + 1 → P k → P (k + 1) → P n
two_of P k n a b x y =
    ⊎_elim (λ h. subst P (let e : k ≡ n = omega arith in e) x) (λ h. subst P (let e : k + 1 ≡ n = omega arith in e) y) (split_le n k)

pub three_of : (P : ℕ → Type 0) (k n : ℕ) → k ≤ n → n ≤ k + 2 → P k → P (k + 1) → P (k + 2) → P n
three_of P k n a b x y z =
    ⊎_elim (λ h. two_of P k n a h x y) (λ h. subst P (let e : k + 2 ≡ n = omega arith in e) z) (split_le n (k + 1))

-- a table whose entry 0 is the default has the default wherever the number is none of its others
pub table_other : {A : Type 0} (l : List A) (d : A) (k : ℕ) → get_or l 0 d ≡ d → (1 ≤ k → k < length l → ⊥) → get_or l k d ≡ d
table_other l d k first h =
    ⊎_elim (λ a. ⊎_elim (λ b. get_or-eq_default l d b) (λ b. absurd (h a b)) (split_le (length l) k))
    (λ a. ap (λ (j : ℕ). get_or l j d) (let e : k ≡ 0 = omega arith in e) ∙ first) (split_le 1 k)

pub zeros : (n m : ℕ) → ◌≡◌ {A = ℕ} (get_or (replicate n 0) m 0) 0
zeros zero m = refl
zeros (suc n) zero = refl
zeros (suc n) (suc m) = zeros n m

-- a function with one value put in place of another
abbrev pub moved : (ℕ → ℕ) → ℕ → ℕ → ℕ → ℕ
moved f k v j = cond (eqb j k) v (f j)

pub moved_at : (f : ℕ → ℕ) (k v : ℕ) → moved f k v k ≡ v
moved_at f k v = ap (λ (t : Bool). cond t v (f k)) (eq-eqb k k refl)

pub moved_off : (f : ℕ → ℕ) (k v j : ℕ) → (j ≡ k → ⊥) → moved f k v j ≡ f j
moved_off f k v j n = ap (λ (t : Bool). cond t v (f j)) (ne_eqb j k n)
