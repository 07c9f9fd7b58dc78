-- The number whose bits below n are those that f says.
use Prim.Native.Nat.{ℕ, zero, suc, ◌+◌, ◌*◌, ◌/◌, ◌%◌, ◌^◌, ◌≤◌, ◌<◌}
use mathlib.Core.Path.{◌≡◌, refl, sym, ap, ap₂, subst, ◌∙◌}
use mathlib.Core.Bool.{Bool, true, false, ◌&&◌, cond}
use mathlib.Core.Logic.{◌⊎◌, inl, inr, ⊎_elim}
use native.Mathlib.Nat.{eq-or-lt_of_le}
use native.Mathlib.Omega.{arith}
use borrow.Author.Tests.{lt-ltb}
use lib.Pow.{pow_pos, high, low}
use Rattle.base.specs.Bits.{bit}
use Rattle.base.proofs.Numbers.{split_le}
use Rattle.base.proofs.BoolLaws.{clash, true_or_false}
use Rattle.base.proofs.BitLaws.{bit_above, bit_zero, bit_mod, bit_shr, bit_ext}
use Rattle.policy_facts.specs.Facts.{mask_of}

-- a test below n: a number at which it holds, or none
find_below : (f : ℕ → Bool) (n : ℕ) → ((i : ℕ) × (i < n) × (f i ≡ true)) ⊎ ((i : ℕ) → i < n → f i ≡ false)
find_below f zero = inr (λ i h. let z : ⊥ = omega arith in absurd z)
find_below f (suc n) =
    ⊎_elim
    (λ s. inl (s.0, omega (arith, s.1), s.2))
    (λ a.
    ⊎_elim
    (λ e. inl (n, omega arith, e))
    (λ e.
    inr (λ i h. ⊎_elim (λ q. ap f q ∙ e) (λ l. a i l) (eq-or-lt_of_le (let b : i ≤ n = omega arith in b))))
    (true_or_false (f n)))
    (find_below f n)

-- ---- any mask of n bits
module _ (m n : ℕ) (h : m < 2 ^ n) where
  -- 0 where it has no bit ..
  pub mask_none : ((i : ℕ) → i < n → bit m i ≡ false) → m ≡ 0
  mask_none e = bit_ext n m 0 h (pow_pos n) (λ i l. e i l ∙ sym (bit_zero i))

  -- .. and else it has one
  pub mask_some : (m ≡ 0 → ⊥) → (i : ℕ) × (i < n) × (bit m i ≡ true)
  mask_some d = ⊎_elim (λ s. s) (λ a. absurd (d (mask_none a))) (find_below (bit m) n)

  -- all its bits are below n
  pub bit_below : (i : ℕ) → bit m i ≡ true → i < n
  bit_below i e = ⊎_elim (λ l. absurd (clash e (bit_above {m = m} {k = n} i h l))) (λ l. l) (split_le n i)

-- ---- the mask of f
module _ (f : ℕ → Bool) where
  mask_next : (n : ℕ) → mask_of f (suc n) ≡ cond (f n) 1 0 * 2 ^ n + mask_of f n
  unfolding mask_of
  mask_next n = go (f n)
    where
      go : (t : Bool) → mask_of f n + cond t (2 ^ n) 0 ≡ cond t 1 0 * 2 ^ n + mask_of f n
      go true = omega arith
      go false = omega arith

  pub mask_small : (n : ℕ) → mask_of f n < 2 ^ n
  unfolding mask_of
  mask_small zero = omega arith
  mask_small (suc n) = go (f n) (mask_small n)
    where
      go : (t : Bool) → mask_of f n < 2 ^ n → mask_of f n + cond t (2 ^ n) 0 < 2 ^ suc n
      go true h = omega arith
      go false h = omega arith

  one_bit : (t : Bool) → bit (cond t 1 0) 0 ≡ t
  unfolding bit
  one_bit true = refl
  one_bit false = refl

  -- bit n of n + 1 bits, and the n bits below it
  last_bit : (n : ℕ) → bit (mask_of f (suc n)) n ≡ f n
  last_bit n =
      ap (bit (mask_of f (suc n))) (let e : n ≡ n + 0 = omega arith in e)
      ∙ sym (bit_shr (mask_of f (suc n)) n 0)
      ∙ ap (λ (m : ℕ). bit m 0) (ap (λ (m : ℕ). m / 2 ^ n) (mask_next n) ∙ high (cond (f n) 1 0) n (mask_small n))
      ∙ one_bit (f n)

  lower_bit : (n i : ℕ) → i < n → bit (mask_of f (suc n)) i ≡ bit (mask_of f n) i
  lower_bit n i l =
      ap (λ (t : Bool). t && bit (mask_of f (suc n)) i) (sym (lt-ltb i n l))
      ∙ sym (bit_mod (mask_of f (suc n)) n i)
      ∙ ap (λ (m : ℕ). bit m i) (ap (λ (m : ℕ). m % 2 ^ n) (mask_next n) ∙ low (cond (f n) 1 0) n (mask_small n))

  pub mask_bit : (n i : ℕ) → i < n → bit (mask_of f n) i ≡ f i
  mask_bit zero i h = let z : ⊥ = omega arith in absurd z
  mask_bit (suc n) i h =
      ⊎_elim
      (λ e. subst (λ (j : ℕ). bit (mask_of f (suc n)) j ≡ f j) (sym e) (last_bit n))
      (λ l. lower_bit n i l ∙ mask_bit n i l)
      (eq-or-lt_of_le (let b : i ≤ n = omega arith in b))

  -- no bit from n on
  pub mask_above : (n i : ℕ) → n ≤ i → bit (mask_of f n) i ≡ false
  mask_above n i h = bit_above {m = mask_of f n} {k = n} i (mask_small n) h

  -- not 0 exactly where f says some bit
  pub mask_holds : (n i : ℕ) → i < n → f i ≡ true → mask_of f n ≡ 0 → ⊥
  mask_holds n i h e z = clash (mask_bit n i h ∙ e) (ap (λ (m : ℕ). bit m i) z ∙ bit_zero i)

  pub mask_found : (n : ℕ) → (mask_of f n ≡ 0 → ⊥) → (i : ℕ) × (i < n) × (f i ≡ true)
  mask_found n d =
      let s = mask_some (mask_of f n) n (mask_small n) d in
      (s.0, s.1, sym (mask_bit n s.0 s.1) ∙ s.2)

-- tests that agree below n have one mask
pub mask_same : (f g : ℕ → Bool) (n : ℕ) → ((i : ℕ) → i < n → f i ≡ g i) → mask_of f n ≡ mask_of g n
unfolding mask_of
mask_same f g zero h = refl
mask_same f g (suc n) h = ap₂ (λ (m : ℕ) (t : Bool). m + cond t (2 ^ n) 0) (mask_same f g n (λ i l. h i (omega arith))) (h n (omega arith))

-- a mask of 32 bits, by its bits
pub mask_is : (m : ℕ) (f : ℕ → Bool) → m < 2 ^ 32 → ((i : ℕ) → i < 32 → bit m i ≡ f i) → m ≡ mask_of f 32
mask_is m f h e = bit_ext 32 m (mask_of f 32) h (mask_small f 32) (λ i l. e i l ∙ sym (mask_bit f 32 i l))
