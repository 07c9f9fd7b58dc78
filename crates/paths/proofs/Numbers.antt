-- A set of small numbers as the bits of a number.
use mathlib.Core.Path.{◌≡◌, sym, ap, ◌∙◌}
use mathlib.Core.Bool.{Bool, true, false}
use Prim.Native.Nat.{ℕ, zero, suc, ◌+◌, ◌*◌, ◌^◌, ◌/◌, ◌%◌, ◌≤◌, ◌<◌}
use native.Mathlib.Nat.{not-suc-le-zero, pow-suc}
use native.Mathlib.Numerals.{one-add}
use native.Mathlib.Decide.{dec_lt}
use native.Mathlib.Omega.{arith}
use lib.Dec.{eqb, eqb-suc-zero}
use Rattle.base.specs.Bits.{bit}
use Rattle.paths.specs.Inner.Pack.{digit, pack}
use Rattle.base.proofs.BitLaws.{bit_shr, bit_zero, bit_above, bits_all}

pub digit_lt : (b : Bool) → digit b < 2
digit_lt true = omega arith
digit_lt false = omega arith

pub bit_first : (b : Bool) (q : ℕ) → bit (digit b + 2 * q) 0 ≡ b
unfolding bit
bit_first true q = ap (λ (n : ℕ). eqb n 1) (odd q)
  where
    odd : (q : ℕ) → ((1 + 2 * q) / 1) % 2 ≡ 1
    odd q = omega arith
bit_first false q = ap (λ (n : ℕ). eqb n 1) (even q)
  where
    even : (q : ℕ) → ((0 + 2 * q) / 1) % 2 ≡ 0
    even q = omega arith

half : (b : Bool) (q : ℕ) → (digit b + 2 * q) / 2 ≡ q
half b q = omega (arith, digit_lt b)

pub bit_half : (n i : ℕ) → bit n (suc i) ≡ bit (n / 2) i
bit_half n i = rw (← one-add i) (sym (bit_shr n 1 i))

pub bit_suc : (b : Bool) (q i : ℕ) → bit (digit b + 2 * q) (suc i) ≡ bit q i
bit_suc b q i = bit_half (digit b + 2 * q) i ∙ ap (λ (n : ℕ). bit n i) (half b q)

pub bit_pack : (k : ℕ) (f : ℕ → Bool) (i : ℕ) → i < k → bit (pack k f) i ≡ f i
bit_pack zero f i h = absurd (not-suc-le-zero h)
bit_pack (suc k) f zero h = bit_first (f 0) (pack k (λ i. f (suc i)))
bit_pack (suc k) f (suc i) h = bit_suc (f 0) (pack k (λ i. f (suc i))) i ∙ bit_pack k (λ i. f (suc i)) i (omega arith)

pub bit_one : (i : ℕ) → bit 1 i ≡ eqb i 0
bit_one zero = bit_first true 0
bit_one (suc i) = bit_suc true 0 i ∙ bit_zero i ∙ sym (eqb-suc-zero i)

pub pack_lt : (k : ℕ) (f : ℕ → Bool) → pack k f < 2 ^ k
pack_lt zero f = omega arith
pack_lt (suc k) f = omega (arith, pack_lt k (λ i. f (suc i)), digit_lt (f 0), pow-suc 2 k)

-- a top bit that is not set
pub pack_top : (k : ℕ) (f : ℕ → Bool) → f k ≡ false → pack (suc k) f < 2 ^ k
pack_top zero f h = omega (arith, ap digit h)
pack_top (suc k) f h = omega (arith, pack_top k (λ i. f (suc i)) h, digit_lt (f 0), pow-suc 2 k)

-- the number with these bits and no others
pub pack_is : (k : ℕ) (f : ℕ → Bool) (r : ℕ) → ((i : ℕ) → i < k → bit r i ≡ f i) → ((i : ℕ) → k ≤ i → bit r i ≡ false) → r ≡ pack k f
pack_is k f r h z = bits_all r (pack k f) (λ i. go i (dec_lt i k))
  where
    go : (i : ℕ) → Dec (i < k) → bit r i ≡ bit (pack k f) i
    go i (yes l) = h i l ∙ sym (bit_pack k f i l)
    go i (no g) = let l : k ≤ i = omega arith in z i l ∙ sym (bit_above i (pack_lt k f) l)
