-- Laws of `bit`, each over any width.
use mathlib.Core.Path.{◌≡◌, refl, sym, ap, ap₂, ◌∙◌}
use mathlib.Core.Bool.{Bool, true, false, not, ◌&&◌, ◌||◌}
use Prim.Native.Nat.{ℕ, zero, suc, ◌+◌, ◌-◌, ◌*◌, ◌/◌, ◌%◌, ◌^◌, ◌≤◌, ◌<◌}
use native.Mathlib.Nat.{mod-lt, mod-eq_of_lt, div-eq_of_lt, lt_of_lt_of_le, one-mul, pow-suc, mul_assoc, mul-mod_left, zero-mul, add-zero}
use native.Mathlib.Decide.{dec_lt}
use native.Mathlib.Omega.{arith}
use lib.Dec.{eqb, ltb, lit<}
use lib.Pow.{pow_pos, pow_mono, pow-lt, pow-add, shr-shr, shl-shr, split, field, mod-mod-pow}
use lib.Bits.{bit_and, bit_or, bit_xor, and_shr, or_shr, xor_shr, and_mod, or_mod, xor_mod, and_le_l, and_mask, and_block, and_zero_r}
use borrow.Author.Tests.{lt-ltb, le-ltb, eq-eqb, ne_eqb}
use native.Mathlib.Numerals.{one-add}
use Rattle.base.specs.Bits.{bit}
use Rattle.base.specs.Inner.Masks.{With, Without}

-- an operation on digits that acts on each digit apart
module _ (op : ℕ → ℕ → ℕ) (f : Bool → Bool → Bool)
    (shr : (a b k : ℕ) → op a b / 2 ^ k ≡ op (a / 2 ^ k) (b / 2 ^ k))
    (low : (a b k : ℕ) → op a b % 2 ^ k ≡ op (a % 2 ^ k) (b % 2 ^ k))
    (digit : (x y : ℕ) → x < 2 → y < 2 → eqb (op x y) 1 ≡ f (eqb x 1) (eqb y 1)) where
  bit_op : (a b p : ℕ) → bit (op a b) p ≡ f (bit a p) (bit b p)
  unfolding bit
  bit_op a b p =
      ap (λ (x : ℕ). eqb (x % 2) 1) (shr a b p) ∙ ap (λ (x : ℕ). eqb x 1) (low (a / 2 ^ p) (b / 2 ^ p) 1)
      ∙ digit (a / 2 ^ p % 2) (b / 2 ^ p % 2) (omega arith) (omega arith)

digit_and : (x y : ℕ) → x < 2 → y < 2 → eqb (bit_and x y) 1 ≡ (eqb x 1 && eqb y 1)
digit_and zero y hx hy = refl
digit_and (suc zero) zero hx hy = refl
digit_and (suc zero) (suc zero) hx hy = refl
digit_and (suc zero) (suc (suc y)) hx hy = absurd (omega arith)
digit_and (suc (suc x)) y hx hy = absurd (omega arith)

digit_or : (x y : ℕ) → x < 2 → y < 2 → eqb (bit_or x y) 1 ≡ (eqb x 1 || eqb y 1)
digit_or zero y hx hy = refl
digit_or (suc zero) zero hx hy = refl
digit_or (suc zero) (suc zero) hx hy = refl
digit_or (suc zero) (suc (suc y)) hx hy = absurd (omega arith)
digit_or (suc (suc x)) y hx hy = absurd (omega arith)

-- one bit or the other, and not both
abbrev differs : Bool → Bool → Bool
differs true b = not b
differs false b = b

digit_xor : (x y : ℕ) → x < 2 → y < 2 → eqb (bit_xor x y) 1 ≡ differs (eqb x 1) (eqb y 1)
digit_xor zero zero hx hy = refl
digit_xor zero (suc zero) hx hy = refl
digit_xor (suc zero) zero hx hy = refl
digit_xor (suc zero) (suc zero) hx hy = refl
digit_xor zero (suc (suc y)) hx hy = absurd (omega arith)
digit_xor (suc zero) (suc (suc y)) hx hy = absurd (omega arith)
digit_xor (suc (suc x)) y hx hy = absurd (omega arith)

pub bit_and_lem : (a b p : ℕ) → bit (bit_and a b) p ≡ (bit a p && bit b p)
bit_and_lem = bit_op bit_and ◌&&◌ and_shr and_mod digit_and

pub bit_or_lem : (a b p : ℕ) → bit (bit_or a b) p ≡ (bit a p || bit b p)
bit_or_lem = bit_op bit_or ◌||◌ or_shr or_mod digit_or

bit_xor_lem : (a b p : ℕ) → bit (bit_xor a b) p ≡ differs (bit a p) (bit b p)
bit_xor_lem = bit_op bit_xor differs xor_shr xor_mod digit_xor

only_first : (a b : Bool) → (a && differs a b) ≡ (a && not b)
only_first true b = refl
only_first false b = refl

pub without_law : (a b : ℕ) → Without a b (bit_and a (bit_xor a b))
without_law a b =
    record {
      at = λ p. bit_and_lem a (bit_xor a b) p ∙ ap (λ (d : Bool). bit a p && d) (bit_xor_lem a b p) ∙ only_first (bit a p) (bit b p);
      most = and_le_l a (bit_xor a b);
    }

-- a number has no bit from its length on
pub bit_above : {m k : ℕ} (p : ℕ) → m < 2 ^ k → k ≤ p → bit m p ≡ false
unfolding bit
bit_above {m} {k} p h l = rw (div-eq_of_lt (lt_of_lt_of_le h (pow_mono l)))

pub bit_zero : (p : ℕ) → bit 0 p ≡ false
bit_zero p = bit_above {m = 0} {k = 0} p (lit< tt) (omega arith)

-- p below k is p = k - (j + 1) for some j
gap : {p k : ℕ} → p < k → (j : ℕ) × (j + 1 + p ≡ k)
gap {p} {k} h = (k - suc p, omega arith)

-- the bits of the k low digits
pub bit_mod : (m k p : ℕ) → bit (m % 2 ^ k) p ≡ (ltb p k && bit m p)
unfolding bit
bit_mod m k p = go (dec_lt p k)
  where
    go : Dec (p < k) → bit (m % 2 ^ k) p ≡ (ltb p k && bit m p)
    go (yes h) =
        let g = gap h in
        rw (lt-ltb p k h, ← g.1, field m (g.0 + 1) p, mod-mod-pow (m / 2 ^ p) g.0 1)
    go (no n) =
        let l : k ≤ p = omega arith in
        rw (le-ltb p k l, bit_above p (mod-lt m (pow_pos k)) l)

-- a shift by k moves each bit up by k ..
pub bit_shl : (m k p : ℕ) → bit (m * 2 ^ k) (k + p) ≡ bit m p
unfolding bit
bit_shl m k p = rw (← shr-shr (m * 2 ^ k) k p, shl-shr m k)

-- .. and leaves none below
pub bit_shl_low : (m : ℕ) {k p : ℕ} → p < k → bit (m * 2 ^ k) p ≡ false
unfolding bit
bit_shl_low m {k} {p} h =
    let g = gap h in
    rw (← g.1, pow-add 2 (g.0 + 1) p, ← mul_assoc, shl-shr (m * 2 ^ (g.0 + 1)) p, pow-add 2 g.0 1, ← mul_assoc, mul-mod_left (m * 2 ^ g.0) 2)

-- a shift down by k moves each bit down by k
pub bit_shr : (m k p : ℕ) → bit (m / 2 ^ k) p ≡ bit m (k + p)
unfolding bit
bit_shr m k p = rw (shr-shr m k p)

-- the bits of a power
pub bit_pow : (i p : ℕ) → bit (2 ^ i) p ≡ eqb i p
unfolding bit
bit_pow i p = rw (← one-mul (2 ^ i)) (go (dec_lt p i) (dec_lt i p))
  where
    go : Dec (p < i) → Dec (i < p) → bit (1 * 2 ^ i) p ≡ eqb i p
    go (yes h) d = bit_shl_low 1 h ∙ sym (ne_eqb i p (omega arith))
    go (no n) (yes h) = rw (one-mul (2 ^ i)) (bit_above p (pow-lt (omega arith)) h ∙ sym (ne_eqb i p (omega arith)))
    go (no n) (no k) =
        let e : i + 0 ≡ p = omega arith in
        rw (← e) (bit_shl 1 i 0 ∙ sym (eq-eqb i (i + 0) (omega arith)))

digit_eq : (x y : ℕ) → x < 2 → y < 2 → eqb x 1 ≡ eqb y 1 → x ≡ y
digit_eq zero zero hx hy e = refl
digit_eq zero (suc zero) hx hy e = let z : true ≡ false = sym e in cc
digit_eq zero (suc (suc y)) hx hy e = absurd (omega arith)
digit_eq (suc zero) zero hx hy e = cc
digit_eq (suc zero) (suc zero) hx hy e = refl
digit_eq (suc zero) (suc (suc y)) hx hy e = absurd (omega arith)
digit_eq (suc (suc x)) y hx hy e = absurd (omega arith)

-- numbers of k digits with the same bits are equal
pub bit_ext : (k a b : ℕ) → a < 2 ^ k → b < 2 ^ k → ((p : ℕ) → p < k → bit a p ≡ bit b p) → a ≡ b
unfolding bit
bit_ext zero a b ha hb e = omega arith
bit_ext (suc k) a b ha hb e =
    let ha' : a < 2 ^ k * 2 = rw pow-suc at ha in
    let hb' : b < 2 ^ k * 2 = rw pow-suc at hb in
    let low : a / 2 ^ 0 % 2 ≡ b / 2 ^ 0 % 2 = digit_eq (a / 2 ^ 0 % 2) (b / 2 ^ 0 % 2) (omega arith) (omega arith) (e 0 (omega arith)) in
    let rest : a / 2 ≡ b / 2 =
    bit_ext k (a / 2) (b / 2) (omega arith) (omega arith)
    (λ p h. bit_shr a 1 p ∙ rw one-add (e (suc p) (omega arith)) ∙ sym (bit_shr b 1 p)) in
    omega arith

below_pow : (n : ℕ) → n < 2 ^ n
below_pow zero = omega arith
below_pow (suc n) = omega (arith, below_pow n, pow-suc 2 n)

-- numbers with the same bits are equal
pub bits_all : (a b : ℕ) → ((p : ℕ) → bit a p ≡ bit b p) → a ≡ b
bits_all a b e = bit_ext (a + b) a b (omega (arith, below_pow (a + b))) (omega (arith, below_pow (a + b))) (λ p h. e p)

digit_test : (d p : ℕ) → d < 2 → not (eqb (d * 2 ^ p) 0) ≡ eqb d 1
digit_test zero p h = rw (zero-mul (2 ^ p))
digit_test (suc zero) p h = rw (ne_eqb (1 * 2 ^ p) 0 (omega (arith, pow_pos p)))
digit_test (suc (suc d)) p h = absurd (omega arith)

-- `m & (1 << p) != 0`
pub bit_test_lem : (m p : ℕ) → not (eqb (bit_and m (1 * 2 ^ p)) 0) ≡ bit m p
unfolding bit
bit_test_lem m p =
    ap (λ (x : ℕ). not (eqb x 0))
    (ap₂ bit_and (sym (split m p)) (sym (add-zero (1 * 2 ^ p)))
    ∙ and_block p (m / 2 ^ p) 1 (m % 2 ^ p) 0 (mod-lt m (pow_pos p)) (pow_pos p)
    ∙ ap₂ (λ (x y : ℕ). x * 2 ^ p + y) (and_mask (m / 2 ^ p) 1) (and_zero_r (m % 2 ^ p))
    ∙ add-zero (m / 2 ^ p % 2 * 2 ^ p))
    ∙ digit_test (m / 2 ^ p % 2) p (omega arith)

-- `1 << p` in 32 bits
pub with_law : (m p : ℕ) → p < 32 → With m p (bit_or m (1 * 2 ^ p % 2 ^ 32))
with_law m p h =
    let e : 1 * 2 ^ p % 2 ^ 32 ≡ 2 ^ p = ap (λ (x : ℕ). x % 2 ^ 32) (one-mul (2 ^ p)) ∙ mod-eq_of_lt (pow-lt h) in
    record { at = λ q. bit_or_lem m (1 * 2 ^ p % 2 ^ 32) q ∙ ap (λ (x : ℕ). bit m q || bit x q) e ∙ ap (λ (b : Bool). bit m q || b) (bit_pow p q) }
