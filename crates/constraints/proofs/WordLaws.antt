-- Words of truth values: all bits, none, and the operations on words, bit by bit.
use Prim.Native.Nat.{ℕ, zero, suc, ◌+◌, ◌-◌, ◌/◌, ◌%◌, ◌^◌, ◌≤◌, ◌<◌}
use mathlib.Core.Path.{◌≡◌, sym, ap, ap₂, subst, ◌∙◌}
use mathlib.Core.Bool.{Bool, true, false, not, ◌&&◌, ◌||◌}
use native.Mathlib.Nat.{pow-suc}
use native.Mathlib.Omega.{arith}
use borrow.Author.Tests.{eq-eqb}
use lib.Bits.{bit_and, bit_or, bit_xor}
use lib.Pow.{pow_pos}
use Rattle.base.specs.Bits.{bit}
use Rattle.base.proofs.BitLaws.{bit_and_lem, bit_or_lem, bit_shr, bit_zero, without_law}
use Rattle.constraints.specs.Inner.Words.{Word, AllIf}

-- 2^k - 1 has the k low bits
ones : (k j : ℕ) → j < k → bit (2 ^ k - 1) j ≡ true
unfolding bit
ones zero j h = absurd (omega arith)
ones (suc k) zero h = eq-eqb ((2 ^ suc k - 1) / 2 ^ 0 % 2) 1 (omega (arith, pow-suc 2 k, pow_pos k))
ones (suc k) (suc j) h =
    let half : (2 ^ suc k - 1) / 2 ≡ 2 ^ k - 1 = omega (arith, pow-suc 2 k, pow_pos k) in
    let e : 1 + j ≡ suc j = omega arith in
    subst (λ (i : ℕ). bit (2 ^ suc k - 1) i ≡ true) e (sym (bit_shr (2 ^ suc k - 1) 1 j) ∙ ap (λ (m : ℕ). bit m j) half ∙ ones k j (omega arith))

pub all_bits_lem : (j : ℕ) → j < 64 → bit 18446744073709551615 j ≡ true
all_bits_lem j h = ones 64 j h

pub all_yes : {b : Bool} → b ≡ true → AllIf b 18446744073709551615
all_yes e = record { at = λ j h. all_bits_lem j h ∙ sym e }

pub all_no : {b : Bool} → b ≡ false → AllIf b 0
all_no e = record { at = λ j h. bit_zero j ∙ sym e }

pub flip_law : (w : ℕ) → Word 64 (λ j. not (bit w j)) (bit_and 18446744073709551615 (bit_xor 18446744073709551615 w))
flip_law w = record { at = λ j h. (without_law 18446744073709551615 w).at j ∙ ap (λ (b : Bool). b && not (bit w j)) (all_bits_lem j h) }

module _ {m : ℕ} {f g : ℕ → Bool} {v w : ℕ} (F : Word m f v) (G : Word m g w) where
  pub word_and : Word m (λ j. f j && g j) (bit_and v w)
  word_and = record { at = λ j h. bit_and_lem v w j ∙ ap₂ ◌&&◌ (F.at j h) (G.at j h) }

  pub word_or : Word m (λ j. f j || g j) (bit_or v w)
  word_or = record { at = λ j h. bit_or_lem v w j ∙ ap₂ ◌||◌ (F.at j h) (G.at j h) }

-- what a word says may be said otherwise
pub word_map : {m : ℕ} {f g : ℕ → Bool} {w : ℕ} → ((j : ℕ) → j < m → f j ≡ g j) → Word m f w → Word m g w
word_map same W = record { at = λ j h. W.at j h ∙ same j h }

pub word_less : {k m : ℕ} {f : ℕ → Bool} {w : ℕ} → m ≤ k → Word k f w → Word m f w
word_less l W = record { at = λ j h. W.at j (omega arith) }
