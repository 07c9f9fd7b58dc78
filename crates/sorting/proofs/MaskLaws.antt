-- Bits of united and of cut masks.
use mathlib.Core.Path.{◌≡◌, refl, sym, ◌∙◌}
use mathlib.Core.Bool.{Bool, true, false, cond}
use mathlib.Core.Logic.{◌⊎◌}
use Prim.Native.Nat.{ℕ}
use lib.Bits.{bit_and, bit_or}
use Rattle.base.specs.Bits.{bit}
use Rattle.base.proofs.BitLaws.{bit_and_lem, bit_or_lem, bit_zero}
use Rattle.base.proofs.BoolLaws.{clash, or_true, or_left, or_cases, and_true, and_first, and_second}

pub bit_or_cases : (a b p : ℕ) → bit (bit_or a b) p ≡ true → (bit a p ≡ true) ⊎ (bit b p ≡ true)
bit_or_cases a b p e = or_cases (bit a p) (bit b p) (sym (bit_or_lem a b p) ∙ e)

pub bit_or_left : (a b p : ℕ) → bit a p ≡ true → bit (bit_or a b) p ≡ true
bit_or_left a b p e = bit_or_lem a b p ∙ or_left (bit a p) (bit b p) e

pub bit_or_right : (a b p : ℕ) → bit b p ≡ true → bit (bit_or a b) p ≡ true
bit_or_right a b p e = bit_or_lem a b p ∙ or_true (bit a p) (bit b p) e

pub bit_and_first : (a b p : ℕ) → bit (bit_and a b) p ≡ true → bit a p ≡ true
bit_and_first a b p e = and_first (bit a p) (bit b p) (sym (bit_and_lem a b p) ∙ e)

pub bit_and_second : (a b p : ℕ) → bit (bit_and a b) p ≡ true → bit b p ≡ true
bit_and_second a b p e = and_second (bit a p) (bit b p) (sym (bit_and_lem a b p) ∙ e)

pub bit_and_join : (a b p : ℕ) → bit a p ≡ true → bit b p ≡ true → bit (bit_and a b) p ≡ true
bit_and_join a b p x y = bit_and_lem a b p ∙ and_true (bit a p) (bit b p) x y

-- a mask that counts only where the test passes
pub bit_where : (t : Bool) (m p : ℕ) → bit (cond t m 0) p ≡ true → (t ≡ true) × (bit m p ≡ true)
bit_where true m p e = (refl, e)
bit_where false m p e = absurd (clash e (bit_zero p))

pub bit_there : {t : Bool} (m p : ℕ) → t ≡ true → bit m p ≡ true → bit (cond t m 0) p ≡ true
bit_there m p e b = rw e b
