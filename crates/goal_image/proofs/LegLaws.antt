-- Laws that the answer to question 8 cites. "Flag bits from n up" are 0 exactly when nothing is left of the flags without their n low bits.
use Prim.Native.Nat.{ℕ, ◌+◌, ◌-◌, ◌/◌, ◌^◌, ◌≤◌}
use mathlib.Core.Bool.{false}
use mathlib.Core.Path.{◌≡◌, sym, ap, ◌∙◌}
use native.Mathlib.Omega.{arith}
use Rattle.base.specs.Bits.{bit}
use Rattle.base.proofs.BitLaws.{bit_shr, bit_zero, bits_all}

pub flags_yes : (m n : ℕ) → m / 2 ^ n ≡ 0 → (i : ℕ) → n ≤ i → bit m i ≡ false
flags_yes m n z i h =
    let e : n + (i - n) ≡ i = omega arith in
    ap (λ (p : ℕ). bit m p) (sym e) ∙ sym (bit_shr m n (i - n)) ∙ ap (λ (x : ℕ). bit x (i - n)) z ∙ bit_zero (i - n)

pub flags_no : (m n : ℕ) → ((i : ℕ) → n ≤ i → bit m i ≡ false) → m / 2 ^ n ≡ 0
flags_no m n f = bits_all (m / 2 ^ n) 0 (λ p. bit_shr m n p ∙ f (n + p) (omega arith) ∙ sym (bit_zero p))
