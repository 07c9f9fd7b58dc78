-- The lowest bit of a mask.
use mathlib.Core.Path.{◌≡◌, refl, sym, ◌∙◌, ap, ap₂, subst}
use mathlib.Core.Bool.{Bool, true, false, not, ◌&&◌, ◌||◌}
use mathlib.Core.Logic.{⊎_elim}
use Prim.Native.Nat.{ℕ, zero, suc, ◌*◌, ◌/◌, ◌%◌, ◌^◌, ◌<◌}
use native.Mathlib.Nat.{pow-suc, pow-succ', div-lt_iff_lt-mul, zero-lt-suc, div-div-eq-div-mul, div-one, mul-one, mul_left_comm}
use native.Mathlib.Decide.{dec_lt}
use native.Mathlib.Omega.{arith}
use lib.Count.{count_trailing_zeros, under}
use lib.Dec.{eqb}
use borrow.Author.Tests.{eq-eqb}
use Rattle.base.specs.Bits.{bit}
use Rattle.base.specs.Inner.Masks.{Lowest, Taken, With, Without}
use Rattle.base.proofs.BitLaws.{bit_above, bit_shl_low, bit_zero}
use Rattle.base.proofs.BoolLaws.{or_true, clash}
use Rattle.base.proofs.Numbers.{split_eq}

tz_odd : (d q : ℕ) → 0 < q → q < 2 ^ d → q / 2 ^ count_trailing_zeros d q % 2 ≡ 1
unfolding count_trailing_zeros
tz_odd zero q h k = absurd (omega arith)
tz_odd (suc d) q h k = go (q % 2) refl (λ (e : q % 2 ≡ 0). tz_odd d (q / 2) (omega arith) ((div-lt_iff_lt-mul (zero-lt-suc 1)).1 (subst (λ (x : ℕ). q < x) (pow-suc 2 d) k)))
  where
    go : (r : ℕ) → q % 2 ≡ r → (q % 2 ≡ 0 → q / 2 / 2 ^ count_trailing_zeros d (q / 2) % 2 ≡ 1) → q / 2 ^ under r (count_trailing_zeros d (q / 2)) % 2 ≡ 1
    go zero e ih =
        let t = count_trailing_zeros d (q / 2) in
        ap (λ (x : ℕ). x % 2) (ap (λ (x : ℕ). q / x) (pow-succ' 2 t) ∙ sym (div-div-eq-div-mul q 2 (2 ^ t))) ∙ ih e
    go (suc r) e ih = ap (λ (x : ℕ). x % 2) (div-one q) ∙ omega arith

tz_div : (d n : ℕ) → n / 2 ^ count_trailing_zeros d n * 2 ^ count_trailing_zeros d n ≡ n
unfolding count_trailing_zeros
tz_div zero n = mul-one (n / 1) ∙ div-one n
tz_div (suc d) n = go (n % 2) refl (tz_div d (n / 2))
  where
    go : (r : ℕ) → n % 2 ≡ r → n / 2 / 2 ^ count_trailing_zeros d (n / 2) * 2 ^ count_trailing_zeros d (n / 2) ≡ n / 2
        → n / 2 ^ under r (count_trailing_zeros d (n / 2)) * 2 ^ under r (count_trailing_zeros d (n / 2)) ≡ n
    go zero e ih =
        let t = count_trailing_zeros d (n / 2) in
        ap (λ (x : ℕ). n / x * x) (pow-succ' 2 t)
        ∙ ap (λ (x : ℕ). x * (2 * 2 ^ t)) (sym (div-div-eq-div-mul n 2 (2 ^ t)))
        ∙ mul_left_comm (n / 2 / 2 ^ t) 2 (2 ^ t)
        ∙ ap (λ (x : ℕ). 2 * x) ih
        ∙ omega arith
    go (suc r) e ih = mul-one (n / 1) ∙ div-one n

-- of d bits
module _ (d m : ℕ) (h : 0 < m) (l : m < 2 ^ d) where
  pub lowest_has : bit m (count_trailing_zeros d m) ≡ true
  unfolding bit
  lowest_has = eq-eqb (m / 2 ^ count_trailing_zeros d m % 2) 1 (tz_odd d m h l)

  pub lowest_small : count_trailing_zeros d m < d
  lowest_small = go (dec_lt (count_trailing_zeros d m) d)
    where
      go : Dec (count_trailing_zeros d m < d) → count_trailing_zeros d m < d
      go (yes a) = a
      go (no n) = absurd (clash lowest_has (bit_above {m = m} {k = d} (count_trailing_zeros d m) l (omega arith)))

  pub lowest_first : (q : ℕ) → q < count_trailing_zeros d m → bit m q ≡ false
  lowest_first q lt = subst (λ (x : ℕ). bit x q ≡ false) (tz_div d m) (bit_shl_low (m / 2 ^ count_trailing_zeros d m) lt)

pub lowest_law : (m : ℕ) → 0 < m → m < 2 ^ 32 → Lowest m (count_trailing_zeros 32 m)
lowest_law m h l = record { small = lowest_small 32 m h l; has = lowest_has 32 m h l; before = λ q lt e. clash e (lowest_first 32 m h l q lt) }

-- without its lowest bit, and whatever else, a mask is less: a loop that takes bits out ends
pub less_without : {m p x one rest : ℕ} → Lowest m p → With x p one → Without m one rest → rest < m
less_without {m} {p} {x} {rest = rest} L I W =
    let off : bit rest p ≡ false = W.at p ∙ ap₂ (λ (u v : Bool). u && not v) L.has (I.at p ∙ or_true (bit x p) (eqb p p) (eq-eqb p p refl)) in
    ⊎_elim (λ (e : rest ≡ m). absurd (clash (ap (λ (v : ℕ). bit v p) e ∙ L.has) off)) (λ (d : rest ≡ m → ⊥). omega (arith, d, W.most)) (split_eq rest m)

-- a mask without its lowest bit
pub taken : {m p one rest : ℕ} → Lowest m p → With 0 p one → Without m one rest → Taken m p rest
taken {m} {p} L I W =
    record { least = L; at = λ q. W.at q ∙ ap (λ (v : Bool). bit m q && not v) (I.at q ∙ ap (λ (u : Bool). u || eqb p q) (bit_zero q)) }
