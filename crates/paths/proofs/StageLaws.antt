-- The step of a stage set: what the code computes, over the width w of the words that it works in, is the set of the definition,
-- and that set is the events monitor's next state.
use mathlib.Core.Path.{◌≡◌, refl, sym, ◌∙◌}
use mathlib.Core.Bool.{false, ◌&&◌}
use Prim.Native.Nat.{ℕ, zero, suc, ◌-◌, ◌*◌, ◌%◌, ◌^◌, ◌≤◌, ◌<◌}
use native.Mathlib.Nat.{one-mul, mod-eq_of_lt, mod-lt}
use native.Mathlib.Numerals.{one-add}
use native.Mathlib.Decide.{dec_lt}
use native.Mathlib.Omega.{arith}
use lib.Pow.{pow-lt, pow_pos, shl_exact}
use lib.Bits.{bit_and, bit_or, and_mask, mask_lt, and_le_l, or_lt}
use borrow.Author.Tests.{lt-ltb, le-ltb}
use Rattle.base.specs.Bits.{bit}
use Rattle.base.proofs.BitLaws.{bit_and_lem, bit_or_lem, bit_mod, bit_shl, bit_shl_low, bits_all}
use Rattle.paths.specs.Model.{Model}
use Rattle.paths.specs.Inner.Stages.{goes_on, entered, stage_after, Advanced}
use Rattle.paths.proofs.Numbers.{pack_is}
use Rattle.paths.specs.Inner.Monitors.{goes, enters, opens, stager_n}

-- ---- what the code computes
abbrev pub live_in : (w s e n : ℕ) → ℕ
live_in w s e n = bit_and (bit_and s e) ((1 * 2 ^ n) % 2 ^ w - 1)

abbrev pub stage_step : (w s r e c n : ℕ) → ℕ
stage_step w s r e c n = bit_or (bit_and (live_in w s e n) r) (bit_and ((live_in w s e n * 2) % 2 ^ w) c)

pub one_shl : {n w : ℕ} → n < w → (1 * 2 ^ n) % 2 ^ w ≡ 2 ^ n
one_shl {n} {w} h = rw one-mul (mod-eq_of_lt (pow-lt h))

live_bit : (s e n i : ℕ) → bit (bit_and (bit_and s e) (2 ^ n - 1)) i ≡ goes_on s e n i
unfolding goes_on
live_bit s e n i = simp (and_mask, bit_mod, bit_and_lem)

moved_bit : (m p : ℕ) → bit (m * 2) (suc p) ≡ bit m p
moved_bit m p = rw (← one-add p) (bit_shl m 1 p)

-- the live legs, at their stage if repeated, and at the next
joined : (live s r e c n : ℕ) → ((i : ℕ) → bit live i ≡ goes_on s e n i) → (i : ℕ)
    → bit (bit_or (bit_and live r) (bit_and (live * 2) c)) i ≡ stage_after s r e c n i
unfolding stage_after entered
joined live s r e c n h zero = simp (bit_or_lem, bit_and_lem, h, bit_shl_low live {k = 1} {p = 0} (omega arith))
joined live s r e c n h (suc i) = simp (bit_or_lem, bit_and_lem, h, moved_bit)

pub step_law : (w s r e c n : ℕ) → n < w → Advanced s r e c n (stage_step w s r e c n)
step_law w s r e c n h =
    rw (one_shl h, shl_exact n 1 w (mask_lt (bit_and s e) n) (omega arith))
    (record { at = joined (bit_and (bit_and s e) (2 ^ n - 1)) s r e c n (live_bit s e n) })

-- the definition sets every bit, so it sets the result
pub advanced_one : {s r e c n x y : ℕ} → Advanced s r e c n x → Advanced s r e c n y → x ≡ y
advanced_one {x = x} {y = y} a b = bits_all x y (λ i. a.at i ∙ sym (b.at i))

-- ---- a narrower word: only the bits below its width count, and the step stays within it
bit_low : {i w : ℕ} (m : ℕ) → i < w → bit (m % 2 ^ w) i ≡ bit m i
bit_low {i} {w} m h = rw (bit_mod, lt-ltb i w h)

after_low : (w s r e c n : ℕ) → n < w → (i : ℕ)
    → stage_after (s % 2 ^ w) (r % 2 ^ w) (e % 2 ^ w) (c % 2 ^ w) n i ≡ stage_after s r e c n i
unfolding stage_after entered goes_on
after_low w s r e c n h zero =
    let h0 : 0 < w = omega arith in
    simp (bit_low, h0)
after_low w s r e c n h (suc i) = go (dec_lt (suc i) w)
  where
    go : Dec (suc i < w) → stage_after (s % 2 ^ w) (r % 2 ^ w) (e % 2 ^ w) (c % 2 ^ w) n (suc i) ≡ stage_after s r e c n (suc i)
    go (yes l) = let l' : i < w = omega arith in simp (bit_low, l, l')
    go (no f) = let a : n ≤ i = omega arith in let b : n ≤ suc i = omega arith in simp (le-ltb, a, b)

pub low_args : {w s r e c n x : ℕ} → n < w → Advanced (s % 2 ^ w) (r % 2 ^ w) (e % 2 ^ w) (c % 2 ^ w) n x → Advanced s r e c n x
low_args {w} {s} {r} {e} {c} {n} h a = record { at = λ i. a.at i ∙ after_low w s r e c n h i }

pub step_lt : (w s r e c n : ℕ) → s < 2 ^ w → stage_step w s r e c n < 2 ^ w
step_lt w s r e c n h =
    let live : ℕ = live_in w s e n in
    or_lt w (bit_and live r) (bit_and ((live * 2) % 2 ^ w) c)
    (omega (arith, and_le_l live r, and_le_l (bit_and s e) ((1 * 2 ^ n) % 2 ^ w - 1), and_le_l s e))
    (omega (arith, and_le_l ((live * 2) % 2 ^ w) c, mod-lt (live * 2) (pow_pos w)))

-- ---- the events monitor: s any number, and r, g, c with the bits that the model gives
module _ (M : Model) (e y s r g c : ℕ)
    (hr : (i : ℕ) → i < M.legs → bit r i ≡ M.repeated i)
    (hg : (i : ℕ) → i < M.legs → bit g i ≡ M.γ i e)
    (hc : (i : ℕ) → 0 < i → i ≤ M.legs → bit c i ≡ M.σ i y) where
  open M use {legs, γ, σ, repeated}

  again_bit : (i : ℕ) → (goes_on s g legs i && bit r i) ≡ (goes M (bit s) e i && repeated i)
  unfolding goes_on
  again_bit i = go (dec_lt i legs)
    where
      go : Dec (i < legs) → (goes_on s g legs i && bit r i) ≡ (goes M (bit s) e i && repeated i)
      go (yes h) = rw (hg i h, hr i h)
      go (no k) = let h : legs ≤ i = omega arith in rw (le-ltb i legs h)

  entered_bit : (i : ℕ) → i ≤ legs → entered s g c legs i ≡ enters M (bit s) e y i
  unfolding entered goes_on
  entered_bit zero h = refl
  entered_bit (suc i) h = rw (hg i h, hc (suc i) (omega arith) h)

  after_bit : (i : ℕ) → i ≤ legs → stage_after s r g c legs i ≡ opens M (bit s) e y i
  unfolding stage_after
  after_bit i h = rw (again_bit i, entered_bit i h)

  none_above : (i : ℕ) → suc legs ≤ i → stage_after s r g c legs i ≡ false
  unfolding stage_after entered goes_on
  none_above zero h = absurd (omega arith)
  none_above (suc i) h = rw (le-ltb (suc i) legs (omega arith), le-ltb i legs (omega arith))

  pub advance_is : {x : ℕ} → Advanced s r g c legs x → x ≡ (stager_n M).step s e y
  advance_is {x} a =
      pack_is (suc legs) (opens M (bit s) e y) x (λ i h. a.at i ∙ after_bit i (omega arith)) (λ i h. a.at i ∙ none_above i h)
