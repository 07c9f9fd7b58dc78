-- The order tracker's step: what the code computes, over the width w of the words that it works in, is the state of the
-- definition, and that is the order monitor's next state, or its first.
use mathlib.Core.Path.{◌≡◌, refl, sym, ap, subst, ◌∙◌}
use mathlib.Core.Bool.{Bool, true, false, not, cond, ◌&&◌, ◌||◌, or-false}
use Prim.Native.Nat.{ℕ, zero, suc, ◌+◌, ◌-◌, ◌*◌, ◌/◌, ◌%◌, ◌^◌, ◌≤◌, ◌<◌}
use native.Mathlib.Nat.{not-suc-le-zero, pow-suc}
use native.Mathlib.Decide.{dec_lt}
use native.Mathlib.Omega.{arith}
use lib.Dec.{T, eqb, ltb, eqb-suc-zero, eqb→eq, eqb_refl, ltb→lt, lt→ltb, T_not, not_T}
use lib.Pow.{pow_pos}
use lib.Bits.{bit_and, bit_or, and_mask}
use borrow.Author.Tests.{lt-ltb, le-ltb, eq-eqb, ne_eqb, eqb-true, eqb-false}
use Rattle.base.specs.Bits.{bit}
use Rattle.base.proofs.BitLaws.{bit_and_lem, bit_or_lem, bit_mod, bit_zero, bit_above, bits_all}
use Rattle.paths.specs.Model.{Model}
use Rattle.paths.specs.Inner.Below.{any_below}
use Rattle.paths.specs.Inner.Tracker.{too_early, track_after, Tracked}
use Rattle.paths.proofs.Any.{any_witness, any_of, any_same, and_T, T-dec, same_test}
use Rattle.paths.specs.Inner.Pack.{digit, pack}
use Rattle.paths.proofs.Numbers.{bit_pack, pack_lt, pack_is, bit_half, bit_one, bit_first, bit_suc}
use Rattle.paths.proofs.StageLaws.{one_shl}
use Rattle.paths.specs.Inner.Monitors.{breaks, with_broken, tracker_n}
use Rattle.paths.proofs.Monitors.{breaks_same}

-- ---- what the code computes
abbrev pub below_in : (w n : ℕ) → ℕ
below_in w n = (1 * 2 ^ n) % 2 ^ w - 1

abbrev pub asked_in : (w c n : ℕ) → ℕ
asked_in w c n = bit_and (c / 2) (below_in w n - 1)

abbrev pub met_in : (w s c n : ℕ) → ℕ
met_in w s c n = bit_or (bit_and s (below_in w n)) (bit_and c (below_in w n - 1))

abbrev pub track_step : (w s c n : ℕ) → ℕ
track_step w s c n = cond (eqb (bit_and (asked_in w c n) s) (asked_in w c n)) (met_in w s c n) (bit_or (met_in w s c n) 1)

-- ---- the masks
pub two_le : (n : ℕ) → 0 < n → 2 ≤ 2 ^ n
two_le zero h = absurd (not-suc-le-zero h)
two_le (suc n) h = omega (arith, pow-suc 2 n, pow_pos n)

ones_pack : (k : ℕ) → 2 ^ k - 1 ≡ pack k (λ i. true)
ones_pack zero = refl
ones_pack (suc k) = omega (arith, ones_pack k, pow-suc 2 k, pow_pos k)

bit_ones : (k i : ℕ) → bit (2 ^ k - 1) i ≡ ltb i k
bit_ones k i = rw (ones_pack k) (go (dec_lt i k))
  where
    go : Dec (i < k) → bit (pack k (λ i. true)) i ≡ ltb i k
    go (yes h) = bit_pack k (λ i. true) i h ∙ sym (lt-ltb i k h)
    go (no f) = let h : k ≤ i = omega arith in bit_above i (pack_lt k (λ i. true)) h ∙ sym (le-ltb i k h)

middle_double : (k : ℕ) → 2 ^ suc k - 1 - 1 ≡ digit false + 2 * (2 ^ k - 1)
middle_double k = omega (arith, pow-suc 2 k, pow_pos k)

ltb_suc : (i k : ℕ) → ltb i k ≡ ltb (suc i) (suc k)
ltb_suc i k = go (dec_lt i k)
  where
    go : Dec (i < k) → ltb i k ≡ ltb (suc i) (suc k)
    go (yes h) = lt-ltb i k h ∙ sym (lt-ltb (suc i) (suc k) (omega arith))
    go (no f) = le-ltb i k (omega arith) ∙ sym (le-ltb (suc i) (suc k) (omega arith))

bit_middle : (n i : ℕ) → 0 < n → bit (2 ^ n - 1 - 1) i ≡ (ltb 0 i && ltb i n)
bit_middle zero i h = absurd (not-suc-le-zero h)
bit_middle (suc k) zero h = rw (middle_double k) (bit_first false (2 ^ k - 1))
bit_middle (suc k) (suc i) h =
    rw (middle_double k, lt-ltb 0 (suc i) (omega arith)) (bit_suc false (2 ^ k - 1) i ∙ bit_ones k i ∙ ltb_suc i k)

-- ---- the test: a is what is asked for, and all of it has been seen
module _ (s c n a : ℕ) (ha : (i : ℕ) → bit a i ≡ (bit c (suc i) && (ltb 0 i && ltb i n))) where
  abbrev early : ℕ → Bool
  early i = ltb 0 i && (bit c (suc i) && not (bit s i))

  all_seen : ¬ T (any_below n early) → bit_and a s ≡ a
  all_seen k = bits_all (bit_and a s) a (λ i. bit_and_lem a s i ∙ same_test (bit a i && bit s i) (bit a i) (λ u. ((and_T (bit a i) (bit s i)).0 u).0)
      (λ u. (and_T (bit a i) (bit s i)).1 (u, seen i u (T-dec (bit s i)))))
    where
      seen : (i : ℕ) → T (bit a i) → Dec (T (bit s i)) → T (bit s i)
      seen i u (yes v) = v
      seen i u (no v) =
          let (x, (p, h)) = simp and_T at (subst T (ha i) u) in
          absurd (k (any_of n early i (ltb→lt i n h) (simp and_T (p, (x, not_T (bit s i) v)))))

  not_seen : T (any_below n early) → ¬ (bit_and a s ≡ a)
  not_seen t q =
      let (i, h, u) = any_witness n early t in
      let (p, (x, v)) = simp and_T at u in
      let asked : T (bit a i) = subst T (sym (ha i)) (simp and_T (x, (p, lt→ltb i n h))) in
      T_not (bit s i) v ((and_T (bit a i) (bit s i)).0 (subst T (sym (ap (λ (m : ℕ). bit m i) q) ∙ bit_and_lem a s i) asked)).1

  early_test : not (eqb (bit_and a s) a) ≡ too_early s c n
  unfolding too_early
  early_test = same_test (not (eqb (bit_and a s) a)) (any_below n early) (λ t. there t (T-dec (any_below n early)))
      (λ t. not_T (eqb (bit_and a s) a) (λ q. not_seen t (eqb→eq (bit_and a s) a q)))
    where
      there : T (not (eqb (bit_and a s) a)) → Dec (T (any_below n early)) → T (any_below n early)
      there t (yes u) = u
      there t (no k) = absurd (T_not (eqb (bit_and a s) a) t (rw (all_seen k) (eqb_refl a)))

-- ---- the step
left_alone : (a b : Bool) → (a || (b && false)) ≡ a
left_alone true b = refl
left_alone false true = refl
left_alone false false = refl

regroup : (l a b : Bool) → ((l && a) || (b && l)) ≡ (l && (a || b))
regroup true true b = refl
regroup true false true = refl
regroup true false false = refl
regroup false a true = refl
regroup false a false = refl

module _ (s c n : ℕ) (some_leg : 0 < n) where
  abbrev met : ℕ
  met = bit_or (bit_and s (2 ^ n - 1)) (bit_and c (2 ^ n - 1 - 1))

  abbrev asked : ℕ
  asked = bit_and (c / 2) (2 ^ n - 1 - 1)

  asked_bit : (i : ℕ) → bit asked i ≡ (bit c (suc i) && (ltb 0 i && ltb i n))
  asked_bit i = bit_and_lem (c / 2) (2 ^ n - 1 - 1) i ∙ rw (bit_half c i, bit_middle n i some_leg)

  met_bit : (i : ℕ) → bit met i ≡ ((ltb i n && bit s i) || (bit c i && (ltb 0 i && ltb i n)))
  met_bit i =
      bit_or_lem (bit_and s (2 ^ n - 1)) (bit_and c (2 ^ n - 1 - 1)) i
      ∙ rw (bit_and_lem c (2 ^ n - 1 - 1) i, bit_middle n i some_leg, and_mask s n, bit_mod s n i)

  met_first : bit met 0 ≡ bit s 0
  met_first = met_bit 0 ∙ rw (lt-ltb 0 n some_leg) (left_alone (bit s 0) (bit c 0))

  met_suc : (i : ℕ) → bit met (suc i) ≡ (ltb (suc i) n && (bit s (suc i) || bit c (suc i)))
  met_suc i = met_bit (suc i) ∙ rw (lt-ltb 0 (suc i) (omega arith)) (regroup (ltb (suc i) n) (bit s (suc i)) (bit c (suc i)))

  all_met : eqb (bit_and asked s) asked ≡ true → Tracked s c n met
  unfolding track_after
  all_met q = record { at = at }
    where
      at : (i : ℕ) → bit met i ≡ track_after s c n i
      at zero = met_first ∙ sym (rw (← early_test s c n asked asked_bit, q) (or-false (bit s 0)))
      at (suc i) = met_suc i

  one_unmet : eqb (bit_and asked s) asked ≡ false → Tracked s c n (bit_or met 1)
  unfolding track_after
  one_unmet q = record { at = at }
    where
      at : (i : ℕ) → bit (bit_or met 1) i ≡ track_after s c n i
      at zero = bit_or_lem met 1 0 ∙ rw (met_first, bit_one 0, ← early_test s c n asked asked_bit, q)
      at (suc i) =
          bit_or_lem met 1 (suc i) ∙ rw (met_suc i, bit_one (suc i), eqb-suc-zero i) (or-false (ltb (suc i) n && (bit s (suc i) || bit c (suc i))))

-- ---- over the width
module _ (w s c n : ℕ) (some_leg : 0 < n) (fits : n < w) where
  pub track_met : bit_and (asked_in w c n) s ≡ asked_in w c n → Tracked s c n (met_in w s c n)
  track_met q = rw (one_shl fits) (all_met s c n some_leg (rw (one_shl fits) at (eq-eqb (bit_and (asked_in w c n) s) (asked_in w c n) q)))

  pub track_unmet : ¬ (bit_and (asked_in w c n) s ≡ asked_in w c n) → Tracked s c n (bit_or (met_in w s c n) 1)
  track_unmet q = rw (one_shl fits) (one_unmet s c n some_leg (rw (one_shl fits) at (ne_eqb (bit_and (asked_in w c n) s) (asked_in w c n) q)))

  pub track_law : Tracked s c n (track_step w s c n)
  track_law = go (eqb (bit_and (asked_in w c n) s) (asked_in w c n)) refl
    where
      go : (b : Bool) → eqb (bit_and (asked_in w c n) s) (asked_in w c n) ≡ b → Tracked s c n (cond b (met_in w s c n) (bit_or (met_in w s c n) 1))
      go true q = track_met (eqb-true (bit_and (asked_in w c n) s) (asked_in w c n) q)
      go false q = track_unmet (eqb-false (bit_and (asked_in w c n) s) (asked_in w c n) q)

-- the definition sets every bit, so it sets the result
pub tracked_one : {s c n x y : ℕ} → Tracked s c n x → Tracked s c n y → x ≡ y
tracked_one {x = x} {y = y} a b = bits_all x y (λ i. a.at i ∙ sym (b.at i))

-- ---- the order monitor: s any number, and c with the bits that the model gives
module _ (M : Model) (y c : ℕ) (some_leg : 0 < M.legs) (hc : (i : ℕ) → 0 < i → i ≤ M.legs → bit c i ≡ M.σ i y) where
  open M use {legs, σ}

  early_breaks : (s : ℕ) → too_early s c legs ≡ breaks M (bit s) y
  unfolding too_early
  early_breaks s = any_same legs _ _ (λ i h. rw (hc (suc i) (omega arith) h))

  none_from : (s i : ℕ) → legs ≤ i → track_after s c legs i ≡ false
  unfolding track_after
  none_from s zero h = absurd (omega arith)
  none_from s (suc i) h = rw (le-ltb (suc i) legs h)

  pub track_is : {s x : ℕ} (e : ℕ) → Tracked s c legs x → x ≡ (tracker_n M).step s e y
  unfolding track_after
  track_is {s} {x} e a =
      pack_is legs (with_broken (bit s 0 || breaks M (bit s) y) (λ i. bit s i || σ i y)) x
      (λ i h. a.at i ∙ at i h) (λ i h. a.at i ∙ none_from s i h)
    where
      at : (i : ℕ) → i < legs → track_after s c legs i ≡ with_broken (bit s 0 || breaks M (bit s) y) (λ i. bit s i || σ i y) i
      at zero h = rw (early_breaks s)
      at (suc i) h = rw (lt-ltb (suc i) legs h, hc (suc i) (omega arith) (omega arith))

  -- the first context: a step from 0
  pub begin_is : {x : ℕ} → Tracked 0 c legs x → x ≡ (tracker_n M).start y
  unfolding track_after
  begin_is {x} a =
      pack_is legs (with_broken (breaks M (λ i. false) y) (λ i. σ i y)) x
      (λ i h. a.at i ∙ at i h) (λ i h. a.at i ∙ none_from 0 i h)
    where
      at : (i : ℕ) → i < legs → track_after 0 c legs i ≡ with_broken (breaks M (λ i. false) y) (λ i. σ i y) i
      at zero h = rw (bit_zero 0, early_breaks 0) (breaks_same M (bit 0) (λ i. false) (λ i p q. bit_zero i) y)
      at (suc i) h = rw (lt-ltb (suc i) legs h, bit_zero (suc i), hc (suc i) (omega arith) (omega arith))
