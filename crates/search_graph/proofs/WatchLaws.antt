-- The code of each mode computes that mode's monitor.
use mathlib.Core.Path.{◌≡◌, refl, sym, ◌∙◌, ap, subst}
use mathlib.Core.Bool.{Bool, true, false, not, ◌&&◌}
use Prim.Native.Nat.{ℕ, zero, suc, ◌/◌, ◌^◌, ◌≤◌, ◌<◌}
use native.Mathlib.Nat.{pow-suc}
use native.Mathlib.Omega.{arith}
use lib.Pow.{pow_pos}
use borrow.Author.Tests.{le-ltb}
use lib.Dec.{ltb}
use Rattle.base.specs.Bits.{bit}
use Rattle.base.proofs.BitLaws.{bit_shr, bit_zero}
use Rattle.base.proofs.BoolLaws.{and_no}
use Rattle.goal_image.specs.declared.check.Legs.{Legs}
use Rattle.paths.specs.Model.{Model}
use Rattle.paths.specs.Inner.Stages.{goes_on, entered, stage_after, Advanced}
use Rattle.paths.specs.Inner.Tracker.{track_after, Tracked}
use Rattle.paths.proofs.Numbers.{pack_is, pack_lt}
use Rattle.paths.proofs.StageLaws.{advance_is}
use Rattle.paths.proofs.TrackerLaws.{track_is, begin_is}
use Rattle.search_graph.specs.declared.monitor.Mode.{Mode}
use Rattle.search_graph.specs.declared.monitor.Mode.TheVariants.{Order, Events, Any}
use Rattle.search_graph.specs.Inner.Watching.{LegsOf, stages_from, Started, Stepped, Judged}

-- ---- states have at most n + 1 bits
fits : (k r : ℕ) → ((i : ℕ) → k ≤ i → bit r i ≡ false) → r < 2 ^ k
fits k r h = rw (pack_is k (bit r) r (λ i _. refl) h) (pack_lt k (bit r))

tracked_above : (s c n i : ℕ) → suc n ≤ i → track_after s c n i ≡ false
unfolding track_after
tracked_above s c n zero h = absurd (omega arith)
tracked_above s c n (suc i) h = rw (le-ltb (suc i) n (omega arith))

advanced_above : (s r g c n i : ℕ) → suc n ≤ i → stage_after s r g c n i ≡ false
unfolding stage_after entered goes_on
advanced_above s r g c n zero h = absurd (omega arith)
advanced_above s r g c n (suc i) h = rw (le-ltb (suc i) n (omega arith), le-ltb i n (omega arith))

tracked_small : {s c n r : ℕ} → Tracked s c n r → r < 2 ^ suc n
tracked_small {s} {c} {n} {r} t = fits (suc n) r (λ i h. t.at i ∙ tracked_above s c n i h)

advanced_small : {s q g c n r : ℕ} → Advanced s q g c n r → r < 2 ^ suc n
advanced_small {s} {q} {g} {c} {n} {r} t = fits (suc n) r (λ i h. t.at i ∙ advanced_above s q g c n i h)

-- ---- from no stage none is reached
none_goes : (g n i : ℕ) → goes_on 0 g n i ≡ false
unfolding goes_on
none_goes g n i = and_no (ltb i n) (bit 0 i && bit g i) (ap (λ (b : Bool). b && bit g i) (bit_zero i))

none_after : (q g c n i : ℕ) → stage_after 0 q g c n i ≡ false
unfolding stage_after entered
none_after q g c n zero = rw (none_goes g n 0)
none_after q g c n (suc i) = rw (none_goes g n (suc i), none_goes g n i)

module _ {l : Legs} where
  some_leg : {M : Model} → LegsOf M l → 0 < l.count → 0 < M.legs
  some_leg L h = rw L.count h

  pub start_order : {into r : ℕ} → 0 < l.count → Tracked 0 into l.count r → Started Order l into r
  start_order {into} {r} h t =
      record { small = tracked_small t; is = λ M y L I. begin_is M y into (some_leg L h) I.at (subst (λ (k : ℕ). Tracked 0 into k r) (sym L.count) t) }

  pub start_events : {into : ℕ} → Started Events l into 1
  start_events = record { small = omega (arith, pow-suc 2 l.count, pow_pos l.count); is = λ M y L I. refl }

  pub start_any : {into : ℕ} → Started Any l into 0
  start_any = record { small = pow_pos (suc l.count); is = λ M y L I. refl }

  pub step_order : {state by into r : ℕ} → 0 < l.count → Tracked state into l.count r → Stepped Order l state by into r
  step_order {state} {by} {into} {r} h t =
      record { small = tracked_small t; is = λ M e y L _ I. track_is M y into (some_leg L h) I.at e (subst (λ (k : ℕ). Tracked state into k r) (sym L.count) t) }

  step_events : {state by into r : ℕ} → Advanced state l.repeated (by / 2 ^ 7) into l.count r → Stepped Events l state by into r
  step_events {state} {by} {into} {r} a =
      record {
        small = advanced_small a;
        is = λ M e y L B I. advance_is M e y state l.repeated (by / 2 ^ 7) into L.repeated (λ i h. bit_shr by 7 i ∙ B.at i h) I.at
            (subst (λ (k : ℕ). Advanced state l.repeated (by / 2 ^ 7) into k r) (sym L.count) a);
      }

  step_any : {state by into r : ℕ} → Advanced 0 l.repeated (by / 2 ^ 7) into l.count r → Stepped Any l state by into r
  step_any {by = by} {into} {r} a =
      record { small = advanced_small a; is = λ M e y L B I. omega (arith, fits 0 r (λ i h. a.at i ∙ none_after l.repeated (by / 2 ^ 7) into l.count i)) }

  -- .. by the two ways that a step goes: order's, and that of stages
  pub step_advanced : {state by into r : ℕ} (m : Mode) → (m ≡ Order → ⊥) → Advanced (stages_from m state) l.repeated (by / 2 ^ 7) into l.count r → Stepped m l state by into r
  step_advanced Order z a = absurd (z refl)
  step_advanced Events z a = step_events a
  step_advanced Any z a = step_any a

  pub judge_order : {state : ℕ} {r : Bool} → r ≡ bit state 0 → Judged Order l state r
  judge_order q = record { is = λ M L. q }

  pub judge_events : {state : ℕ} {r : Bool} → r ≡ bit state l.count → Judged Events l state (not r)
  judge_events {state} q = record { is = λ M L. ap not (q ∙ ap (bit state) (sym L.count)) }

  pub judge_any : {state : ℕ} → Judged Any l state true
  judge_any = record { is = λ M L. refl }
