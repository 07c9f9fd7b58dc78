-- Where no step is open, none is later: what is remembered only grows.
use mathlib.Core.Path.{◌≡◌, refl, sym, ◌∙◌, ap, subst}
use mathlib.Core.Bool.{true, false, ◌||◌}
use mathlib.Core.List.{List}
use mathlib.Core.Logic.{inl, inr, ⊎_elim}
use Prim.Native.Nat.{ℕ, ◌≤◌}
use lib.ListN.{get_or, replicate, length-replicate}
use Rattle.base.specs.Bits.{bit}
use Rattle.base.proofs.BitLaws.{bit_zero}
use Rattle.base.proofs.Numbers.{zeros}
use Rattle.base.proofs.BoolLaws.{or_cases, or_left, or_true, true_or_false, clash}
use Rattle.policy_image.specs.declared.counts.Counts.{Counts}
use Rattle.context.specs.declared.Context.{Context}
use Rattle.context.specs.Ranges.{ContextInRange}
use Rattle.plan.specs.Inner.Plan.{Ready, Planned, ruled}
use Rattle.plan.specs.Inner.Entries.{event_sets_at}
use Rattle.search_steps.specs.declared.nearest.Asker.{Asker}
use Rattle.search_steps.specs.declared.nearest.Offer.{Offer}
use Rattle.search_steps.specs.Inner.Nearest.{kept_of, PassedOver, AllPassedOver, NearestOf, StepBlockOf}
use Rattle.search_steps.specs.Inner.Steps.{Shut}
use Rattle.search_steps.proofs.NearestLaws.{all_passed, none_open}
use Rattle.search_steps.proofs.OfferLaws.{next_law}
use Rattle.search_graph.specs.declared.monitor.Mode.{Mode}
use Rattle.search_graph.specs.Inner.Blocks.{Asks, FirstStep}
use Rattle.search_graph.proofs.ArrivalLaws.{no_step_lem, some_step}
use Rattle.search_memory.specs.declared.turn.Node.{Node}
use Rattle.search_memory.specs.Inner.Memory.{Grown, Remembered, AskerOf, Shuts, Recalls, Recalled, FirstFrom}

pub grown_same : (l : List ℕ) → Grown l l
grown_same l = record { stays = λ t k b. b }

pub grown_more : {l l' l'' : List ℕ} → Grown l l' → Grown l' l'' → Grown l l''
grown_more G H = record { stays = λ t k b. H.stays t k (G.stays t k b) }

module _ {plan swept : List ℕ} {a : Asker} {lo stop : ℕ} (S : AllPassedOver plan swept a lo stop) where
  -- more is swept
  all_more : {swept' : List ℕ} → Grown swept swept' → AllPassedOver plan swept' a lo stop
  all_more {swept'} G = record { each = λ j q l k lq b. more _ _ (S.each j q l k lq b) }
    where
      more : (e o : ℕ) → PassedOver plan swept a e o → PassedOver plan swept' a e o
      more e o (inl c) =
          inl (⊎_elim (λ b. or_left (bit (event_sets_at plan e) 14) (bit (get_or swept' o 0) (kept_of a (event_sets_at plan e))) b)
          (λ b. or_true (bit (event_sets_at plan e) 14) (bit (get_or swept' o 0) (kept_of a (event_sets_at plan e))) (G.stays o (kept_of a (event_sets_at plan e)) b))
          (or_cases (bit (event_sets_at plan e) 14) (bit (get_or swept o 0) (kept_of a (event_sets_at plan e))) c))
      more e o (inr c) = inr c

  -- one who asks for less
  all_less : {a' : Asker} → a.state ≡ a'.state → a.keeps ≡ a'.keeps → (a.spent ≡ true → a'.spent ≡ true) → AllPassedOver plan swept a' lo stop
  all_less {a'} p q r = record { each = λ j d l k ld b. less _ _ (S.each j d l k ld b) }
    where
      less : (e o : ℕ) → PassedOver plan swept a e o → PassedOver plan swept a' e o
      less e o (inl c) = inl ((λ i. bit (event_sets_at plan e) 14 || bit (get_or swept o 0) (kept_of (record { state = sym p i; keeps = sym q i; spent = a'.spent }) (event_sets_at plan e))) ∙ c)
      less e o (inr c) = inr (r c.0, c.1)

pub shuts_begin : (m : Mode) (plan swept spent : List ℕ) → Shuts m plan swept spent (replicate 256 0)
shuts_begin m plan swept spent =
    record { size = length-replicate {A = ℕ} 256 0; at = λ t a _ _ b. absurd (clash b (ap (λ (v : ℕ). bit v a.state) (zeros 256 t) ∙ bit_zero a.state)) }

module _ {m : Mode} {plan swept spent shut : List ℕ} (S : Shuts m plan swept spent shut) where
  pub shuts_recall : {x : Context} {state : ℕ} {a : Asker} → AskerOf m spent x state a → Recalls plan swept shut a x.ty
  shuts_recall {x} {state} {a} Q =
      record { size = S.size; at = S.at x.ty a Q.keeps_are (Q.spent_is ∙ ap (bit (get_or spent x.ty 0)) (sym Q.state_is)) }

  -- after a turn of x, in which more was swept, and its state was spent
  pub shuts_turn : {x : Context} {state : ℕ} {a : Asker} {swept' spent' shut' : List ℕ} → AskerOf m spent x state a → Recalled plan swept shut shut' a x.ty → Grown swept swept'
      → Grown spent spent' → Shuts m plan swept' spent' shut'
  shuts_turn {x} {state} {a} {swept'} Q R G H =
      record {
        size = R.size;
        at = λ t b k s w.
            ⊎_elim
            (λ (o : bit (get_or shut t 0) b.state ≡ true).
            let b₀ : Asker = record { state = b.state; keeps = b.keeps; spent = bit (get_or spent t 0) b.state } in
            all_more (all_less {a = b₀} (S.at t b₀ k refl o) {a' = b} refl refl (λ y. s ∙ H.stays t b.state y)) G)
            (λ o.
            subst (Shut plan swept' b) (sym o.0)
            (all_more (all_less {a = a} o.2 {a' = b} o.1 (Q.keeps_are ∙ sym k)
            (λ y. s ∙ H.stays t b.state (ap (λ (i : ℕ). bit (get_or spent i 0) b.state) o.0 ∙ ap (bit (get_or spent x.ty 0)) (sym o.1 ∙ Q.state_is) ∙ sym Q.spent_is ∙ y))) G))
            (R.only t b.state w);
      }

-- ---- the first step
module _ {plan swept shut : List ℕ} {a : Asker} {o : ℕ} (R : Recalls plan swept shut a o) where
  pub recall_same : Recalled plan swept shut shut a o
  recall_same = record { size = R.size; only = λ t k b. inl b }

  pub recall_more : {r : Offer} {shut' : List ℕ} → StepBlockOf plan o → NearestOf plan swept a o 0 r → 4194304 ≤ r.step → Remembered shut shut' o a.state true
      → Recalled plan swept shut shut' a o
  recall_more B N z K =
      record {
        size = K.size ∙ R.size;
        only = λ t k b. ⊎_elim inl (λ i. inr (i.0, i.2, all_passed B.block N z)) (K.only t k b);
      }

  -- no step need be asked
  pub no_open : {start entry : ℕ} → bit (get_or shut o 0) a.state ≡ true → NearestOf plan swept a o 0 (record { start = start; entry = entry; step = 4194304 })
  no_open {start} {entry} t = none_open start entry (R.at t)

-- what it is for a node at x
pub first_step_law : {s plan swept : List ℕ} {n : Counts} {v : Node} {r : Offer} → Ready s n → Planned s n plan → ContextInRange n v.x
    → Asks (ruled s plan) n plan v.x v.asks → FirstFrom plan swept v r → FirstStep (ruled s plan) n plan swept v.asker v.x r
first_step_law {v = v} {r} Y P h A F =
    ⊎_elim (λ (k : v.asks ≡ true). some_step A k (next_law Y P h (F.nearest k))) (λ (k : v.asks ≡ false). subst (FirstStep _ _ _ _ _ _) (at_none k) (no_step_lem A k)) (true_or_false v.asks)
  where
    at_none : v.asks ≡ false → record { start = r.start; entry = r.entry; step = 4194304 } ≡ r
    at_none k = ap (λ (i : ℕ). record { start = r.start; entry = r.entry; step = i }) (sym (F.none k))
