-- The two monitors over numbers, which a search runs, and what their bad nodes come to: paths that break order, and paths that
-- break events.
use mathlib.Core.Path.{◌≡◌, refl, sym, ap, subst, ◌∙◌}
use mathlib.Core.Bool.{Bool, false, not, ◌&&◌, ◌||◌}
use mathlib.Core.Logic.Iff
use mathlib.Core.Logic.{◌↔◌}
use Prim.Native.Nat.{ℕ, zero, suc, ◌≤◌, ◌<◌}
use native.Mathlib.Nat.{not-suc-le-zero, le_refl}
use native.Mathlib.Omega.{arith}
use lib.Dec.{T, ltb, T_not, not_T}
use Rattle.base.specs.Bits.{bit}
use Rattle.paths.specs.Model.{Model}
use Rattle.paths.specs.Paths.{BreaksOrder, BreaksEvents, SomeOrder, SomeEvents}
use Rattle.paths.specs.Inner.Monitors.{with_broken, stager_n, tracker_n, breaks, enters, opens}
use Rattle.paths.proofs.Any.{any_same}
use Rattle.paths.specs.Inner.Pack.{pack}
use Rattle.paths.proofs.Numbers.{bit_pack, bit_one}
use Rattle.paths.specs.Inner.Monitor.{Monitor, run, BadPath, BadNode}
use Rattle.paths.proofs.Monitor.{bad_iff}
use Rattle.paths.proofs.Order.{Track, tracker, broken_iff}
use Rattle.paths.proofs.Events.{stager, follows_iff}

-- two monitors that keep in step give the same verdicts
module _ (A B : Monitor) (R : A.State → B.State → Type 0)
    (R-start : (x : ℕ) → R (A.start x) (B.start x))
    (R-step : (s : A.State) (t : B.State) (e y : ℕ) → R s t → R (A.step s e y) (B.step t e y))
    (R-bad : (s : A.State) (t : B.State) → R s t → A.bad s ≡ B.bad t) where
  related : (x e : ℕ → ℕ) (m : ℕ) → R (run A x e m) (run B x e m)
  related x e zero = R-start (x 0)
  related x e (suc m) = R-step (run A x e m) (run B x e m) (e m) (x (suc m)) (related x e m)

  verdict_same : (x e : ℕ → ℕ) (m : ℕ) → A.bad (run A x e m) ≡ B.bad (run B x e m)
  verdict_same x e m = R-bad (run A x e m) (run B x e m) (related x e m)

module _ (M : Model) where
  open M use {legs, σ}

  -- ---- events: the stages as bits 0 to n
  abbrev Stages : (ℕ → Bool) → ℕ → Type 0
  Stages S N = (i : ℕ) → i ≤ legs → S i ≡ bit N i

  enters_same : (S : ℕ → Bool) (N : ℕ) → Stages S N → (e y i : ℕ) → i ≤ legs → enters M S e y i ≡ enters M (bit N) e y i
  enters_same S N r e y zero h = refl
  enters_same S N r e y (suc i) h = rw (r i (omega arith))

  opens_same : (S : ℕ → Bool) (N : ℕ) → Stages S N → (e y i : ℕ) → i ≤ legs → opens M S e y i ≡ opens M (bit N) e y i
  opens_same S N r e y i h = rw (r i h, enters_same S N r e y i h)

  stages_step : (S : ℕ → Bool) (N e y : ℕ) → Stages S N → Stages ((stager M).step S e y) ((stager_n M).step N e y)
  stages_step S N e y r i h = opens_same S N r e y i h ∙ sym (bit_pack (suc legs) (opens M (bit N) e y) i (omega arith))

  -- the verdict on a path that is at hand
  pub events_verdict : (x e : ℕ → ℕ) (m : ℕ) → T (σ 0 (x 0)) → T (not (bit (run (stager_n M) x e m) legs)) ↔ BreaksEvents M m x e
  events_verdict x e m t =
      subst (λ (b : Bool). T b ↔ BreaksEvents M m x e)
      (verdict_same (stager M) (stager_n M) Stages (λ x i h. sym (bit_one i)) stages_step (λ S N r. ap not (r legs (le_refl legs))) x e m) (
        λ u f. T_not (run (stager M) x e m legs) u ((follows_iff M x e m t).0 f),
        λ b. not_T (run (stager M) x e m legs) (λ u. b ((follows_iff M x e m t).1 u)),
      )

  -- a path of m steps that breaks events: a node m steps from a start, in σn, with bit n not set
  pub events_iff : (m : ℕ) → SomeEvents M m ↔ BadNode M (stager_n M) m
  events_iff m = Iff.trans (first, second) (bad_iff M (stager_n M) m)
    where
      first : SomeEvents M m → BadPath M (stager_n M) m
      first b = record { x = b.x; e = b.e; path = b.path; verdict = (events_verdict b.x b.e m b.path.starts).1 b.breaks }

      second : BadPath M (stager_n M) m → SomeEvents M m
      second b = record { x = b.x; e = b.e; path = b.path; breaks = (events_verdict b.x b.e m b.path.starts).0 b.verdict }

  -- ---- order: what has been seen as bits 1 to n − 1, and whether order is broken as bit 0
  record Seen (s : Track) (N : ℕ) : Type 0 where
    seen_at : (i : ℕ) → 0 < i → i < legs → s.seen i ≡ bit N i
    broken_at : s.broken ≡ bit N 0

  pub breaks_same : (f g : ℕ → Bool) → ((i : ℕ) → 0 < i → i < legs → f i ≡ g i) → (y : ℕ) → breaks M f y ≡ breaks M g y
  breaks_same f g h y = any_same legs _ _ at
    where
      at : (i : ℕ) → i < legs → (ltb 0 i && (σ (suc i) y && not (f i))) ≡ (ltb 0 i && (σ (suc i) y && not (g i)))
      at zero q = refl
      at (suc i) q = ap (λ b. ltb 0 (suc i) && (σ (suc (suc i)) y && not b)) (h (suc i) (omega arith) q)

  seen_bit : (b : Bool) (f : ℕ → Bool) (i : ℕ) → 0 < i → i < legs → f i ≡ bit (pack legs (with_broken b f)) i
  seen_bit b f zero p q = absurd (not-suc-le-zero p)
  seen_bit b f (suc i) p q = sym (bit_pack legs (with_broken b f) (suc i) q)

  module _ (some_leg : 0 < legs) where
    broken_bit : (b : Bool) (f : ℕ → Bool) → b ≡ bit (pack legs (with_broken b f)) 0
    broken_bit b f = sym (bit_pack legs (with_broken b f) 0 some_leg)

    seen_start : (x : ℕ) → Seen ((tracker M).start x) ((tracker_n M).start x)
    seen_start x = record {
      seen_at = seen_bit (breaks M (λ i. false) x) (λ i. σ i x);
      broken_at = broken_bit (breaks M (λ i. false) x) (λ i. σ i x);
    }

    seen_step : (s : Track) (N e y : ℕ) → Seen s N → Seen ((tracker M).step s e y) ((tracker_n M).step N e y)
    seen_step s N e y r = record {
      seen_at = λ i p q. ap (λ b. b || σ i y) (r.seen_at i p q) ∙ seen_bit (bit N 0 || breaks M (bit N) y) (λ i. bit N i || σ i y) i p q;
      broken_at = ap (λ b. b || breaks M s.seen y) r.broken_at ∙ ap (λ b. bit N 0 || b) (breaks_same s.seen (bit N) r.seen_at y)
          ∙ broken_bit (bit N 0 || breaks M (bit N) y) (λ i. bit N i || σ i y);
    }

    -- the verdict on a path that is at hand
    pub order_verdict : (x e : ℕ → ℕ) (m : ℕ) → T (bit (run (tracker_n M) x e m) 0) ↔ BreaksOrder M m x
    order_verdict x e m =
        subst (λ (b : Bool). T b ↔ BreaksOrder M m x)
        (verdict_same (tracker M) (tracker_n M) Seen seen_start seen_step (λ s t r. r.broken_at) x e m)
        (broken_iff M x e m)

    -- a path of m steps that breaks order: a node m steps from a start, in σn, with bit 0 set
    pub order_iff : (m : ℕ) → SomeOrder M m ↔ BadNode M (tracker_n M) m
    order_iff m = Iff.trans (first, second) (bad_iff M (tracker_n M) m)
      where
        first : SomeOrder M m → BadPath M (tracker_n M) m
        first b = record { x = b.x; e = b.e; path = b.path; verdict = (order_verdict b.x b.e m).1 b.breaks }

        second : BadPath M (tracker_n M) m → SomeOrder M m
        second b = record { x = b.x; e = b.e; path = b.path; breaks = (order_verdict b.x b.e m).0 b.verdict }
