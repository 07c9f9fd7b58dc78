-- Two searches, one with each monitor, and the answer that they come to; a model has one right answer.
use mathlib.Core.Path.{◌≡◌, refl, sym, ap, subst}
use mathlib.Core.Bool.{Bool}
use Prim.Native.Nat.{ℕ, suc, ◌≤◌, ◌<◌}
use native.Mathlib.Nat.{le_refl}
use native.Mathlib.Omega.{arith}
use native.Mathlib.Decide.{dec_lt}
use lib.Dec.{T}
use Rattle.paths.specs.Model.{Model}
use Rattle.paths.specs.Paths.{IsPath, BreaksOrder, BreaksEvents, SomeOrder, SomeEvents, OrderAt, EventsAt}
use Rattle.paths.specs.Inner.Verdict.{Verdict, holds, order, events, Right}
use Rattle.paths.specs.Inner.Monitor.{BadNode}
use Rattle.paths.specs.Inner.Least.{at, nowhere, Least}
use Rattle.paths.proofs.Monitor.{run_same}
use Rattle.paths.proofs.Events.{stager, follows_iff}
use Rattle.paths.specs.Inner.Monitors.{tracker_n, stager_n}
use Rattle.paths.proofs.Monitors.{order_iff, events_iff}

module _ (M : Model) where
  mixed : (m k : ℕ) → OrderAt M m → EventsAt M k → ⊥
  mixed m k p q = go (dec_lt m k) (dec_lt k m)
    where
      go : Dec (m < k) → Dec (k < m) → ⊥
      go (yes h) d = (q.0 m h).0 p.1
      go (no h) (yes g) = (p.0 k g).1 q.1
      go (no h) (no g) = let e : m ≡ k = omega arith in q.2 (subst (SomeOrder M) e p.1)

  pub right_unique : (a b : Verdict) → Right M a → Right M b → a ≡ b
  right_unique holds holds p q = refl
  right_unique holds (order m) p q = absurd ((p m).0 q.1)
  right_unique holds (events m) p q = absurd ((p m).1 q.1)
  right_unique (order m) holds p q = absurd ((q m).0 p.1)
  right_unique (events m) holds p q = absurd ((q m).1 p.1)
  right_unique (order m) (order k) p q = go (dec_lt m k) (dec_lt k m)
    where
      go : Dec (m < k) → Dec (k < m) → order m ≡ order k
      go (yes h) d = absurd ((q.0 m h).0 p.1)
      go (no h) (yes g) = absurd ((p.0 k g).0 q.1)
      go (no h) (no g) = let e : m ≡ k = omega arith in ap order e
  right_unique (events m) (events k) p q = go (dec_lt m k) (dec_lt k m)
    where
      go : Dec (m < k) → Dec (k < m) → events m ≡ events k
      go (yes h) d = absurd ((q.0 m h).1 p.1)
      go (no h) (yes g) = absurd ((p.0 k g).1 q.1)
      go (no h) (no g) = let e : m ≡ k = omega arith in ap events e
  right_unique (order m) (events k) p q = absurd (mixed m k p q)
  right_unique (events k) (order m) q p = absurd (mixed m k p q)

  module _ (some_leg : 0 < M.legs) where
    no_order : (k : ℕ) → ¬ BadNode M (tracker_n M) k → ¬ SomeOrder M k
    no_order k f b = f ((order_iff M some_leg k).0 b)

    no_events_lem : (k : ℕ) → ¬ BadNode M (stager_n M) k → ¬ SomeEvents M k
    no_events_lem k f b = f ((events_iff M k).0 b)

    -- order needs of events only that none has fewer steps
    pub order_right : (m : ℕ) → Least M (tracker_n M) (at m) → ((k : ℕ) → k < m → ¬ BadNode M (stager_n M) k) → Right M (order m)
    order_right m p q = (λ i l. (no_order i (p.1 i l), no_events_lem i (q i l)), (order_iff M some_leg m).1 p.0)

    -- events need of order that none has as many steps, or fewer
    pub events_right : (m : ℕ) → Least M (stager_n M) (at m) → ((k : ℕ) → k ≤ m → ¬ BadNode M (tracker_n M) k) → Right M (events m)
    events_right m p q = (λ i l. (no_order i (q i (omega arith)), no_events_lem i (p.1 i l)), (events_iff M m).1 p.0, no_order m (q m (omega arith)))

    pub holds_right : Least M (tracker_n M) nowhere → Least M (stager_n M) nowhere → Right M holds
    holds_right p q i = (no_order i (p i), no_events_lem i (q i))

  -- only x 0 to x m and e 0 to e (m − 1) count
  module _ (m : ℕ) (x y e f : ℕ → ℕ) (xs : (j : ℕ) → j ≤ m → x j ≡ y j) (es : (j : ℕ) → j < m → e j ≡ f j) where
    pub path_same : IsPath M m x e → IsPath M m y f
    path_same P =
        record {
          contexts = λ j h. rw (xs j h) at (P.contexts j h);
          flows = λ j h. rw (xs j (omega arith), es j h, xs (suc j) h) at (P.flows j h);
          starts = rw (xs 0 (omega arith)) at P.starts;
          meets = rw (xs 0 (omega arith)) at P.meets;
          arrives = rw (xs m (le_refl m)) at P.arrives;
          first = λ j h. rw (xs j (omega arith)) at (P.first j h);
          free = λ j h. rw (xs j (omega arith)) at (P.free j h);
          free_e = λ j h. rw (es j (omega arith)) at (P.free_e j h);
        }

    pub order_same : BreaksOrder M m x → BreaksOrder M m y
    order_same b =
        record {
          i = b.i;
          j = b.j;
          above = b.above;
          below = b.below;
          within = b.within;
          reached = rw (xs b.j b.within) at b.reached;
          unreleased = λ l h. let q : l ≤ m = omega (arith, b.within) in rw (xs l q) at (b.unreleased l h);
        }

    pub events_same : T (M.σ 0 (x 0)) → BreaksEvents M m x e → BreaksEvents M m y f
    events_same t b F =
        b ((follows_iff M x e m t).1 (subst (λ (S : ℕ → Bool). T (S M.legs)) (sym (run_same (stager M) x y e f m xs es))
        ((follows_iff M y f m (rw (xs 0 (omega arith)) at t)).0 F)))
