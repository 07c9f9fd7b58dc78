-- The answer to a goal, decided by computing.
use mathlib.Core.Path.{◌≡◌}
use mathlib.Core.Bool.{Bool, not, ◌&&◌}
use Prim.Native.Nat.{ℕ, ◌<◌}
use lib.Dec.{T, eqb, ltb, eqb→eq, ltb→lt, T_not, not_T}
use Rattle.paths.specs.Inner.Below.{any_below}
use Rattle.paths.specs.Model.{Model}
use Rattle.paths.specs.Paths.{SomeOrder, SomeEvents, NoneBelow, Holds, OrderAt, EventsAt}
use Rattle.paths.proofs.Any.{any_of, and_T}
use Rattle.paths.proofs.Finite.{Finite, any_at, bad_end, bad_at, saturated, none_at_all}
use Rattle.paths.specs.Inner.Monitors.{tracker_n, stager_n}
use Rattle.paths.proofs.Monitors.{order_iff, events_iff}

module _ (M : Model) (F : Finite M) where
  -- some path of m steps breaks order; events
  abbrev pub order_b : ℕ → Bool
  order_b m = any_at M F (tracker_n M) m (bad_end M F (tracker_n M))

  abbrev pub events_b : ℕ → Bool
  events_b m = any_at M F (stager_n M) m (bad_end M F (stager_n M))

  abbrev same : ℕ → ℕ → ℕ → ℕ → Bool
  same x s y t = eqb x y && eqb s t

  same_eq : (x s y t : ℕ) → T (same x s y t) → (x ≡ y) × (s ≡ t)
  same_eq x s y t h = let q = (and_T (eqb x y) (eqb s t)).0 h in (eqb→eq x y q.0, eqb→eq s t q.1)

  -- within k steps there is no bad end, and from there on nothing is new
  abbrev pub order_never : ℕ → Bool
  order_never k = saturated M F (tracker_n M) same k && not (any_below k order_b)

  abbrev pub events_never : ℕ → Bool
  events_never k = saturated M F (stager_n M) same k && not (any_below k events_b)

  abbrev pub holds_b : ℕ → Bool
  holds_b k = ltb 0 M.legs && (order_never k && events_never k)

  abbrev pub none_below_b : ℕ → Bool
  none_below_b m = not (any_below m order_b) && not (any_below m events_b)

  abbrev pub order_at_b : ℕ → Bool
  order_at_b m = ltb 0 M.legs && (none_below_b m && order_b m)

  abbrev pub events_at_b : ℕ → Bool
  events_at_b m = ltb 0 M.legs && (none_below_b m && (events_b m && not (order_b m)))

  below : (f : ℕ → Bool) (m : ℕ) → T (not (any_below m f)) → (k : ℕ) → k < m → T (not (f k))
  below f m t k h = not_T (f k) (λ u. T_not (any_below m f) t (any_of m f k h u))

  no_events_lem : (m : ℕ) → T (not (events_b m)) → ¬ SomeEvents M m
  no_events_lem m t b = T_not (events_b m) t ((bad_at M F (stager_n M) m).0 ((events_iff M m).0 b))

  some_events : (m : ℕ) → T (events_b m) → SomeEvents M m
  some_events m t = (events_iff M m).1 ((bad_at M F (stager_n M) m).1 t)

  never_events : (k : ℕ) → T (events_never k) → (m : ℕ) → ¬ SomeEvents M m
  never_events k t m b =
      let v = (and_T (saturated M F (stager_n M) same k) (not (any_below k events_b))).0 t in
      none_at_all M F (stager_n M) same same_eq k v.0 v.1 m ((events_iff M m).0 b)

  module _ (some_leg : 0 < M.legs) where
    no_order : (m : ℕ) → T (not (order_b m)) → ¬ SomeOrder M m
    no_order m t b = T_not (order_b m) t ((bad_at M F (tracker_n M) m).0 ((order_iff M some_leg m).0 b))

    some_order : (m : ℕ) → T (order_b m) → SomeOrder M m
    some_order m t = (order_iff M some_leg m).1 ((bad_at M F (tracker_n M) m).1 t)

    never_order : (k : ℕ) → T (order_never k) → (m : ℕ) → ¬ SomeOrder M m
    never_order k t m b =
        let v = (and_T (saturated M F (tracker_n M) same k) (not (any_below k order_b))).0 t in
        none_at_all M F (tracker_n M) same same_eq k v.0 v.1 m ((order_iff M some_leg m).0 b)

    none_below : (m : ℕ) → T (none_below_b m) → NoneBelow M m
    none_below m t k h =
        let q = (and_T (not (any_below m order_b)) (not (any_below m events_b))).0 t in
        (no_order k (below order_b m q.0 k h), no_events_lem k (below events_b m q.1 k h))

  pub holds_by : (k : ℕ) → T (holds_b k) → Holds M
  holds_by k t m =
      let q = (and_T (ltb 0 M.legs) (order_never k && events_never k)).0 t in
      let r = (and_T (order_never k) (events_never k)).0 q.1 in
      (never_order (ltb→lt 0 M.legs q.0) k r.0 m, never_events k r.1 m)

  pub order_by : (m : ℕ) → T (order_at_b m) → OrderAt M m
  order_by m t =
      let q = (and_T (ltb 0 M.legs) (none_below_b m && order_b m)).0 t in
      let r = (and_T (none_below_b m) (order_b m)).0 q.1 in
      let h = ltb→lt 0 M.legs q.0 in
      (none_below h m r.0, some_order h m r.1)

  pub events_by : (m : ℕ) → T (events_at_b m) → EventsAt M m
  events_by m t =
      let q = (and_T (ltb 0 M.legs) (none_below_b m && (events_b m && not (order_b m)))).0 t in
      let r = (and_T (none_below_b m) (events_b m && not (order_b m))).0 q.1 in
      let s = (and_T (events_b m) (not (order_b m))).0 r.1 in
      let h = ltb→lt 0 M.legs q.0 in
      (none_below h m r.0, some_events m s.0, no_order h m s.1)
