-- The order tracker over sets: which of the σi have been seen, and whether order is broken.
use mathlib.Core.Path.{◌≡◌, refl, ap}
use mathlib.Core.Bool.{Bool, false, not, ◌&&◌, ◌||◌}
use mathlib.Core.Logic.{◌↔◌}
use Prim.Native.Nat.{ℕ, zero, suc, ◌<◌}
use native.Mathlib.Omega.{arith}
use lib.Dec.{T, ltb, ltb→lt, lt→ltb, T_not, not_T}
use Rattle.paths.specs.Inner.Below.{any_below}
use Rattle.paths.specs.Model.{Model}
use Rattle.paths.specs.Paths.{BreaksOrder}
use Rattle.paths.specs.Inner.Monitors.{breaks}
use Rattle.paths.proofs.Any.{any_witness, any_of, and_T}
use Rattle.paths.specs.Inner.Monitor.{Monitor, run}

pub record Track : Type 0 where
  pub seen : ℕ → Bool
  pub broken : Bool

module _ (M : Model) where
  open M use {legs, σ}

  abbrev pub tracker : Monitor
  tracker = record {
    State = Track;
    start = λ x. record { seen = λ i. σ i x; broken = breaks M (λ i. false) x };
    step = λ s e y. record { seen = λ i. s.seen i || σ i y; broken = s.broken || breaks M s.seen y };
    bad = λ s. s.broken;
  }

  module _ (x e : ℕ → ℕ) where
    -- some x l in σi, l < j
    abbrev before : ℕ → ℕ → Bool
    before j i = any_below j (λ l. σ i (x l))

    tracked : (j : ℕ) → run tracker x e j ≡ record { seen = before (suc j); broken = any_below (suc j) (λ k. breaks M (before k) (x k)) }
    tracked zero = refl
    tracked (suc j) = ap (λ s. tracker.step s (e j) (x (suc j))) (tracked j)

    pub broken_iff : (m : ℕ) → T (run tracker x e m).broken ↔ BreaksOrder M m x
    broken_iff m = (λ t. there (rw (tracked m) at t), λ b. rw (tracked m) (back b))
      where
        there : T (any_below (suc m) (λ k. breaks M (before k) (x k))) → BreaksOrder M m x
        there t =
            let (j, hj, tj) = any_witness (suc m) (λ k. breaks M (before k) (x k)) t in
            let (i, hi, ti) = any_witness legs (λ i. ltb 0 i && (σ (suc i) (x j) && not (before j i))) tj in
            let (above, rest) = (and_T (ltb 0 i) (σ (suc i) (x j) && not (before j i))).0 ti in
            let (reached, none) = (and_T (σ (suc i) (x j)) (not (before j i))).0 rest in
            record {
              i = i;
              j = j;
              above = omega (arith, ltb→lt 0 i above);
              below = omega arith;
              within = omega arith;
              reached = reached;
              unreleased = λ l h s. T_not (before j i) none (any_of j (λ l. σ i (x l)) l (omega arith) s);
            }

        back : BreaksOrder M m x → T (any_below (suc m) (λ k. breaks M (before k) (x k)))
        back b =
            let h : b.j < suc m = omega (arith, b.within) in
            let hi : b.i < legs = omega (arith, b.below) in
            let positive : 0 < b.i = omega (arith, b.above) in
            any_of (suc m) (λ k. breaks M (before k) (x k)) b.j h
            (any_of legs (λ i. ltb 0 i && (σ (suc i) (x b.j) && not (before b.j i))) b.i hi
            ((and_T (ltb 0 b.i) (σ (suc b.i) (x b.j) && not (before b.j b.i))).1 (
              lt→ltb 0 b.i positive,
              (and_T (σ (suc b.i) (x b.j)) (not (before b.j b.i))).1 (
                b.reached,
                not_T (before b.j b.i) (λ t. let (l, k, s) = any_witness b.j (λ l. σ b.i (x l)) t in b.unreleased l (omega arith) s),
              ),
            )))
