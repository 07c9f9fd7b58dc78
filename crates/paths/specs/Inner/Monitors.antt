-- The two monitors over numbers, which a search runs: the stages that are still possible, and what a path has seen.
use Rattle.std.specs.Prelude.{Bool, false, not, ◌&&◌, ◌||◌, ℕ, zero, suc, ltb}
use Rattle.base.specs.Bits.{bit}
use Rattle.paths.specs.Model.{Model}
use Rattle.paths.specs.Inner.Below.{any_below}
use Rattle.paths.specs.Inner.Pack.{pack}
use Rattle.paths.specs.Inner.Monitor.{Monitor}

abbrev pub with_broken : Bool → (ℕ → Bool) → ℕ → Bool
with_broken b f zero = b
with_broken b f (suc i) = f (suc i)

module _ (M : Model) where
  open M use {legs, σ, γ, repeated}

  -- ---- events
  -- leg i is under way, and the event is one of its own
  abbrev pub goes : (ℕ → Bool) → ℕ → ℕ → Bool
  goes S e i = ltb i legs && (S i && γ i e)

  -- stage i is entered by the event e, to y
  abbrev pub enters : (ℕ → Bool) → ℕ → ℕ → ℕ → Bool
  enters S e y zero = false
  enters S e y (suc i) = goes S e i && σ (suc i) y

  -- stage i is possible after the event e, to y
  abbrev pub opens : (ℕ → Bool) → ℕ → ℕ → ℕ → Bool
  opens S e y i = (goes S e i && repeated i) || enters S e y i

  -- the stages as bits 0 to n
  abbrev pub stager_n : Monitor
  stager_n = record {
    State = ℕ;
    start = λ x. 1;
    step = λ N e y. pack (suc legs) (opens (bit N) e y);
    bad = λ N. not (bit N legs);
  }

  -- ---- order
  -- x is in σ(i + 1) for some i, 0 < i < n, that is not among those seen
  abbrev pub breaks : (ℕ → Bool) → ℕ → Bool
  breaks seen x = any_below legs (λ i. ltb 0 i && (σ (suc i) x && not (seen i)))

  -- what has been seen as bits 1 to n − 1, and whether order is broken as bit 0
  abbrev pub tracker_n : Monitor
  tracker_n = record {
    State = ℕ;
    start = λ x. pack legs (with_broken (breaks (λ i. false) x) (λ i. σ i x));
    step = λ N e y. pack legs (with_broken (bit N 0 || breaks (bit N) y) (λ i. bit N i || σ i y));
    bad = λ N. bit N 0;
  }
