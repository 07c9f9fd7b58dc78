-- Slices that show a path, by computing.
use mathlib.Core.Bool.{Bool, not, ◌&&◌}
use mathlib.Core.List.{List, [], ◌∷◌, ◌++◌}
use mathlib.Core.Path.{◌≡◌, refl, sym, ◌∙◌}
use Prim.Native.Nat.{ℕ, zero, suc, ◌+◌, ◌*◌, ◌≤◌, ◌<◌}
use native.Mathlib.Omega.{arith}
use lib.Dec.{T, T_not, not_T}
use lib.ListN.{length, get_or, get_or-eq_default}
use Rattle.paths.specs.Model.{Model}
use Rattle.paths.specs.Paths.{IsPath}
use Rattle.paths.specs.Slice.{contexts_in, events_in, Shows}
use Rattle.paths.specs.Inner.Below.{any_below}
use Rattle.paths.proofs.Any.{any_of, and_T, T-dec}

-- whether f holds of every number below n
abbrev pub every_below : ℕ → (ℕ → Bool) → Bool
every_below n f = not (any_below n (λ i. not (f i)))

pub every_at : (n : ℕ) (f : ℕ → Bool) → T (every_below n f) → (i : ℕ) → i < n → T (f i)
every_at n f t i h = go (T-dec (f i))
  where
    go : Dec (T (f i)) → T (f i)
    go (yes u) = u
    go (no u) = absurd (T_not (any_below n (λ i. not (f i))) t (any_of n (λ i. not (f i)) i h (not_T (f i) u)))

module _ (M : Model) (m : ℕ) (x e : ℕ → ℕ) where
  open M use {flow_by, context, held, legs, σ, σe, γe}

  abbrev step : ℕ → Bool
  step j = flow_by (x j) (e j) (x (suc j)) && (not (σ legs (x j)) && (not (σe (x j)) && not (γe (e j))))

  abbrev pub path_b : Bool
  path_b = every_below (suc m) (λ j. context (x j)) && (every_below m step && (σ 0 (x 0) && (held (x 0) && σ legs (x m))))

  pub path_by : T path_b → IsPath M m x e
  path_by t =
      let (a, (b, (c, (d, f)))) = simp and_T at t in
      record {
        contexts = λ j h. every_at (suc m) (λ j. context (x j)) a j (omega arith);
        flows = λ j h. (at b j h).0;
        starts = c;
        meets = d;
        arrives = f;
        first = λ j h. T_not (σ legs (x j)) (at b j h).1.0;
        free = λ j h. T_not (σe (x j)) (at b j h).1.1.0;
        free_e = λ j h. T_not (γe (e j)) (at b j h).1.1.1;
      }
    where
      at : T (every_below m step) → (j : ℕ) → j < m
          → T (flow_by (x j) (e j) (x (suc j))) × (T (not (σ legs (x j))) × (T (not (σe (x j))) × T (not (γe (e j)))))
      at b j h = simp and_T at (every_at m step b j h)

-- behind its end a slice with a 0 more reads as any other of its length
pub behind : (l k : List ℕ) → length k ≡ length l → (i : ℕ) → length l ≤ i → get_or (l ++ (0 ∷ [])) i 0 ≡ get_or k i 0
behind l k e i h = padded l i ∙ get_or-eq_default l 0 h ∙ sym (get_or-eq_default k 0 (omega arith))
  where
    padded : (l : List ℕ) (i : ℕ) → get_or (l ++ (0 ∷ [])) i 0 ≡ get_or l i 0
    padded [] zero = refl
    padded [] (suc i) = refl
    padded (a ∷ l) zero = refl
    padded (a ∷ l) (suc i) = padded l i

-- a slice that held the path before the call
pub shows_same : (Path : ℕ → (ℕ → ℕ) → (ℕ → ℕ) → Type 0) (m : ℕ) (s : List ℕ) → 2 * m + 1 ≤ length s → Path m (contexts_in s) (events_in s) → Shows Path m s s
shows_same Path m s room path = record { room = room; whole = refl; rest = λ i h. refl; path = path }

pub shows_by : (M : Model) (m : ℕ) (s : List ℕ) → 2 * m + 1 ≤ length s → T (path_b M m (contexts_in s) (events_in s)) → Shows (IsPath M) m s s
shows_by M m s room t = shows_same (IsPath M) m s room (path_by M m (contexts_in s) (events_in s) t)
