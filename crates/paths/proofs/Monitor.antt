-- Monitors: states that a path is read with, from context to context. A path to σn whose end state is bad is a walk through nodes,
-- each a context and a state, from a start to a bad node in σn (`bad_iff`), so a search of the nodes answers for all paths.
use mathlib.Core.Path.{◌≡◌, refl, sym, ap, subst, ◌∙◌}
use mathlib.Core.Logic.Iff
use mathlib.Core.Logic.{◌↔◌}
use Prim.Native.Nat.{ℕ, zero, suc, ◌≤◌, ◌<◌}
use native.Mathlib.Nat.{not-suc-le-zero, le_refl}
use native.Mathlib.Omega.{arith}
use native.Mathlib.Decide.{dec_lt}
use lib.Dec.{T}
use Rattle.paths.specs.Model.{Model}
use Rattle.paths.specs.Paths.{IsPath}
use Rattle.paths.specs.Inner.Monitor.{Monitor, plain, Edge, Start, SomePath, run, Reach, begin, more, BadPath, BadNode}
use Rattle.paths.proofs.Any.{till, till_below, till_at}

module _ (M : Model) where
  start_of : {m : ℕ} {x e : ℕ → ℕ} → IsPath M m x e → Start M (x 0)
  start_of P = record { context_at_lem = P.contexts 0 (omega arith); starts = P.starts; meets = P.meets }

  edge_of : {m : ℕ} {x e : ℕ → ℕ} → IsPath M m x e → (j : ℕ) → j < m → Edge M (x j) (e j) (x (suc j))
  edge_of P j h =
      record {
        into = P.contexts (suc j) (omega arith);
        flows = P.flows j (omega arith);
        first = P.first j (omega arith);
        free = P.free j (omega arith);
        free_e = P.free_e j (omega arith);
      }

-- ---- states along a path
module _ (A : Monitor) where
  open A use {State, start, step}

  -- the states of a walk that is at hand
  pub run_is : (x e : ℕ → ℕ) (s : ℕ → State) (m : ℕ) → s 0 ≡ start (x 0) →
      ((j : ℕ) → j < m → s (suc j) ≡ step (s j) (e j) (x (suc j))) → run A x e m ≡ s m
  run_is x e s zero p q = sym p
  run_is x e s (suc m) p q =
      ap (λ t. step t (e m) (x (suc m))) (run_is x e s m p (λ j h. q j (omega arith))) ∙ sym (q m (omega arith))

  -- only x 0 to x m and e 0 to e (m − 1) count
  pub run_same : (x y e f : ℕ → ℕ) (m : ℕ) → ((j : ℕ) → j ≤ m → x j ≡ y j) → ((j : ℕ) → j < m → e j ≡ f j) → run A x e m ≡ run A y f m
  run_same x y e f zero p q = ap start (p 0 (omega arith))
  run_same x y e f (suc m) p q =
      cc (run_same x y e f m (λ j h. p j (omega arith)) (λ j h. q j (omega arith)), p (suc m) (omega arith), q m (omega arith))

-- ---- nodes
module _ (M : Model) (A : Monitor) where
  open M use {context, legs, σ}
  open A use {State, start, step, bad}

  pub reach_of : {m : ℕ} {x e : ℕ → ℕ} → IsPath M m x e → (j : ℕ) → j ≤ m → Reach M A j (x j) (run A x e j)
  reach_of P zero h = begin (start_of M P)
  reach_of {x = x} {e = e} P (suc j) h = more (e j) (x (suc j)) (reach_of P j (omega arith)) (edge_of M P j h)

  -- the walk behind a Reach, by places
  pub record Walk (m v : ℕ) (s : State) : Type 0 where
    pub x : ℕ → ℕ
    pub e : ℕ → ℕ
    pub starts : Start M (x 0)
    pub edges : (j : ℕ) → j < m → Edge M (x j) (e j) (x (suc j))
    pub last : x m ≡ v
    pub state : run A x e m ≡ s

  edge_cast : {x x' e e' y y' : ℕ} → x' ≡ x → e' ≡ e → y' ≡ y → Edge M x e y → Edge M x' e' y'
  edge_cast p q r g = rw (p, q, r) g

  extend : {d v : ℕ} {s : State} (e y : ℕ) → Edge M v e y → Walk d v s → Walk (suc d) y (step s e y)
  extend {d} {v} {s} e y g w =
      record { x = x'; e = e'; starts = w.starts; edges = λ j h. at j h (dec_lt j d); last = till_at d (λ i. w.x (suc i)) y; state = states }
    where
      x' : ℕ → ℕ
      x' = till (suc d) w.x y

      e' : ℕ → ℕ
      e' = till d w.e e

      at_end : Edge M (x' d) (e' d) (x' (suc d))
      at_end = edge_cast (till_below (suc d) w.x y d (omega arith) ∙ w.last) (till_at d w.e e) (till_at d (λ i. w.x (suc i)) y) g

      at : (j : ℕ) → j < suc d → Dec (j < d) → Edge M (x' j) (e' j) (x' (suc j))
      at j h (yes k) =
          edge_cast (till_below (suc d) w.x y j h) (till_below d w.e e j k) (till_below d (λ i. w.x (suc i)) y j k) (w.edges j k)
      at j h (no k) = let q : d ≡ j = omega arith in subst (λ (i : ℕ). Edge M (x' i) (e' i) (x' (suc i))) q at_end

      states : run A x' e' (suc d) ≡ step s e y
      states =
          cc (
            run_same A x' w.x e' w.e d (λ j h. till_below (suc d) w.x y j (omega arith)) (λ j h. till_below d w.e e j h),
            w.state,
            till_at d w.e e,
            till_at d (λ i. w.x (suc i)) y,
          )

  pub walk_of : {m v : ℕ} {s : State} → Reach M A m v s → Walk m v s
  walk_of (begin {x = x} t) =
      record { x = λ j. x; e = λ j. 0; starts = t; edges = λ j h. absurd (not-suc-le-zero h); last = refl; state = refl }
  walk_of (more e y r g) = extend e y g (walk_of r)

  contexts_of : {m v : ℕ} {s : State} (w : Walk m v s) (j : ℕ) → j ≤ m → T (context (w.x j))
  contexts_of w zero h = w.starts.context_at_lem
  contexts_of w (suc j) h = (w.edges j (omega arith)).into

  pub path_of : {m v : ℕ} {s : State} (w : Walk m v s) → T (σ legs v) → IsPath M m w.x w.e
  path_of w t =
      record {
        contexts = λ j h. contexts_of w j (omega arith);
        flows = λ j h. (w.edges j (omega arith)).flows;
        starts = w.starts.starts;
        meets = w.starts.meets;
        arrives = rw w.last t;
        first = λ j h. (w.edges j (omega arith)).first;
        free = λ j h. (w.edges j (omega arith)).free;
        free_e = λ j h. (w.edges j (omega arith)).free_e;
      }

  pub bad_iff : (m : ℕ) → BadPath M A m ↔ BadNode M A m
  bad_iff m = (there, back)
    where
      there : BadPath M A m → BadNode M A m
      there b =
          record {
            x = b.x m;
            s = run A b.x b.e m;
            reach = reach_of b.path m (le_refl m);
            arrives = b.path.arrives;
            verdict = b.verdict;
          }

      back : BadNode M A m → BadPath M A m
      back b = let w = walk_of b.reach in record { x = w.x; e = w.e; path = path_of w b.arrives; verdict = rw w.state b.verdict }

-- a path of m steps, whatever it breaks: a node m steps from a start, in σn
pub plain_iff : (M : Model) (m : ℕ) → SomePath M m ↔ BadNode M plain m
plain_iff M m = Iff.trans (first, second) (bad_iff M plain m)
  where
    first : SomePath M m → BadPath M plain m
    first p = record { x = p.x; e = p.e; path = p.path; verdict = tt }

    second : BadPath M plain m → SomePath M m
    second b = record { x = b.x; e = b.e; path = b.path }
