-- What is so at the nodes d steps from a start, computed: for models whose contexts and steps can be gone through.
use mathlib.Core.Path.{◌≡◌, subst}
use mathlib.Core.Bool.{Bool, not, ◌&&◌}
use mathlib.Core.Logic.{◌↔◌}
use Prim.Native.Nat.{ℕ, zero, suc, ◌<◌}
use native.Mathlib.Omega.{arith}
use native.Mathlib.Decide.{dec_lt}
use lib.Dec.{T, T_not, not_T}
use Rattle.paths.specs.Inner.Below.{any_below}
use Rattle.paths.specs.Model.{Model}
use Rattle.paths.proofs.Any.{any_witness, any_of, and_T, T-dec}
use Rattle.paths.specs.Inner.Monitor.{Monitor, Edge, Reach, begin, more, BadNode}

-- whether some context passes a test, and whether some step from a context does
pub record Finite (M : Model) : Type 0 where
  pub any_c : (ℕ → Bool) → Bool
  pub any_c_iff : (f : ℕ → Bool) → T (any_c f) ↔ ((x : ℕ) × T (M.context x) × T (f x))
  pub any_step : ℕ → (ℕ → ℕ → Bool) → Bool
  pub step_there : (x : ℕ) (f : ℕ → ℕ → Bool) → T (any_step x f) → (e : ℕ) × (y : ℕ) × T (M.context y) × T (M.flow_by x e y) × T (f e y)
  pub step_back : (x : ℕ) (f : ℕ → ℕ → Bool) → T (M.context x) → (e y : ℕ) → T (M.context y) → T (M.flow_by x e y) → T (f e y)
      → T (any_step x f)

module _ (M : Model) (F : Finite M) (A : Monitor) where
  open M use {flow_by, context, held, legs, σ, σe, γe}
  open A use {State, start, step, bad}
  open F use {any_c, any_c_iff, any_step, step_there, step_back}

  abbrev start_b : ℕ → Bool
  start_b x = σ 0 x && held x

  abbrev goes_b : ℕ → ℕ → Bool
  goes_b x e = not (σ legs x) && (not (σe x) && not (γe e))

  -- some node d steps from a start passes the test
  abbrev pub any_at : ℕ → (ℕ → State → Bool) → Bool
  any_at zero f = any_c (λ x. start_b x && f x (start x))
  any_at (suc d) f = any_at d (λ x s. any_step x (λ e y. goes_b x e && f y (step s e y)))

  record Passing (d : ℕ) (f : ℕ → State → Bool) : Type 0 where
    x : ℕ
    s : State
    reach : Reach M A d x s
    passes : T (f x s)

  edge_of : (x e y : ℕ) → T (context y) → T (flow_by x e y) → T (goes_b x e) → Edge M x e y
  edge_of x e y c w g =
      let (a, (b, k)) = simp and_T at g in
      record { into = c; flows = w; first = T_not (σ legs x) a; free = T_not (σe x) b; free_e = T_not (γe e) k }

  goes_of : (x e y : ℕ) → Edge M x e y → T (goes_b x e)
  goes_of x e y g = simp and_T (not_T (σ legs x) g.first, (not_T (σe x) g.free, not_T (γe e) g.free_e))

  passing : (d : ℕ) (f : ℕ → State → Bool) → T (any_at d f) → Passing d f
  passing zero f t =
      let (x, c, u) = (any_c_iff (λ x. start_b x && f x (start x))).0 t in
      let ((a, b), p) = simp and_T at u in
      record { x = x; s = start x; reach = begin (record { context_at_lem = c; starts = a; meets = b }); passes = p }
  passing (suc d) f t = go (passing d (λ x s. any_step x (λ e y. goes_b x e && f y (step s e y))) t)
    where
      go : Passing d (λ x s. any_step x (λ e y. goes_b x e && f y (step s e y))) → Passing (suc d) f
      go r =
          let (e, y, c, w, u) = step_there r.x (λ e y. goes_b r.x e && f y (step r.s e y)) r.passes in
          let v = (and_T (goes_b r.x e) (f y (step r.s e y))).0 u in
          record { x = y; s = step r.s e y; reach = more e y r.reach (edge_of r.x e y c w v.0); passes = v.1 }

  context_of_lem : {d x : ℕ} {s : State} → Reach M A d x s → T (context x)
  context_of_lem (begin p) = p.context_at_lem
  context_of_lem (more e y r g) = g.into

  finds : {d x : ℕ} {s : State} → Reach M A d x s → (f : ℕ → State → Bool) → T (f x s) → T (any_at d f)
  finds (begin {x = x} p) f t = (any_c_iff (λ x. start_b x && f x (start x))).1 (x, p.context_at_lem, simp and_T ((p.starts, p.meets), t))
  finds (more {x = x} {s = s} e y r g) f t =
      finds r (λ x s. any_step x (λ e y. goes_b x e && f y (step s e y)))
      (step_back x (λ e y. goes_b x e && f y (step s e y)) (context_of_lem r) e y g.into g.flows
      ((and_T (goes_b x e) (f y (step s e y))).1 (goes_of x e y g, t)))

  -- a bad node at which paths end
  abbrev pub bad_end : ℕ → State → Bool
  bad_end x s = σ legs x && bad s

  pub bad_at : (d : ℕ) → BadNode M A d ↔ T (any_at d bad_end)
  bad_at d = (λ b. finds b.reach bad_end ((and_T (σ legs b.x) (bad b.s)).1 (b.arrives, b.verdict)), λ t. back (passing d bad_end t))
    where
      back : Passing d bad_end → BadNode M A d
      back r =
          let v = (and_T (σ legs r.x) (bad r.s)).0 r.passes in
          record { x = r.x; s = r.s; reach = r.reach; arrives = v.0; verdict = v.1 }

  -- every node k steps from a start is fewer than k steps from one
  module _ (same : ℕ → State → ℕ → State → Bool) where
    abbrev pub old : ℕ → ℕ → State → Bool
    old k x s = any_below k (λ d. any_at d (same x s))

    abbrev pub saturated : ℕ → Bool
    saturated k = not (any_at k (λ x s. not (old k x s)))

  module _ (same : ℕ → State → ℕ → State → Bool)
      (same_eq : (x : ℕ) (s : State) (y : ℕ) (t : State) → T (same x s y t) → (x ≡ y) × (s ≡ t)) where
    record Near (k x : ℕ) (s : State) : Type 0 where
      d : ℕ
      below : d < k
      reach : Reach M A d x s

    reach_cast : {d x y : ℕ} {s t : State} → x ≡ y → s ≡ t → Reach M A d y t → Reach M A d x s
    reach_cast p q r = rw (p, q) r

    near_of : (k x : ℕ) (s : State) → T (old same k x s) → Near k x s
    near_of k x s t =
        let (d, h, u) = any_witness k (λ d. any_at d (same x s)) t in
        let r = passing d (same x s) u in
        let q = same_eq x s r.x r.s r.passes in
        record { d = d; below = h; reach = reach_cast q.0 q.1 r.reach }

    at_k : (k : ℕ) → T (saturated same k) → {x : ℕ} {s : State} → Reach M A k x s → Near k x s
    at_k k t {x} {s} r = go (T-dec (old same k x s))
      where
        go : Dec (T (old same k x s)) → Near k x s
        go (yes o) = near_of k x s o
        go (no o) = absurd (T_not (any_at k (λ x s. not (old same k x s))) t (finds r (λ x s. not (old same k x s)) (not_T (old same k x s) o)))

    near : (k : ℕ) → T (saturated same k) → {d x : ℕ} {s : State} → Reach M A d x s → Near k x s
    near k t (begin {x = x} p) = go (dec_lt 0 k)
      where
        go : Dec (0 < k) → Near k x (start x)
        go (yes h) = record { d = 0; below = h; reach = begin p }
        go (no h) = let q : 0 ≡ k = omega arith in at_k k t (subst (λ (i : ℕ). Reach M A i x (start x)) q (begin p))
    near k t (more {x = x} {s = s} e y r g) = go (near k t r)
      where
        go : Near k x s → Near k y (step s e y)
        go n = at (dec_lt (suc n.d) k)
          where
            at : Dec (suc n.d < k) → Near k y (step s e y)
            at (yes h) = record { d = suc n.d; below = h; reach = more e y n.reach g }
            at (no h) =
                let q : suc n.d ≡ k = omega (arith, n.below) in
                at_k k t (subst (λ (i : ℕ). Reach M A i y (step s e y)) q (more e y n.reach g))

    -- none within k steps, and nothing new from there on: none at all
    pub none_at_all : (k : ℕ) → T (saturated same k) → T (not (any_below k (λ d. any_at d bad_end))) → (m : ℕ) → ¬ BadNode M A m
    none_at_all k t u m b =
        let n = near k t b.reach in
        T_not (any_below k (λ d. any_at d bad_end)) u
        (any_of k (λ d. any_at d bad_end) n.d n.below
        ((bad_at n.d).0 (record { x = b.x; s = b.s; reach = n.reach; arrives = b.arrives; verdict = b.verdict })))
