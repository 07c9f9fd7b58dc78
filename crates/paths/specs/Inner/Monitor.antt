-- Monitors: states that a path is read with, from context to context. A path to σn whose end state is bad is a walk through nodes,
-- each a context and a state, from a start to a bad node in σn (`bad_iff` of proofs/Monitor.antt), so a search of the nodes answers
-- for all paths.
use Rattle.std.specs.Prelude.{Bool, true, ℕ, zero, suc, T}
use Rattle.paths.specs.Model.{Model}
use Rattle.paths.specs.Paths.{IsPath}

-- start x: the state at x0; step s e y: the state after the event e to y; bad s: what is looked for at an end
pub record Monitor : Type 1 where
  pub State : Type 0
  pub start : ℕ → State
  pub step : State → ℕ → ℕ → State
  pub bad : State → Bool

-- one state: nothing is asked of a path but that it is one
abbrev pub plain : Monitor
plain = record { State = ℕ; start = λ x. 0; step = λ s e y. 0; bad = λ s. true }

module _ (M : Model) where
  open M use {flow_by, context, held, legs, σ, σe, γe}

  -- a step that a path may take: not from σn, not from σe, not by γe
  pub record Edge (x e y : ℕ) : Type 0 where
    pub into : T (context y)
    pub flows : T (flow_by x e y)
    pub first : ¬ T (σ legs x)
    pub free : ¬ T (σe x)
    pub free_e : ¬ T (γe e)

  pub record Start (x : ℕ) : Type 0 where
    pub context_at_lem : T (context x)
    pub starts : T (σ 0 x)
    pub meets : T (held x)

  -- some path has m steps, whatever it breaks
  pub record SomePath (m : ℕ) : Type 0 where
    pub x : ℕ → ℕ
    pub e : ℕ → ℕ
    pub path : IsPath M m x e

module _ (A : Monitor) where
  open A use {State, start, step}

  -- the state after j events
  abbrev pub run : (ℕ → ℕ) → (ℕ → ℕ) → ℕ → State
  run x e zero = start (x 0)
  run x e (suc j) = step (run x e j) (e j) (x (suc j))

module _ (M : Model) (A : Monitor) where
  open M use {legs, σ}
  open A use {State, start, step, bad}

  -- the node (x, s) is d steps from some start
  pub data Reach : ℕ → ℕ → State → Type 0 where
    begin : {x : ℕ} → Start M x → Reach 0 x (start x)
    more : {d x : ℕ} {s : State} (e y : ℕ) → Reach d x s → Edge M x e y → Reach (suc d) y (step s e y)

  -- a path with a bad end, and a bad node at which paths end
  pub record BadPath (m : ℕ) : Type 0 where
    pub x : ℕ → ℕ
    pub e : ℕ → ℕ
    pub path : IsPath M m x e
    pub verdict : T (bad (run A x e m))

  pub record BadNode (m : ℕ) : Type 0 where
    pub x : ℕ
    pub s : State
    pub reach : Reach m x s
    pub arrives : T (σ legs x)
    pub verdict : T (bad s)
