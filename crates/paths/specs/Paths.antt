-- Paths that break a goal: paper 01, "Paths that break a goal", sentence by sentence. What stands in quotes is the paper's.
-- The paper defines these terms: path (IsPath), breaks order (BreaksOrder), follows events (FollowsEvents), breaks events
-- (BreaksEvents), holds (Holds).
use Rattle.std.specs.Prelude.{◌≡◌, ℕ, suc, ◌≤◌, ◌<◌, T}
use Rattle.paths.specs.Model.{Model}

module _ (M : Model) where
  open M use {flow_by, context, held, legs, σ, γ, repeated, σe, γe}

  -- Defined term: path. "A path is contexts x0 to xm, .., and events e0 to e(m−1), m ≥ 0": x 0 to x m and e 0 to e (m − 1).
  -- What x and e are further on counts for nothing. "m is the number of steps".
  pub record IsPath (m : ℕ) (x e : ℕ → ℕ) : Type 0 where
    -- "their types, roles and users each from 1 to the policy's count"
    pub contexts : (j : ℕ) → j ≤ m → T (context (x j))
    -- "with flow from xj to x(j+1) by ej"
    pub flows : (j : ℕ) → j < m → T (flow_by (x j) (e j) (x (suc j)))
    -- "x0 is in σ0"
    pub starts : T (σ 0 (x 0))
    -- "and meets ρ and μ"
    pub meets : T (held (x 0))
    -- "xm is the first context in σn": it is in σn ..
    pub arrives : T (σ legs (x m))
    -- .. and none before it is
    pub first : (j : ℕ) → j < m → ¬ T (σ legs (x j))
    -- "For every j < m, xj is not in σe .. ; xm may be in σe."
    pub free : (j : ℕ) → j < m → ¬ T (σe (x j))
    -- "For every j < m, .. ej not in γe"
    pub free_e : (j : ℕ) → j < m → ¬ T (γe (e j))

  -- Defined term: breaks order. "It breaks order when for some i, 0 < i < n, some xj in σ(i+1) has no xl in σi with l < j".
  pub record BreaksOrder (m : ℕ) (x : ℕ → ℕ) : Type 0 where
    -- "for some i"
    pub i : ℕ
    -- "some xj", one of x 0 to x m
    pub j : ℕ
    -- "0 < i"
    pub above : 0 < i
    -- "i < n"
    pub below : i < legs
    pub within : j ≤ m
    -- "xj in σ(i+1)"
    pub reached : T (σ (suc i) (x j))
    -- "has no xl in σi with l < j"
    pub unreleased : (l : ℕ) → l < j → ¬ T (σ i (x l))

  -- Defined term: follows events. "It follows events when there are 0 = p0 < p1 < .. < pn = m with x(pi) in σi, all events from
  -- pi up to before p(i+1) in γi, and p(i+1) = pi + 1 for a one-step leg."
  pub record FollowsEvents (m : ℕ) (x e : ℕ → ℕ) : Type 0 where
    -- "there are"
    pub p : ℕ → ℕ
    -- "0 = p0"
    pub from : p 0 ≡ 0
    -- "p0 < p1 < .. < pn"
    pub rises : (i : ℕ) → i < legs → p i < p (suc i)
    -- "pn = m"
    pub upto : p legs ≡ m
    -- "with x(pi) in σi"
    pub stands : (i : ℕ) → i ≤ legs → T (σ i (x (p i)))
    -- "all events from pi up to before p(i+1) in γi"
    pub steps : (i : ℕ) → i < legs → (j : ℕ) → p i ≤ j → j < p (suc i) → T (γ i (e j))
    -- "and p(i+1) = pi + 1 for a one-step leg"
    pub single : (i : ℕ) → i < legs → ¬ T (repeated i) → p (suc i) ≡ suc (p i)

  -- Defined term: breaks events. "Otherwise it breaks events."
  abbrev pub BreaksEvents : ℕ → (ℕ → ℕ) → (ℕ → ℕ) → Type 0
  BreaksEvents m x e = ¬ FollowsEvents m x e

  -- "some path of m steps breaks order"
  pub record SomeOrder (m : ℕ) : Type 0 where
    pub x : ℕ → ℕ
    pub e : ℕ → ℕ
    pub path : IsPath m x e
    pub breaks : BreaksOrder m x

  -- some path of m steps breaks events
  pub record SomeEvents (m : ℕ) : Type 0 where
    pub x : ℕ → ℕ
    pub e : ℕ → ℕ
    pub path : IsPath m x e
    pub breaks : BreaksEvents m x e

  -- "every other path that breaks it has at least as many" steps: none of fewer than m steps does.
  -- "A path breaks the goal when it breaks order or breaks events".
  abbrev pub NoneBelow : ℕ → Type 0
  NoneBelow m = (k : ℕ) → k < m → (¬ SomeOrder k) × (¬ SomeEvents k)

  -- Defined term: holds. "A goal holds exactly when no path breaks either."
  abbrev pub Holds : Type 0
  Holds = (m : ℕ) → (¬ SomeOrder m) × (¬ SomeEvents m)

  -- "Otherwise the count given is m, the number of steps of some path that breaks the goal, where every other path that breaks
  -- it has at least as many. The answer is order when some path of m steps breaks order, ..
  abbrev pub OrderAt : ℕ → Type 0
  OrderAt m = NoneBelow m × SomeOrder m

  -- .. and else events, so order on a tie."
  abbrev pub EventsAt : ℕ → Type 0
  EventsAt m = NoneBelow m × SomeEvents m × (¬ SomeOrder m)
