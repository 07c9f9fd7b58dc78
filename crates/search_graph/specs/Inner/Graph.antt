-- A graph, what is reached in it and by how many steps, and what a search says of it.
use Rattle.std.specs.Prelude.{◌≡◌, ◌⊎◌, List, ℕ, zero, suc, ◌+◌, ◌≤◌, ◌<◌, get_or}

-- k nodes and e events
pub record Graph : Type 1 where
  pub k : ℕ
  pub e : ℕ
  pub Start : ℕ → Type 0
  pub Edge : ℕ → ℕ → ℕ → Type 0
  pub End : ℕ → Type 0

-- v is reached by d steps, none of which arrives at an end
pub data GraphReach (g : Graph) : ℕ → ℕ → Type 0 where
  begin : {v : ℕ} → v < g.k → g.Start v → GraphReach g zero v
  step : {d u e v : ℕ} → GraphReach g d u → e < g.e → v < g.k → g.Edge u e v → (g.End v → ⊥) → GraphReach g (suc d) v

-- an edge from u that arrives at an end
pub record Breaks (g : Graph) (u e v : ℕ) : Type 0 where
  pub event : e < g.e
  pub target : v < g.k
  pub edge : g.Edge u e v
  pub ends : g.End v

-- the parents that `back` holds lead from v to a start node by d steps
pub data Chain (g : Graph) (back : List ℕ) : ℕ → ℕ → Type 0 where
  root : {v : ℕ} → v < g.k → g.Start v → get_or back v 0 ≡ g.k + 1 → Chain g back zero v
  link : {d u e v : ℕ} → Chain g back d u → e < g.e → v < g.k → g.Edge u e v → (g.End v → ⊥) → get_or back v 0 ≡ u + 1 → Chain g back (suc d) v

pub record FoundAt (g : Graph) (back : List ℕ) (u e v d : ℕ) : Type 0 where
  pub short : d < g.k
  pub reach : GraphReach g d u
  pub chain : Chain g back d u
  pub breaks : Breaks g u e v
  pub least : (d' u' e' v' : ℕ) → GraphReach g d' u' → Breaks g u' e' v' → d ≤ d'

-- so many steps are within the bound b: at most b; or any number, where the bound is at least the number k of nodes
abbrev pub WithinBound : ℕ → ℕ → ℕ → Type 0
WithinBound b k steps = (steps ≤ b) ⊎ (k ≤ b)

-- no edge from a node that is reached arrives at an end after a number of steps within the bound
pub record NoneFound (g : Graph) (b : ℕ) : Type 0 where
  pub never : (d u e v : ℕ) → WithinBound b g.k (suc d) → GraphReach g d u → Breaks g u e v → ⊥
