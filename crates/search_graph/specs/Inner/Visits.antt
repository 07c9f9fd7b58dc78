-- The nodes that a search has visited.
use Rattle.std.specs.Prelude.{◌≡◌, List, ℕ, ◌≤◌, ◌<◌, length, get_or}
use Rattle.search_graph.specs.Inner.State.{InQueue}

-- no node from a on is visited
pub record Cleared (back : List ℕ) (a : ℕ) : Type 0 where
  pub at : (v : ℕ) → a ≤ v → get_or back v 0 ≡ 0

-- the first n places of the queue list every node that is visited, and nodes alone
pub record Visited (queue back : List ℕ) (n : ℕ) : Type 0 where
  pub room : n ≤ length queue
  pub inside : (i : ℕ) → i < n → get_or queue i 0 < length back
  pub listed : (v : ℕ) → (get_or back v 0 ≡ 0 → ⊥) → InQueue queue n v
