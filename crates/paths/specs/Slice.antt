-- A path slice as a path: "The path slice has 32-bit entries: entry 2j is xj as 256t + 16r + u, entry 2j + 1 is ej as 32c + p"
-- (paper 01).
use Rattle.std.specs.Prelude.{ℕ, ◌+◌, ◌*◌, ◌≤◌, List, ◌≡◌, length, get_or}

-- "entry 2j is xj"
abbrev pub contexts_in : List ℕ → ℕ → ℕ
contexts_in path j = get_or path (2 * j) 0

-- "entry 2j + 1 is ej"
abbrev pub events_in : List ℕ → ℕ → ℕ
events_in path j = get_or path (2 * j + 1) 0

-- a path of m steps, of a kind, is shown: it fits the slice, "later entries are unchanged", and it is such a path
pub record Shows (Path : ℕ → (ℕ → ℕ) → (ℕ → ℕ) → Type 0) (m : ℕ) (before after : List ℕ) : Type 0 where
  pub room : 2 * m + 1 ≤ length before
  pub whole : length after ≡ length before
  pub rest : (i : ℕ) → 2 * m + 1 ≤ i → get_or after i 0 ≡ get_or before i 0
  pub path : Path m (contexts_in after) (events_in after)
