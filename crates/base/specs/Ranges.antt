-- Ranges of numbers, both ends included.
use Rattle.std.specs.Prelude.{ℕ, ◌≤◌}

-- n lies from lo to hi
pub record Within (lo hi n : ℕ) : Type 0 where
  pub low : lo ≤ n
  pub high : n ≤ hi
