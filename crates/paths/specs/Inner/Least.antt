-- What a search with a monitor finds.
use Rattle.std.specs.Prelude.{ℕ, ◌<◌}
use Rattle.paths.specs.Model.{Model}
use Rattle.paths.specs.Inner.Monitor.{Monitor, BadNode}

-- what a search finds: the least number of steps, or nothing
pub data Found : Type 0 where
  at : ℕ → Found
  nowhere : Found

abbrev pub Least : Model → Monitor → Found → Type 0
Least M A (at m) = BadNode M A m × ((k : ℕ) → k < m → ¬ BadNode M A k)
Least M A nowhere = (k : ℕ) → ¬ BadNode M A k
