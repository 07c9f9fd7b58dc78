-- The answers to a goal that is not refused: "holds", "order m", "events m" (paper 01).
use Rattle.std.specs.Prelude.{ℕ}
use Rattle.paths.specs.Model.{Model}
use Rattle.paths.specs.Paths.{Holds, OrderAt, EventsAt}

pub data Verdict : Type 0 where
  holds : Verdict
  order : ℕ → Verdict
  events : ℕ → Verdict

-- what each says
abbrev pub Right : Model → Verdict → Type 0
Right M holds = Holds M
Right M (order m) = OrderAt M m
Right M (events m) = EventsAt M m
