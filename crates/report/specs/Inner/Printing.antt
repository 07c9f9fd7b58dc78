-- What printing asks of a path slice.
use Rattle.std.specs.Prelude.{List, ℕ, ◌+◌, ◌*◌, ◌≤◌, length, Result, Ok, Err}
use Rattle.witness.specs.declared.unanswered.Unanswered.{Unanswered}
use Rattle.goal_question.specs.declared.goal.Outcome.{Outcome}
use Rattle.goal_question.specs.declared.goal.Outcome.TheVariants as outcome

-- where a path is printable, its entries are there
abbrev pub Printable : Result Outcome Unanswered → List ℕ → Type 0
Printable (Ok outcome.Holds) path = Unit
Printable (Ok (outcome.Order m)) path = 2 * m + 1 ≤ length path
Printable (Ok (outcome.Events m)) path = 2 * m + 1 ≤ length path
Printable (Err u) path = Unit
