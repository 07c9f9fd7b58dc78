-- The answer to questions 7 to 10.
use Rattle.std.specs.Prelude.{ℕ, List, ◌≡◌, Result, Ok, Err}
use Rattle.base.specs.Questions.{AllYes}
use Rattle.base.specs.declared.refusals.Refusal.{Refusal}
use Rattle.base.specs.Refusals.{RefusedFor}
use Rattle.policy_image.specs.declared.counts.Counts.{Counts}
use Rattle.goal_image.specs.declared.check.Legs.{Legs}
use Rattle.goal_image.specs.Goal.{Goal, goal_of}
use Rattle.goal_image.specs.Questions.{goal_questions}

-- the legs of the goal: their number, and which of them are repeated
abbrev pub legs_in : Goal → Legs
legs_in g = record { count = g.legs; repeated = g.flags }

-- what each case of the answer says: the goal's legs, where every answer is yes; or the refusal of the first question whose answer is no
abbrev pub GoalAnswer : Counts → List ℕ → Result Legs Refusal → Type 0
GoalAnswer n g (Ok l) = (l ≡ legs_in (goal_of g)) × AllYes (goal_questions n g)
GoalAnswer n g (Err r) = RefusedFor (goal_questions n g) r
