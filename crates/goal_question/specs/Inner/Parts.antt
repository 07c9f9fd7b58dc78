-- What the parts of the goal question hand on to each other.
use Rattle.std.specs.Prelude.{ℕ, List, ◌≡◌, Option, Some, None}
use Rattle.base.specs.Questions.{AllYes}
use Rattle.policy_image.specs.declared.counts.Counts.{Counts}
use Rattle.policy_image.specs.Layout.{counts_of}
use Rattle.goal_image.specs.declared.check.Legs.{Legs}
use Rattle.goal_image.specs.Goal.{goal_of}
use Rattle.goal_image.specs.Inner.Answer.{legs_in}
use Rattle.goal_answer.specs.declared.find.Breach.{Breach}
use Rattle.goal_answer.specs.declared.find.Breach.TheVariants as breach
use Rattle.goal_question.specs.declared.goal.Outcome.{Outcome}
use Rattle.goal_question.specs.declared.goal.Outcome.TheVariants as outcome
use Rattle.goal_question.specs.GoalQuestion.{all_questions}

-- all questions before 12 are passed, and the counts and the legs are the images'
pub record Passed (s g : List ℕ) (n : Counts) (l : Legs) (work1 work2 : ℕ) : Type 0 where
  pub questions : AllYes (all_questions s g work1 work2)
  pub counts : n ≡ counts_of s
  pub legs : l ≡ legs_in (goal_of g)

-- the answer, by what breaks the goal and the number of steps of the path that is shown
abbrev pub outcome_of : Option Breach → Option ℕ → Outcome
outcome_of None r = outcome.Holds
outcome_of (Some b) None = outcome.Holds
outcome_of (Some (breach.Order e)) (Some m) = outcome.Order m
outcome_of (Some (breach.Events e)) (Some m) = outcome.Events m
