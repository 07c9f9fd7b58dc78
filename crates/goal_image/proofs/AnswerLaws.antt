-- The answer to questions 7 to 10: it is one and the same for every program that keeps the promise, and what follows from it.
use Prim.Native.Nat.{ℕ}
use mathlib.Core.List.{List}
use Rattle.std.proofs.Common.{Result, Ok, Err}
use mathlib.Core.Path.{◌≡◌, sym, ap, ◌∙◌}
use Rattle.base.specs.Questions.{AllYes}
use Rattle.base.proofs.QuestionLaws.{passed_not_refused}
use Rattle.base.specs.declared.refusals.Refusal.{Refusal}
use Rattle.base.specs.Refusals.{question_number}
use Rattle.base.proofs.RefusalLaws.{one_refusal}
use Rattle.policy_image.specs.declared.counts.Counts.{Counts}
use Rattle.goal_image.specs.declared.check.Legs.{Legs}
use Rattle.goal_image.specs.Inner.Answer.{GoalAnswer}
use Rattle.goal_image.specs.Questions.{goal_questions}
use Rattle.goal_image.specs.Inner.Sound.{SoundGoal}

-- two answers that the promise allows for one goal put to one policy are the same answer
pub one_answer : (n : Counts) (g : List ℕ) (q r : Result Legs Refusal) → GoalAnswer n g q → GoalAnswer n g r → q ≡ r
one_answer n g (Ok l) (Ok k) h i = ap Ok (h.0 ∙ sym i.0)
one_answer n g (Ok l) (Err r) h i = absurd (passed_not_refused (goal_questions n g) (question_number r) h.1 i)
one_answer n g (Err q) (Ok k) h i = absurd (passed_not_refused (goal_questions n g) (question_number q) i.1 h)
one_answer n g (Err q) (Err r) h i = ap Err (one_refusal (goal_questions n g) q r h i)

-- what a layer above learns from acceptance
pub sound : (n : Counts) (g : List ℕ) → AllYes (goal_questions n g) → SoundGoal g
sound n g a = record { exact = a.0; legs = a.1.0; chains = a.1.1.0 }
