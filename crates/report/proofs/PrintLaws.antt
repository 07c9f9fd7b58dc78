-- What the promise of the goal question says of what is to be printed.
use Rattle.std.proofs.Common.{ℕ, List, arith}
use Rattle.std.specs.Prelude.{Result, Ok, Err}
use Rattle.witness.specs.declared.unanswered.Unanswered.{Unanswered}
use Rattle.goal_question.specs.declared.goal.Outcome.{Outcome}
use Rattle.goal_question.specs.declared.goal.Outcome.TheVariants as outcome
use Rattle.goal_question.specs.GoalQuestion.{GoalPromise}
use Rattle.report.specs.Inner.Printing.{Printable}

-- what is printable fits the slice
pub printable : (s g : List ℕ) (work1 work2 : ℕ) (before after : List ℕ) (r : Result Outcome Unanswered) → GoalPromise s g work1 work2 before after r → Printable r after
printable s g work1 work2 before after (Ok outcome.Holds) p = tt
printable s g work1 work2 before after (Ok (outcome.Order m)) p = omega (arith, p.1.room, p.1.whole)
printable s g work1 work2 before after (Ok (outcome.Events m)) p = omega (arith, p.1.room, p.1.whole)
printable s g work1 work2 before after (Err u) p = tt
