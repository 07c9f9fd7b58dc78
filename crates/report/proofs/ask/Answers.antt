use Rattle.report.proofs.PrintLaws.{printable}
use Rattle.report.proofs.ask.Goals as goal

-- a path that is printed fits the slice, as the goal question promises
pub print_outcome-requires : goal.print_outcome-requires
print_outcome-requires g c = printable _ _ _ _ _ _ c.goal_question-outcome.result c.goal_question-outcome.ensures
