use Rattle.search_steps.proofs.NearestLaws.{Looking}
use Rattle.search_steps.proofs.nearest.nearest.Given as goal

abbrev pub invariant-loop-j : goal.invariant-loop-j
invariant-loop-j l = Looking l.plan l.swept l.a l.lo l.stop l.from l.first l.step l.entry l.j
