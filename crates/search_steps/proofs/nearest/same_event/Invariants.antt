use Rattle.search_steps.proofs.NearestLaws.{Passing}
use Rattle.search_steps.proofs.nearest.same_event.Given as goal

abbrev pub invariant-loop-j : goal.invariant-loop-j
invariant-loop-j l = Passing l.plan l.swept l.a l.lo l.stop l.entry l.step l.j
