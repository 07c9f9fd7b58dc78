use Rattle.search_steps.specs.Inner.Nearest.{Skipped}
use Rattle.search_steps.proofs.nearest.skip.Given as goal

abbrev pub invariant-loop-j : goal.invariant-loop-j
invariant-loop-j l = Skipped l.plan l.stop l.a l.class l.j
