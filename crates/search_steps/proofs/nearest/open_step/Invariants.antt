use Rattle.search_steps.proofs.NearestLaws.{Opening}
use Rattle.search_steps.proofs.nearest.open_step.Given as goal

abbrev pub invariant-loop-q : goal.invariant-loop-q
invariant-loop-q l = Opening l.plan l.a l.swept l.key l.mask l.from l.q-iterator.left
