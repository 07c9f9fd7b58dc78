-- The loop keeps `Uniting`, whose laws say what the mask holds at the chain's end.
use Rattle.relations.proofs.Uniting.{Uniting}
use Rattle.relations.proofs.facts.united.Given as goal

abbrev pub invariant-loop-r : goal.invariant-loop-r
invariant-loop-r l = Uniting l.policy l.f l.mask l.r-iterator
