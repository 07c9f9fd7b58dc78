-- The loop keeps `Marking`, whose laws say what the table holds at the chain's end.
use Rattle.policy_sources.proofs.Marking.{Marking}
use Rattle.policy_sources.proofs.domain_table.Given as goal

abbrev pub invariant-loop-r : goal.invariant-loop-r
invariant-loop-r l = Marking l.image l.domains l.r-iterator
