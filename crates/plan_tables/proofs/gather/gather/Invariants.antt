-- The loop keeps `Gathering`, whose laws say what the table holds at the chain's end.
use Rattle.plan_tables.specs.Inner.Gather.{entry_of, adds_of}
use Rattle.plan_tables.proofs.Gathering.{Gathering}
use Rattle.plan_tables.proofs.gather.gather.Given as goal

abbrev pub invariant-loop-r : goal.invariant-loop-r
invariant-loop-r l = Gathering l.policy l.kind (entry_of l.kind) (adds_of l.way l.kind) l.initial.table l.table l.r-iterator
