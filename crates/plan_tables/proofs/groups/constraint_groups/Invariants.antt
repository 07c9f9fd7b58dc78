use Rattle.plan_tables.proofs.GroupLaws.{Grouping}
use Rattle.plan_tables.proofs.groups.constraint_groups.Given as goal

abbrev pub invariant-loop-r : goal.invariant-loop-r
invariant-loop-r l = Grouping l.policy l.groups l.r-iterator
