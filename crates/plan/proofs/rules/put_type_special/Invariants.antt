use Rattle.plan.proofs.BlockLaws.{SpecialBelow}
use Rattle.plan.proofs.rules.put_type_special.Given as goal

abbrev pub invariant-loop-t : goal.invariant-loop-t
invariant-loop-t l = SpecialBelow l.types l.initial.plan l.plan l.t
