use Rattle.plan.specs.Inner.Plan.{SpecialOf}
use Rattle.plan.proofs.rules.special_of.Given as goal

abbrev pub invariant-loop-j : goal.invariant-loop-j
invariant-loop-j l = SpecialOf l.plan l.lo l.j l.all
