use Rattle.plan.specs.Inner.Leads.{SameSets}
use Rattle.plan.proofs.alike.same_sets.Given as goal

abbrev pub invariant-loop-q : goal.invariant-loop-q
invariant-loop-q l = SameSets l.plan l.class l.sets l.r
