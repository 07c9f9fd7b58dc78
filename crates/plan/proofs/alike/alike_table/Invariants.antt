use Rattle.plan.specs.Inner.Leads.{AlikeTable}
use Rattle.plan.proofs.alike.alike_table.Given as goal

abbrev pub invariant-loop-class : goal.invariant-loop-class
invariant-loop-class l = AlikeTable l.plan l.alike
