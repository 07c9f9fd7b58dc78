use Rattle.plan.proofs.LeadLaws.{transition_out}
use Rattle.plan.proofs.alike.not_transition.Goals as goal

pub returns-then-class : goal.returns-then-class
returns-then-class c = transition_out c.if-class.true c.with_bit.ensures c.without.ensures
