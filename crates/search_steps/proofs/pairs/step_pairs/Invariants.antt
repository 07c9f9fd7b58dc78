-- The loop keeps `PairsTo`: of the words before the one at hand it is known to which pairs the step leads.
use Rattle.policy_image.specs.Policy.{policy_of}
use Rattle.plan.specs.Inner.Plan.{ruled}
use Rattle.search_constraints.specs.Inner.Asked.{AskedBefore}
use Rattle.search_steps.proofs.PairLaws.{PairsTo}
use Rattle.search_steps.proofs.pairs.step_pairs.Given as goal

abbrev pub invariant-loop-w : goal.invariant-loop-w
invariant-loop-w l =
    PairsTo (ruled l.rules.policy.now l.rules.plan.now) l.x l.sweep.event l.sweep.ty l.among l.pairs l.w × AskedBefore (policy_of l.rules.policy.now) l.rules.marks.now l.memo
