use Prim.Native.Nat.{◌-◌}
use Rattle.witness.proofs.StepLaws.{Looking}
use Rattle.witness.proofs.step.event_between.Given as goal

abbrev pub invariant-loop-offer : goal.invariant-loop-offer
invariant-loop-offer l = Looking l.query.policy.now l.query.plan.now l.query.task l.u l.w l.x l.offer

abbrev pub decreases-loop-offer : goal.decreases-loop-offer
decreases-loop-offer l = 4194304 - l.offer.step
