use Rattle.base.specs.Inner.Fill.{Filled}
use Rattle.policy_image.specs.Policy.{policy_of}
use Rattle.plan.specs.Inner.Regions.{holders_start}
use Rattle.plan.specs.Inner.Plan.{HolderOf}
use Rattle.plan.proofs.held.put_holders.Given as goal

abbrev pub invariant-loop-i : goal.invariant-loop-i
invariant-loop-i l = Filled (λ j v. HolderOf (policy_of l.policy) l.counts j v) l.initial.plan l.plan holders_start 0 l.i
