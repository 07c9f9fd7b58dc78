use Rattle.base.proofs.LowestLaws.{less_without}
use Rattle.plan.proofs.LeadLaws.{transition_still, all_alike}
use Rattle.plan.proofs.alike.put_alike.Goals as goal

pub loop-left-init : goal.loop-left-init
loop-left-init c = (c.not_transition-left.ensures, c.requires.2)

pub with_bit-requires : goal.with_bit-requires
with_bit-requires c = c.lowest-q.ensures.small

pub loop-left-smaller : goal.loop-left-smaller
loop-left-smaller c = less_without c.lowest-q.ensures c.with_bit.ensures c.without-left.ensures

pub loop-left-preserved : goal.loop-left-preserved
loop-left-preserved c =
    let i = c.loop-left.invariant in
    (transition_still i.0 c.without-left.ensures, c.share.ensures.table _ (all_alike c.requires.0 c.lowest-q.ensures.small i.0 c.same_sets-same.ensures) i.1)

pub returns : goal.returns
returns c = c.loop-left.invariant.1
