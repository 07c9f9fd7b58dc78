use Rattle.base.proofs.LowestLaws.{less_without}
use Rattle.plan.proofs.LeadLaws.{sorting_begin, sorting_more, sorting_end}
use native.Mathlib.Omega.{arith}
use Rattle.plan.proofs.leads.leading.Goals as goal

pub loop-left-init : goal.loop-left-init
loop-left-init c = sorting_begin _ _ _

pub with_bit-r-requires : goal.with_bit-r-requires
with_bit-r-requires c = c.lowest-q.ensures.small

pub with_bit-requires : goal.with_bit-requires
with_bit-requires c = c.lowest-q.ensures.small

pub loop-left-smaller : goal.loop-left-smaller
loop-left-smaller c = less_without c.lowest-q.ensures c.with_bit.ensures c.without-left.ensures

pub loop-left-preserved : goal.loop-left-preserved
loop-left-preserved c =
    sorting_more c.loop-left.invariant c.lowest-q.ensures c.with_bit-r.ensures c.with_bit.ensures c.without-left.ensures

pub returns : goal.returns
returns c = sorting_end (omega arith) c.loop-left.invariant
