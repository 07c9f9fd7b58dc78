use Rattle.base.proofs.FillLaws.{fill_begin, fill_more, fill_end}
use Rattle.plan.proofs.LeadLaws.{entry_more}
use native.Mathlib.Omega.{arith}
use Rattle.plan.proofs.leads.lead_entries.Goals as goal

pub loop-j-init : goal.loop-j-init
loop-j-init c = fill_begin _ _ _ _

pub loop-j-preserved : goal.loop-j-preserved
loop-j-preserved c =
    let F = c.loop-j.invariant in
    fill_more _ F (omega arith) (omega arith) (entry_more F (omega arith) c.leading-writes.ensures c.leading-reads.ensures)

pub returns : goal.returns
returns c = fill_end c.loop-j.invariant (omega arith)
