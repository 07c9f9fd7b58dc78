use Rattle.policy_sources.proofs.Marking.{marking_start, marking_step, marking_end}
use Rattle.policy_sources.proofs.domain_table.Goals as goal

pub loop-r-init : goal.loop-r-init
loop-r-init c =
    marking_start c.args.image.now c.requires.1 c.requires.2
    (rw c.into_iter-r-iterator.ensures.into_iter_gives c.records_of-r-items.ensures)

pub loop-r-preserved : goal.loop-r-preserved
loop-r-preserved c =
    marking_step c.args.image.now c.requires.1 c.requires.2 c.loop-r.domains c.loop-r.invariant c.in-Some.ensures.steps

pub returns : goal.returns
returns c =
    marking_end c.args.image.now c.requires.1 c.requires.2 c.loop-r.domains c.loop-r.invariant c.in-None.ensures.steps
