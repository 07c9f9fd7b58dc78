use Rattle.search_steps.proofs.NearestLaws.{look_begin, look_nearer, look_on, look_end, look_stop}
use Rattle.search_steps.proofs.nearest.nearest.Goals.{else-open-step, then-open-step}
use Rattle.search_steps.proofs.nearest.nearest.Goals as goal

pub loop-j-init : goal.loop-j-init
loop-j-init c = look_begin c.args.swept.now c.args.a c.requires.0 c.requires.1 c.requires.2 c.requires.3 c.skip-first.ensures

pub returns-then-step-key : goal.returns-then-step-key
returns-then-step-key c = look_stop c.loop-j.invariant c.loop-j-test.true c.if-step-key.true

pub returns : goal.returns
returns c = look_end c.loop-j.invariant c.loop-j-test.false

pub loop-j-preserved : goal.loop-j-preserved
loop-j-preserved c =
    let L = c.loop-j.invariant in let h = c.loop-j-test.true in elim c.if-open-step.branch [
      | then-open-step w ↦ rw (w.step-is, w.entry-is) (look_nearer L h c.asked_mask-mask.ensures c.open_step-open.ensures w.if-open-step.true)
      | else-open-step w ↦ rw (w.step-is, w.entry-is) (look_on L h c.asked_mask-mask.ensures c.open_step-open.ensures w.if-open-step.false)
    ]
