use native.Mathlib.Omega.{arith}
use Rattle.base.proofs.FillLaws.{fill_begin, fill_end}
use Rattle.plan.proofs.EventLaws.{class_more}
use Rattle.plan.proofs.goal.put_events.Goals as goal

pub loop-class-init : goal.loop-class-init
loop-class-init c = (omega arith, fill_begin _ _ _ _)

pub loop-class-preserved : goal.loop-class-preserved
loop-class-preserved c = (omega arith, class_more c.loop-class.invariant.1 (omega arith) c.put_class.ensures)

pub returns : goal.returns
returns c = fill_end c.loop-class.invariant.1 (omega arith)

pub returns-2 : goal.returns-2
returns-2 c = fill_end (class_more c.loop-class.invariant.1 (omega arith) c.put_class.ensures) (omega arith)
