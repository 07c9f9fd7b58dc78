use Rattle.base.proofs.FillLaws.{fill_begin, fill_more, fill_end}
use mathlib.Core.Path.{refl}
use native.Mathlib.Omega.{arith}
use Rattle.plan.proofs.fill.put_cut.Goals as goal

pub loop-i-init : goal.loop-i-init
loop-i-init c = fill_begin _ _ _ _

pub loop-i-preserved : goal.loop-i-preserved
loop-i-preserved c = fill_more _ c.loop-i.invariant (omega arith) (omega arith) refl

pub returns : goal.returns
returns c = fill_end c.loop-i.invariant (omega arith)
