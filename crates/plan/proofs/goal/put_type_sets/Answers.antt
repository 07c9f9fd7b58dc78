use Rattle.base.proofs.FillLaws.{fill_begin, fill_more, fill_end}
use Rattle.plan.proofs.KnownLaws.{sets_same}
use native.Mathlib.Omega.{arith}
use Rattle.plan.proofs.goal.put_type_sets.Goals as goal

pub loop-t-init : goal.loop-t-init
loop-t-init c = (omega arith, fill_begin _ _ _ _)

pub loop-t-preserved : goal.loop-t-preserved
loop-t-preserved c =
    (omega arith, fill_more _ c.loop-t.invariant.1 (omega arith) (omega arith) (sets_same c.new.ensures c.context_sets.ensures))

pub returns : goal.returns
returns c = fill_end c.loop-t.invariant.1 (omega arith)
