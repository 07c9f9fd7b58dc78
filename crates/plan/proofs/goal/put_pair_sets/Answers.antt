use Rattle.base.proofs.FillLaws.{fill_begin, fill_more, fill_end}
use Rattle.plan.proofs.KnownLaws.{sets_same}
use Rattle.plan.proofs.ContextLaws.{pairs_few}
use native.Mathlib.Omega.{arith}
use Rattle.plan.proofs.goal.put_pair_sets.Goals as goal

pub loop-i-init : goal.loop-i-init
loop-i-init c = fill_begin _ _ _ _

pub loop-i-preserved : goal.loop-i-preserved
loop-i-preserved c =
    fill_more _ c.loop-i.invariant (omega arith) (omega (arith, pairs_few c.requires.1, c.requires.2)) (sets_same c.new-x.ensures c.context_sets.ensures)

pub returns : goal.returns
returns c = fill_end c.loop-i.invariant (omega arith)
