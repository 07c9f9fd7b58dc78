use mathlib.Core.Path.{refl}
use Rattle.base.proofs.FillLaws.{fill_begin, fill_more, fill_end}
use Rattle.plan.proofs.ContextLaws.{pairs_few, pair_high, holder_law}
use native.Mathlib.Omega.{arith}
use Rattle.plan.proofs.held.put_holders.Goals as goal

pub loop-i-init : goal.loop-i-init
loop-i-init c = fill_begin _ _ _ _

pub loop-i-preserved : goal.loop-i-preserved
loop-i-preserved c =
    let h = pair_high c.requires.1 c.loop-i.i (omega (arith, c.loop-i-test.true)) in
    fill_more _ c.loop-i.invariant (omega arith) (omega (arith, pairs_few c.requires.1, c.requires.2))
    (holder_law c.user_table-users.ensures refl refl (omega (arith, h.1)) (omega (arith, h.0)))

pub returns : goal.returns
returns c = fill_end c.loop-i.invariant (omega arith)
