use native.Mathlib.Omega.{arith}
use lib.ListN.{length-set}
use Rattle.base.proofs.FillLaws.{fill_begin, fill_more, fill_end}
use Rattle.constraints.proofs.leaves.put_number.Goals as goal

pub loop-b-init : goal.loop-b-init
loop-b-init c = (c.requires.0, fill_begin _ _ _ _)

pub loop-b-preserved : goal.loop-b-preserved
loop-b-preserved c =
    let l = c.loop-b in
    (simp length-set l.invariant.0, fill_more _ l.invariant.1 (omega arith) (omega (arith, l.invariant.0, c.requires.1)) c.all_if.ensures)

pub returns : goal.returns
returns c = (c.loop-b.invariant.0, fill_end c.loop-b.invariant.1 (omega arith))
