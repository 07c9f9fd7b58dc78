use native.Mathlib.Omega.{arith}
use lib.ListN.{length-set}
use Rattle.base.proofs.FillLaws.{fill_begin, fill_more, fill_end}
use Rattle.search_memory.proofs.opens.put_held.Goals as goal

pub loop-w-init : goal.loop-w-init
loop-w-init c = (c.requires.2, fill_begin _ _ _ _)

pub loop-w-preserved : goal.loop-w-preserved
loop-w-preserved c =
    let (size, F) = c.loop-w.invariant in
    (simp length-set size, fill_more _ F (omega arith) (omega (arith, c.requires.3)) c.held_word.ensures)

pub returns : goal.returns
returns c = (c.loop-w.invariant.0, fill_end c.loop-w.invariant.1 (omega arith))
