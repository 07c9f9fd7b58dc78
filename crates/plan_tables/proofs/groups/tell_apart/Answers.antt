use mathlib.Core.Path.{refl, sym}
use lib.ListN.{length-set}
use Rattle.base.proofs.FillLaws.{fill_begin, fill_more, fill_end}
use Rattle.plan_tables.proofs.GroupLaws.{side_same, sides_at}
use native.Mathlib.Omega.{arith}
use Rattle.plan_tables.proofs.groups.tell_apart.Goals as goal

pub loop-q-init : goal.loop-q-init
loop-q-init c = (refl, refl, fill_begin _ _ _ _)

pub loop-q-preserved : goal.loop-q-preserved
loop-q-preserved c =
    let v = c.loop-q.invariant in
    (v.0, simp length-set v.1, fill_more _ v.2 (omega arith) (omega arith) (side_same (sym (v.2.above _ (omega arith))) c.side.ensures))

pub returns : goal.returns
returns c = sides_at c.loop-q.invariant.0 (fill_end c.loop-q.invariant.2 (omega arith))
