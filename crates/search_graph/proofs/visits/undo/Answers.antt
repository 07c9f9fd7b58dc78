use Rattle.std.proofs.Common.{◌<◌, arith}
use Rattle.std.proofs.lemmas.List.{get_or-take, length-take-le}
use Rattle.search_graph.proofs.VisitLaws.{undo_begin, undo_more, undo_end}
use Rattle.search_graph.proofs.visits.undo.Goals.{In-loop-v}
use Rattle.search_graph.proofs.visits.undo.Goals as goal

before : (c : In-loop-v) → c.loop-v.v-index < c.args.count
before c = omega (arith, length-take-le _ _ c.requires.room)

pub loop-v-init : goal.loop-v-init
loop-v-init c = undo_begin c.requires

pub loop-v-preserved : goal.loop-v-preserved
loop-v-preserved c =
    let h = before (goal.at.loop-v-preserved c).In-loop-v in
    rw (get_or-take _ _ _ _ h) (undo_more c.loop-v.invariant h)

pub returns : goal.returns
returns c = undo_end c.loop-v.invariant (omega (arith, length-take-le _ _ c.requires.room))
