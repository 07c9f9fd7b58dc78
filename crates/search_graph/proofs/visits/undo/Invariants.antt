use Rattle.search_graph.proofs.VisitLaws.{Undoing}
use Rattle.search_graph.proofs.visits.undo.Given as goal

abbrev pub invariant-loop-v : goal.invariant-loop-v
invariant-loop-v l = Undoing l.queue l.back l.v-index l.count
