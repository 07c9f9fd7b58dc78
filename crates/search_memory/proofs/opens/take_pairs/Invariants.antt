use Rattle.search_memory.proofs.SlotLaws.{TakenTo}
use Rattle.search_memory.proofs.opens.take_pairs.Given as goal

abbrev pub invariant-loop-w : goal.invariant-loop-w
invariant-loop-w l = TakenTo l.initial.opens l.pairs l.opens l.first l.w l.none
