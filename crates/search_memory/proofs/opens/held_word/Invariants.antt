use Rattle.search_memory.proofs.SlotLaws.{HeldTo}
use Rattle.search_memory.proofs.opens.held_word.Given as goal

abbrev pub invariant-loop-j : goal.invariant-loop-j
invariant-loop-j l = HeldTo l.pairs l.plan l.ty l.word l.j l.r
