use mathlib.Core.Path.{refl}
use native.Mathlib.Omega.{arith}
use Rattle.search_memory.proofs.SlotLaws.{held_begin, held_no, held_yes, held_stop, held_all}
use Rattle.search_memory.proofs.opens.held_word.Goals.{else-own-plan-ne0, then-own-plan-ne0}
use Rattle.search_memory.proofs.opens.held_word.Goals as goal

pub loop-j-init : goal.loop-j-init
loop-j-init c = held_begin _ _ _ _

pub returns-then-first-j : goal.returns-then-first-j
returns-then-first-j c = held_stop c.loop-j.invariant refl c.if-first-j.true

pub loop-j-preserved : goal.loop-j-preserved
loop-j-preserved c =
    let l = c.loop-j in
    elim c.if-own-plan-ne0.branch [
      | then-own-plan-ne0 w ↦ rw w.r-is (held_yes l.invariant (omega arith) c.if-first-j.false w.if-own-plan-ne0.true)
      | else-own-plan-ne0 w ↦ rw w.r-is (held_no l.invariant w.if-own-plan-ne0.false)
    ]

pub returns : goal.returns
returns c = held_all c.loop-j.invariant refl c.loop-j-test.false
