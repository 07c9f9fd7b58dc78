use mathlib.Core.Path.{◌≡◌, refl}
use native.Mathlib.Omega.{arith}
use Rattle.base.proofs.BoolLaws.{clash}
use Rattle.search_memory.proofs.SlotLaws.{take_begin, take_more, pairs_taken}
use Rattle.search_memory.proofs.opens.take_pairs.Goals.{else-left-ne0, then-left-ne0}
use Rattle.search_memory.proofs.opens.take_pairs.Goals as goal

pub loop-w-init : goal.loop-w-init
loop-w-init c = take_begin _ _ _ c.requires.1

pub loop-w-preserved : goal.loop-w-preserved
loop-w-preserved c =
    let T = c.loop-w.invariant in
    let s = c.slot_of.ensures in
    elim c.if-left-ne0.branch [
      | then-left-ne0 w ↦ rw w.none-is (take_more _ T (omega arith) refl (λ y. absurd (clash y refl)))
      | else-left-ne0 w ↦ rw w.none-is (take_more _ T (omega arith) refl (λ y. (y, w.if-left-ne0.false)))
    ]

pub returns : goal.returns
returns c =
    let a = c.args in
    let T = c.loop-w.invariant in
    let e : c.loop-w.w ≡ 4 = omega arith in
    pairs_taken a.counts a.ty a.kept (rw (e, c.slot_of.ensures) at T)
