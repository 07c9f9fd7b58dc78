use native.Mathlib.Omega.{arith}
use Rattle.search_steps.proofs.PairLaws.{none_begin, none_more, none_end, next_found}
use Rattle.search_steps.proofs.pairs.next_pair.Goals as goal

pub loop-at-init : goal.loop-at-init
loop-at-init c = none_begin c.requires.0

pub loop-at-preserved : goal.loop-at-preserved
loop-at-preserved c = none_more c.loop-at.invariant (omega arith) c.word_at.ensures c.if-left-ne0.false

pub returns : goal.returns
returns c = none_end (omega arith) c.loop-at.invariant

pub returns-then-left-ne0 : goal.returns-then-left-ne0
returns-then-left-ne0 c = let w = c.word_at in next_found c.loop-at.invariant (omega arith) w.ensures w.type_inv c.if-left-ne0.true
