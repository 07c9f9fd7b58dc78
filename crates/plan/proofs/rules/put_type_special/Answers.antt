use Rattle.plan.proofs.BlockLaws.{special_below_begin, special_below_top, special_below_more, special_below_end, place_next, special_to}
use native.Mathlib.Omega.{arith}
use Rattle.plan.proofs.rules.put_type_special.Goals as goal

pub loop-t-init : goal.loop-t-init
loop-t-init c = special_below_begin (omega (arith, c.requires.0)) c.requires.1

pub special_of-all-requires : goal.special_of-all-requires
special_of-all-requires c =
    (let k = special_below_top c.loop-t.invariant c.loop-t-test.true in omega (arith, k, (place_next c.loop-t.plan c.loop-t.t)), omega (arith, c.requires.2))

pub loop-t-preserved : goal.loop-t-preserved
loop-t-preserved c =
    special_below_more c.loop-t.invariant c.loop-t-test.true (omega (arith, c.requires.2))
    (special_to c.special_of-all.ensures (place_next c.loop-t.plan c.loop-t.t))

pub returns : goal.returns
returns c = special_below_end c.loop-t.invariant c.loop-t-test.false
