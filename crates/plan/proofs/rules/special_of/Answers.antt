use Rattle.plan.proofs.BlockLaws.{special_begin, special_more, special_end}
use Rattle.plan.proofs.KnownLaws.{zero_plus}
use Rattle.plan.specs.Inner.Entries.{writes_at, reads_at}
use lib.ListN.{get_or}
use lib.Bits.{bit_and, bit_or}
use mathlib.Core.Path.{ap}
use Prim.Native.Nat.{ℕ}
use Rattle.plan.proofs.rules.special_of.Goals as goal

pub loop-j-init : goal.loop-j-init
loop-j-init c = special_begin _ _

pub loop-j-preserved : goal.loop-j-preserved
loop-j-preserved c =
    special_more c.loop-j.invariant (ap (λ (k : ℕ). bit_and (bit_or (writes_at c.args.plan.now c.loop-j.j) (reads_at c.args.plan.now c.loop-j.j)) (get_or c.args.plan.now k 0)) (zero_plus _))

pub returns : goal.returns
returns c = special_end c.loop-j.invariant c.loop-j-test.false
