use lib.Bits.{and_mask}
use Rattle.base.specs.Bits.{bit}
use Rattle.base.proofs.bits.has_bit.Goals as goal

-- `(mask >> p) & 1` is digit p of the mask.

pub returns : goal.returns
unfolding bit
returns c = rw (and_mask _ 1)
