use lib.Bits.{and_mask}
use Rattle.base.specs.Bits.{bit}
use Rattle.base.proofs.bits.has_member.Goals as goal

pub returns : goal.returns
unfolding bit
returns c = rw (and_mask _ 1)
