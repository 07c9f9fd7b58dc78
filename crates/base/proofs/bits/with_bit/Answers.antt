use Rattle.base.proofs.BitLaws.{with_law}
use Rattle.base.proofs.bits.with_bit.Goals as goal

pub returns : goal.returns
returns c = with_law c.args.mask c.args.p c.requires
