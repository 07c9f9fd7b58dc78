use Rattle.base.proofs.BitLaws.{without_law}
use Rattle.base.proofs.bits.without.Goals as goal

pub returns : goal.returns
returns c = without_law c.args.a c.args.b
