use Rattle.base.proofs.BitLaws.{bit_or_lem}
use Rattle.plan_tables.proofs.gather.join.Goals as goal

pub returns : goal.returns
returns c = bit_or_lem c.args.x c.args.y
