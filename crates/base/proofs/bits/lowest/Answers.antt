use Rattle.base.proofs.LowestLaws.{lowest_law}
use Rattle.base.proofs.bits.lowest.Goals as goal

pub returns : goal.returns
returns c = lowest_law c.args.m c.requires c.ranges.m.fits
