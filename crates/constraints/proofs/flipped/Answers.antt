use Rattle.constraints.proofs.WordLaws.{flip_law}
use Rattle.constraints.proofs.flipped.Goals as goal

pub returns : goal.returns
returns c = flip_law c.args.w
