use Rattle.constraints.proofs.LeafLaws.{side_put}
use Rattle.constraints.proofs.leaves.put_context.Goals as goal

pub returns : goal.returns
returns c =
    (c.put_number-2.ensures.0, side_put c.args.leaves.now c.requires.0 c.requires.1 c.put_number.ensures.1 c.put_number-2.ensures.1)
