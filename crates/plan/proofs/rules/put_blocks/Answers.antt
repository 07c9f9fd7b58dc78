use native.Mathlib.Omega.{arith}
use Rattle.plan.proofs.BlockLaws.{types_few, blocks_of}
use Rattle.plan.proofs.rules.put_blocks.Goals as goal

pub overflow_add-last : goal.overflow_add-last
overflow_add-last c = omega (arith, types_few c.requires.0)

pub overflow_cast-last : goal.overflow_cast-last
overflow_cast-last c = omega (arith, types_few c.requires.0)

pub offset_bounds-first-last : goal.offset_bounds-first-last
offset_bounds-first-last c = omega (arith, types_few c.requires.0)

pub bounds-first-last : goal.bounds-first-last
bounds-first-last c = omega (arith, types_few c.requires.0, c.requires.1.first_size)

pub put-requires : goal.put-requires
put-requires c = (omega (arith, c.requires.3), omega (arith, c.requires.1.first_size))

pub flow_masks-write-requires : goal.flow_masks-write-requires
flow_masks-write-requires c = c.requires.0.sound

pub flow_masks-read-requires : goal.flow_masks-read-requires
flow_masks-read-requires c = c.requires.0.sound

pub returns : goal.returns
returns c =
    blocks_of c.requires.0 c.flow_masks-write.ensures c.flow_masks-read.ensures c.requires.1.keys_size c.put.ensures c.put-2.ensures
    c.put_cut.ensures c.put_cut-2.ensures
