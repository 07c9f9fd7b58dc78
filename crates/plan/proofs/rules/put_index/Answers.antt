use native.Mathlib.Omega.{arith}
use Rattle.plan_index.specs.Inner.Counting.{is_counted}
use Rattle.plan.proofs.BlockLaws.{types_few, last_few, counted}
use Rattle.plan.proofs.rules.put_index.Goals as goal

pub index-requires : goal.index-requires
index-requires c =
    let R = c.requires.0 in (
      R.sound,
      counted R,
      omega (arith, types_few R),
      record { keys_size = omega arith; writes_size = omega arith; reads_size = omega arith },
    )

pub put_blocks-requires : goal.put_blocks-requires
put_blocks-requires c =
    let few = last_few c.requires.0 (is_counted c.args.counted.now) c.index.ensures in (
      c.requires.0,
      record {
        first_size = c.first-2-1.given;
        keys_size = c.keys-2-1.given;
        writes_size = c.writes-2-1.given;
        reads_size = c.reads-2-1.given;
      },
      omega (arith, few, c.keys-2-1.given),
      c.requires.1,
    )

pub returns : goal.returns
returns c =
    c.put_blocks.ensures.at (is_counted c.args.counted.now) c.index.ensures
