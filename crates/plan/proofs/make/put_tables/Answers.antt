use Rattle.plan.proofs.KnownLaws.{tabled}
use lib.ListN.{length-set}
use native.Mathlib.Omega.{arith}
use Rattle.plan.proofs.make.put_tables.Goals as goal

pub put-requires : goal.put-requires
put-requires c = (omega arith, simp length-set (omega arith))

pub returns : goal.returns
returns c =
    tabled c.constraint_masks-special.ensures (omega arith) c.with_bit.ensures c.role_changes-changes.ensures c.put.ensures c.put-2.ensures
