use native.Mathlib.Omega.{arith}
use Rattle.search_constraints.proofs.RowLaws.{bit_put}
use Rattle.search_constraints.proofs.rows.put_bit.Goals as goal

pub returns : goal.returns
returns c = bit_put (omega arith) (omega arith)
