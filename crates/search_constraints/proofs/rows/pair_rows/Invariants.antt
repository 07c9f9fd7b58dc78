-- The loop keeps `RowsTo`: the pairs before the one at hand have their bits.
use Rattle.search_constraints.proofs.RowLaws.{RowsTo}
use Rattle.search_constraints.proofs.rows.pair_rows.Given as goal

abbrev pub invariant-loop-i : goal.invariant-loop-i
invariant-loop-i l = RowsTo l.counts l.rows l.i
