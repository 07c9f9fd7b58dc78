use mathlib.Core.Path.{◌≡◌}
use lib.ListN.{length}
use Rattle.canonical.specs.Inner.Rows.{fact_row}
use Rattle.canonical.proofs.RowLaws.{RowsTo}
use Rattle.canonical.proofs.rows.put_rows.Given as goal

abbrev pub invariant-loop-i : goal.invariant-loop-i
invariant-loop-i l =
    (length l.output ≡ length l.initial.output) × RowsTo (fact_row l.keys l.masks l.ends) l.m l.i l.initial.output l.output
