use Rattle.search_constraints.proofs.MarkLaws.{told_first, told_own, told_none}
use Rattle.search_constraints.proofs.marks.told.Goals as goal

pub returns-then-marks-sort-ne0 : goal.returns-then-marks-sort-ne0
returns-then-marks-sort-ne0 c = let a = c.args in told_first a.marks.now a.sort a.v c.if-marks-sort-ne0.true

pub returns-then-marks-at-ne0 : goal.returns-then-marks-at-ne0
returns-then-marks-at-ne0 c = let a = c.args in told_own a.marks.now a.sort a.v c.if-marks-at-ne0.true

pub returns : goal.returns
returns c = let a = c.args in told_none a.marks.now a.sort a.v c.if-marks-sort-ne0.false c.if-marks-at-ne0.false
