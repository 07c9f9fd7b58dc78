-- The step of the arguments cut to 8 bits, which is that of the arguments (`low_args`).
use native.Mathlib.Omega.{arith}
use Rattle.paths.proofs.StageLaws.{low_args}
use Rattle.paths.proofs.stages.advance.Goals as goal

pub returns : goal.returns
returns c =
    low_args {w = 8} (omega arith)
    (rw (c.low.ensures, c.low-2.ensures, c.low-3.ensures, c.low-4.ensures)
    at c.advance_byte.ensures)
