-- The code is `stage_step` at 8 bits, which is the definition's set (`step_law`).
use native.Mathlib.Omega.{arith}
use lib.Pow.{pow_pos}
use Rattle.paths.proofs.StageLaws.{one_shl, step_law}
use Rattle.paths.proofs.stages.advance_byte.Goals as goal

pub overflow_sub-live : goal.overflow_sub-live
overflow_sub-live c = omega (arith, one_shl {n = c.args.n} {w = 8} (omega arith), pow_pos c.args.n)

pub returns : goal.returns
returns c = step_law 8 c.args.stages c.args.repeated c.args.event c.args.context c.args.n (omega arith)
