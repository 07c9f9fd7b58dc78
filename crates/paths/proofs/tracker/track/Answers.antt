-- The code is `track_step` at 32 bits, which is the definition's state (`track_met`, `track_unmet`).
use native.Mathlib.Omega.{arith}
use lib.Pow.{pow_pos}
use Rattle.paths.proofs.StageLaws.{one_shl}
use Rattle.paths.proofs.TrackerLaws.{track_met, track_unmet, two_le}
use Rattle.paths.proofs.tracker.track.Goals as goal

pub overflow_sub-below : goal.overflow_sub-below
overflow_sub-below c = omega (arith, one_shl {n = c.args.n} {w = 32} (omega arith), pow_pos c.args.n)

pub overflow_sub-middle : goal.overflow_sub-middle
overflow_sub-middle c = omega (arith, one_shl {n = c.args.n} {w = 32} (omega arith), two_le c.args.n (omega arith))

pub returns-then-asked-state : goal.returns-then-asked-state
returns-then-asked-state c = track_met 32 c.args.state c.args.in_context c.args.n (omega arith) (omega arith) c.if-asked-state.true

pub returns-else-asked-state : goal.returns-else-asked-state
returns-else-asked-state c = track_unmet 32 c.args.state c.args.in_context c.args.n (omega arith) (omega arith) c.if-asked-state.false
