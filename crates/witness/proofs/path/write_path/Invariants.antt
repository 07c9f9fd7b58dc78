use mathlib.Core.Path.{◌≡◌}
use lib.ListN.{length}
use Rattle.witness.proofs.PathLaws.{Writing}
use Rattle.witness.proofs.path.write_path.Given as goal

abbrev pub invariant-loop-i : goal.invariant-loop-i
invariant-loop-i l = Writing l.query.policy.now l.query.plan.now l.query.task l.back l.initial.w l.to l.initial.i l.initial.path l.path l.i l.w l.e × (length l.swept ≡ 256)

abbrev pub decreases-loop-i : goal.decreases-loop-i
decreases-loop-i l = l.i
