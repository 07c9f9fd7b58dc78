use mathlib.Core.Path.{◌≡◌}
use lib.ListN.{length}
use Rattle.policy_runs.proofs.TableLaws.{HeadsTo}
use Rattle.policy_runs.proofs.tables.heads_of.Given as goal

abbrev pub invariant-loop-k : goal.invariant-loop-k
invariant-loop-k l = (length l.heads ≡ 10) × HeadsTo l.ends l.heads l.k
