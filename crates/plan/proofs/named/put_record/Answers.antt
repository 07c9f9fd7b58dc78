use lib.ListN.{length-set}
use Rattle.plan.proofs.NamedLaws.{record_put}
use native.Mathlib.Omega.{arith}
use Rattle.plan.proofs.named.put_record.Goals as goal

pub bounds-plan-k-2 : goal.bounds-plan-k-2
bounds-plan-k-2 c = simp length-set (omega arith)

pub bounds-plan-k-3 : goal.bounds-plan-k-3
bounds-plan-k-3 c = simp length-set (omega arith)

pub bounds-plan-head : goal.bounds-plan-head
bounds-plan-head c = simp length-set (omega arith)

pub bounds-plan-k-4 : goal.bounds-plan-k-4
bounds-plan-k-4 c = simp length-set (omega arith)

pub bounds-plan-head-2 : goal.bounds-plan-head-2
bounds-plan-head-2 c = simp length-set (omega arith)

pub returns : goal.returns
returns c = record_put _ _ _ _ (omega arith) (omega arith) (omega arith)
