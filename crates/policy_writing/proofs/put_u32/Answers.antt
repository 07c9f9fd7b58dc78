use mathlib.Core.Path.{refl}
use lib.ListN.{length-set}
use Rattle.policy_writing.proofs.PutLaws.{put_four}
use native.Mathlib.Omega.{arith}
use Rattle.policy_writing.proofs.put_u32.Goals as goal

pub bounds-out-at-2 : goal.bounds-out-at-2
bounds-out-at-2 c = simp length-set (omega arith)

pub bounds-out-at-3 : goal.bounds-out-at-3
bounds-out-at-3 c = simp length-set (omega arith)

pub bounds-out-at-4 : goal.bounds-out-at-4
bounds-out-at-4 c = simp length-set (omega arith)

pub returns : goal.returns
returns c = put_four _ (omega arith) refl refl refl refl
