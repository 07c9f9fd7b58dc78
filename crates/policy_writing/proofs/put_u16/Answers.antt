use mathlib.Core.Path.{refl}
use lib.ListN.{length-set}
use Rattle.policy_writing.proofs.PutLaws.{put_two}
use native.Mathlib.Omega.{arith}
use Rattle.policy_writing.proofs.put_u16.Goals as goal

pub bounds-out-at-2 : goal.bounds-out-at-2
bounds-out-at-2 c = simp length-set (omega arith)

pub returns : goal.returns
returns c = put_two _ (omega arith) refl refl
