use mathlib.Core.Path.{refl}
use lib.ListN.{length-set}
use Rattle.policy_image.specs.Encoding.{record_bytes}
use Rattle.policy_writing.proofs.PutLaws.{put_six}
use native.Mathlib.Omega.{arith}
use Rattle.policy_writing.proofs.put_fields.Goals as goal

pub bounds-out-at-2 : goal.bounds-out-at-2
bounds-out-at-2 c = simp length-set (omega arith)

pub bounds-out-at-3 : goal.bounds-out-at-3
bounds-out-at-3 c = simp length-set (omega arith)

pub bounds-out-at-4 : goal.bounds-out-at-4
bounds-out-at-4 c = simp length-set (omega arith)

pub bounds-out-at-5 : goal.bounds-out-at-5
bounds-out-at-5 c = simp length-set (omega arith)

pub bounds-out-at-6 : goal.bounds-out-at-6
bounds-out-at-6 c = simp length-set (omega arith)

pub returns : goal.returns
unfolding record_bytes
returns c = put_six _ (omega arith) refl refl refl refl refl refl
