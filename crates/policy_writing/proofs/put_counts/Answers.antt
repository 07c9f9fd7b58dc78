use mathlib.Core.Path.{refl}
use lib.ListN.{length-set}
use Rattle.policy_image.specs.Encoding.{count_bytes}
use Rattle.policy_writing.proofs.PutLaws.{put_four, counts_put}
use native.Mathlib.Omega.{arith}
use Rattle.policy_writing.proofs.put_counts.Goals as goal

pub bounds-out-1 : goal.bounds-out-1
bounds-out-1 c = simp length-set (omega arith)

pub bounds-out-2 : goal.bounds-out-2
bounds-out-2 c = simp length-set (omega arith)

pub bounds-out-3 : goal.bounds-out-3
bounds-out-3 c = simp length-set (omega arith)

pub put_u16-requires : goal.put_u16-requires
put_u16-requires c = simp length-set (omega arith)

pub returns : goal.returns
unfolding count_bytes
returns c = counts_put _ (put_four _ (omega arith) refl refl refl refl) c.put_u16.ensures
