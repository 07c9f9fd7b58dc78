use Prim.Native.Nat.{◌*◌, ◌-◌}
use mathlib.Core.Path.{◌≡◌}
use lib.ListN.{length, get_or}
use Rattle.base.specs.Bytes.{byte_at}
use Rattle.base.specs.Inner.Fill.{Filled}
use Rattle.policy_writing.proofs.ImageLaws.{head_list}
use Rattle.policy_writing.proofs.put_header.Given as goal

abbrev pub invariant-loop-k : goal.invariant-loop-k
invariant-loop-k l =
    (length l.out ≡ length l.initial.out) × Filled (λ j v. v ≡ byte_at (head_list (λ i. get_or l.heads i 0)) j) l.initial.out l.out 6 0 (2 * (l.k - 1))
