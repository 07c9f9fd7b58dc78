-- The pass over the records keeps `Walk`, whose laws say what each way out means.
use Prim.Native.Nat.{◌+◌, ◌≤◌}
use mathlib.Core.Path.{◌≡◌}
use lib.ListN.{length, get_or}
use Rattle.policy_image.specs.Policy.{policy_of}
use Rattle.policy_links.proofs.Walk.{Walk}
use Rattle.policy_links.proofs.chains_by_kind.Given as goal

abbrev pub invariant-loop-i : goal.invariant-loop-i
invariant-loop-i l = (l.i ≤ l.i-end + 1) × (length l.cursor ≡ 16) × Walk (policy_of l.image) l.i (λ k. get_or l.cursor k 0)
