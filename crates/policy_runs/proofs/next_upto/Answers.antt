use Prim.Native.Nat.{suc, ◌+◌}
use mathlib.Core.Path.{◌≡◌, sym, ◌∙◌}
use native.Mathlib.Omega.{arith}
use Rattle.policy_lists.proofs.PlaceLaws.{next_within, next_past}
use Rattle.policy_runs.proofs.next_upto.Goals as goal

pub returns-then-i-last : goal.returns-then-i-last
returns-then-i-last c = let s = c.args in (let e : s.i + 1 ≡ suc s.i = omega arith in e) ∙ sym (next_within {last = s.last} {i = s.i} (omega arith))

pub returns-else-i-last : goal.returns-else-i-last
returns-else-i-last c = let s = c.args in sym (next_past {last = s.last} {i = s.i} (omega arith))
