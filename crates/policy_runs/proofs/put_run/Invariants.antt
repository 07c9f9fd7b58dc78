use Prim.Native.Nat.{ℕ, ◌+◌}
use mathlib.Core.Path.{◌≡◌}
use mathlib.Core.List.{List}
use lib.ListN.{length}
use Rattle.policy_image.specs.Inner.Kinds.{kind_number}
use Rattle.policy_image.specs.Policy.{policy_of}
use Rattle.policy_runs.specs.Inner.Runs.{many_upto}
use Rattle.policy_runs.proofs.RunLaws.{WrittenTo}
use Rattle.policy_runs.proofs.ChainRunLaws.{before_cursor, CursorAt}
use Rattle.policy_runs.proofs.put_run.Given as goal

-- how many records of the policy stand before the cursor
abbrev pub before : List ℕ → ℕ → ℕ
before policy i = before_cursor (policy_of policy).size i

abbrev pub invariant-loop-r : goal.invariant-loop-r
invariant-loop-r l =
    CursorAt (policy_of l.policy) (kind_number l.run.kind) l.r-iterator.next
    × (l.at ≡ l.run.before + many_upto (policy_of l.policy) (kind_number l.run.kind) (before l.policy l.r-iterator.next))
    × (length l.output ≡ length l.initial.output)
    × WrittenTo (policy_of l.policy) l.run (before l.policy l.r-iterator.next) l.initial.output l.output
    × (l.r-iterator.image.now ≡ l.policy)
