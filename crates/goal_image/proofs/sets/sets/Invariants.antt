use Prim.Native.Nat.{ℕ}
use mathlib.Core.Bool.{Bool, ◌&&◌}
use Rattle.goal_image.specs.Goal.{goal_of, is_context_chain}
use Rattle.goal_image.specs.Inner.Memberships.{Tests, some_on}
use Rattle.goal_image.proofs.Gather.{Gathered}
use Rattle.goal_image.proofs.sets.sets.Given as goal

abbrev pub invariant-loop-h : goal.invariant-loop-h
invariant-loop-h g l =
    (t : ℕ → Bool) → Tests (goal_of l.goal) (λ i b. goal.F-post g l.passes i b) t
    → Gathered (λ j. is_context_chain j && some_on (goal_of l.goal) t j) l.h l.mask
