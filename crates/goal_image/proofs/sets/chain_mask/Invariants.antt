-- The iterator goes along the chain; the mask has what the records that it has left behind have.
use mathlib.Core.Path.{◌≡◌}
use Rattle.goal_image.specs.Goal.{goal_of}
use Rattle.goal_image.proofs.UnionLaws.{Uniting}
use Rattle.goal_image.proofs.sets.chain_mask.Given as goal

abbrev pub invariant-loop-i : goal.invariant-loop-i
invariant-loop-i l = (l.i-iterator.goal.now ≡ l.goal) × Uniting (goal_of l.goal) l.h l.class l.mask l.i-iterator.next
