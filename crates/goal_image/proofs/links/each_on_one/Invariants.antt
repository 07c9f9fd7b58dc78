-- The pass over the records keeps `Pass`, whose laws say what each way out means.
use Prim.Native.Nat.{◌+◌, ◌≤◌}
use mathlib.Core.Path.{◌≡◌}
use lib.ListN.{length, get_or}
use Rattle.goal_image.specs.Goal.{goal_of}
use Rattle.goal_image.proofs.Pass.{Pass}
use Rattle.goal_image.proofs.links.each_on_one.Given as goal

abbrev pub invariant-loop-i : goal.invariant-loop-i
invariant-loop-i l =
    (l.i ≤ l.m + 1) × (length l.cursor ≡ 16) × Pass (goal_of l.goal) l.i (λ k. get_or l.cursor k 0)
