-- What the layers above know of an accepted goal, whatever the policy that it was put to.
use Rattle.std.specs.Prelude.{ℕ, List}
use Rattle.goal_image.specs.Layout.{GoalExact}
use Rattle.goal_image.specs.Goal.{goal_of}
use Rattle.goal_image.specs.Questions.{LegsInRange, OneChainEach}

-- g passes questions 7, 8 and 9
pub record SoundGoal (g : List ℕ) : Type 0 where
  pub exact : GoalExact g
  pub legs : LegsInRange (goal_of g)
  pub chains : OneChainEach (goal_of g)
