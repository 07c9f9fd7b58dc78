-- Question 2 (paper 01): the counts of a policy.
use Rattle.base.specs.Ranges.{Within}
use Rattle.policy_image.specs.declared.counts.Counts.{Counts}

-- Question 2: "Are T, R, U, C in range?"
-- "T types (1 to 255), R roles (1 to 15), U users (1 to 15), C classes (1 to 31)"
pub record CountsInRange (c : Counts) : Type 0 where
  pub types : Within 1 255 c.types
  pub roles : Within 1 15 c.roles
  pub users : Within 1 15 c.users
  pub classes : Within 1 31 c.classes
