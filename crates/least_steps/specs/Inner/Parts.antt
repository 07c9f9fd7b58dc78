-- What the parts of least steps hand on to each other.
use Rattle.std.specs.Prelude.{ℕ, ◌≤◌, List, ◌≡◌}
use Rattle.base.specs.Questions.{AllYes}
use Rattle.policy_image.specs.declared.counts.Counts.{Counts}
use Rattle.policy_image.specs.Layout.{counts_of}
use Rattle.context.specs.declared.Context.{Context}
use Rattle.context.specs.Inner.Places.{context_count}
use Rattle.goal_image.specs.declared.check.Legs.{Legs}
use Rattle.least_steps.specs.LeastSteps.{steps_questions}

-- the legs of a search from one context to another: one, from σ0 to σ1
abbrev pub ends_legs : Legs
ends_legs = record { count = 1; repeated = 0 }

-- every context has an entry in each of the two work slices
pub record EntryForEach (n : Counts) (work1 work2 : ℕ) : Type 0 where
  pub first : context_count n ≤ work1
  pub second : context_count n ≤ work2

-- the questions are passed, and the counts are the policy's
pub record StepsPassed (s : List ℕ) (x y : Context) (n : Counts) (work1 work2 : ℕ) : Type 0 where
  pub questions : AllYes (steps_questions s x y work1 work2)
  pub counts : n ≡ counts_of s
