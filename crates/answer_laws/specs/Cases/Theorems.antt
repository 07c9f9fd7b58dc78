-- What fixes each answer: "Each outward call has a promise that sets answer, count and path slice, refusals too" (paper 01, "Four tests of a
-- promise"). For one input a promise allows one answer, with its count and number. "Only the work slices and the choice among shortest paths are
-- open", so that two results may leave two slices behind, `after` and `last`; the calls that write an image leave one output.
-- proofs/Theorems.antt proves it.
use Rattle.std.specs.Prelude.{ℕ, List, ◌≡◌, Result}
use Rattle.base.specs.declared.refusals.Refusal.{Refusal}
use Rattle.base.specs.Numbers.{Numbered}
use Rattle.context.specs.declared.Context.{Context}
use Rattle.context.specs.declared.Event.{Event}
use Rattle.bare_questions.specs.Bare.{AuthorizationAnswer, FlowAnswer, number_of}
use Rattle.goal_question.specs.GoalQuestion.{GoalPromise, outcome_number}
use Rattle.least_steps.specs.LeastSteps.{StepsPromise, steps_number}
use Rattle.policy_writing.specs.Writing.{writing_number}
use Rattle.join.specs.Join.{JoinPromise}
use Rattle.canonical.specs.Canonical.{CanonicalPromise}

-- all that P allows and all that Q allows is one answer, and for C one number
pub record One {A : Type 0} (told : A → ℕ) (P Q : A → Type 0) : Type 0 where
  pub answer : (q r : A) → P q → Q r → q ≡ r
  pub number : (n k : ℕ) → Numbered told P n → Numbered told Q k → n ≡ k

pub record OneResult : Type 0 where
  pub authorization : (s : List ℕ) (x y : Context) (e : Event) → One number_of (AuthorizationAnswer s x y e) (AuthorizationAnswer s x y e)
  pub flow : (s : List ℕ) (x y : Context) (e : Event) → One number_of (FlowAnswer s x y e) (FlowAnswer s x y e)
  pub goal : (s g : List ℕ) (work1 work2 : ℕ) (before after last : List ℕ)
      → One outcome_number (GoalPromise s g work1 work2 before after) (GoalPromise s g work1 work2 before last)
  pub steps : (s : List ℕ) (x y : Context) (work1 work2 : ℕ) (before after last : List ℕ)
      → One steps_number (StepsPromise s x y work1 work2 before after) (StepsPromise s x y work1 work2 before last)
  pub join : (s t before after last : List ℕ) → One writing_number (JoinPromise s t before after) (JoinPromise s t before last)
  pub join_output : (s t before after last : List ℕ) (q r : Result ℕ Refusal) → JoinPromise s t before after q → JoinPromise s t before last r → after ≡ last
  pub canonical : (s before after last : List ℕ) → One writing_number (CanonicalPromise s before after) (CanonicalPromise s before last)
  pub canonical_output : (s before after last : List ℕ) (q r : Result ℕ Refusal) → CanonicalPromise s before after q → CanonicalPromise s before last r
      → after ≡ last
