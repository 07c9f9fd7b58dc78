-- The promise of the goal question (paper 01, "Questions in order" and "Paths that break a goal"): for all bytes of the two
-- images, all lengths of the two work slices and all path slices, what the answer and the path slice are afterwards.
-- It fixes everything but what the work slices hold afterwards and which of the shortest paths is shown: "Only the work slices
-- and the choice among shortest paths are open".
use Rattle.std.specs.Prelude.{ℕ, ◌+◌, ◌*◌, ◌^◌, ◌≤◌, ◌<◌, List, [], ◌∷◌, ◌++◌, ◌⊎◌, ◌≡◌, length, Result, Ok, Err}
use Rattle.base.specs.Questions.{Question, ask, AllYes}
use Rattle.base.specs.Refusals.{RefusedFor}
use Rattle.policy_image.specs.Layout.{counts_of}
use Rattle.policy_check.specs.Questions.{policy_questions}
use Rattle.goal_image.specs.Layout.{legs_of}
use Rattle.goal_image.specs.Questions.{goal_questions}
use Rattle.paths.specs.Paths.{IsPath, BreaksOrder, BreaksEvents, Holds, OrderAt, EventsAt}
use Rattle.paths.specs.Slice.{contexts_in, events_in, Shows}
use Rattle.goal_model.specs.Images.{model}
use Rattle.goal_question.specs.declared.goal.Outcome.{Outcome}
use Rattle.goal_question.specs.declared.goal.Outcome.TheVariants as outcome
use Rattle.witness.specs.declared.unanswered.Unanswered.{Unanswered}
use Rattle.witness.specs.declared.unanswered.Unanswered.TheVariants as unanswered
use Rattle.witness.specs.Unanswered.{unanswered_number}

-- T × R × U × 2^n
abbrev pub work_length : List ℕ → List ℕ → ℕ
work_length s g = (counts_of s).types * (counts_of s).roles * (counts_of s).users * 2 ^ legs_of g

module _ (s g : List ℕ) (work1 work2 : ℕ) where
  -- Question 11: "Does each work slice have at least T × R × U × 2^n entries?"
  pub record WorkFits : Type 0 where
    pub first : work_length s g ≤ work1
    pub second : work_length s g ≤ work2

  -- "Policy, before all else", "Goal, next", then 11
  abbrev pub all_questions : List Question
  all_questions = policy_questions s ++ (goal_questions (counts_of s) g ++ (ask 11 WorkFits ∷ []))

  -- the sort of an answer, whatever is shown of it
  abbrev pub GoalSort : Result Outcome Unanswered → Type 0
  -- "A goal holds exactly when no path breaks either"
  GoalSort (Ok outcome.Holds) = AllYes all_questions × Holds (model s g)
  -- "The answer is order when some path of m steps breaks order": m is the least
  GoalSort (Ok (outcome.Order m)) = AllYes all_questions × OrderAt (model s g) m
  -- "and else events"
  GoalSort (Ok (outcome.Events m)) = AllYes all_questions × EventsAt (model s g) m
  -- the first question whose answer is no
  GoalSort (Err (unanswered.Refused r)) = RefusedFor all_questions r
  -- 12 is asked of the path slice: it is no sort
  GoalSort (Err (unanswered.NoRoom m)) = ⊥

  -- the sort of the answer, and what is shown of it: the path slice before and after the call
  abbrev pub GoalPromise : List ℕ → List ℕ → Result Outcome Unanswered → Type 0
  -- all entries are unchanged
  GoalPromise before after (Ok outcome.Holds) = GoalSort (Ok outcome.Holds) × (after ≡ before)
  -- the path shown breaks order
  GoalPromise before after (Ok (outcome.Order m)) = GoalSort (Ok (outcome.Order m)) × Shows (IsPath (model s g)) m before after × BreaksOrder (model s g) m (contexts_in after)
  -- the path shown breaks events
  GoalPromise before after (Ok (outcome.Events m)) =
      GoalSort (Ok (outcome.Events m)) × Shows (IsPath (model s g)) m before after × BreaksEvents (model s g) m (contexts_in after) (events_in after)
  -- "Any refusal leaves the path slice unchanged."
  GoalPromise before after (Err (unanswered.Refused r)) = GoalSort (Err (unanswered.Refused r)) × (after ≡ before)
  -- Question 12: "If a path breaks the goal, has the path slice at least 2m + 1 entries for the least? 12, with m"
  GoalPromise before after (Err (unanswered.NoRoom m)) = (GoalSort (Ok (outcome.Order m)) ⊎ GoalSort (Ok (outcome.Events m))) × (length before < 2 * m + 1) × (after ≡ before)

-- "a 64-bit number: 256m + 4 × number + answer (0 holds, 1 order, 2 events, 3 refused; unused parts 0)"
abbrev pub outcome_number : Result Outcome Unanswered → ℕ
outcome_number (Ok outcome.Holds) = 0
outcome_number (Ok (outcome.Order m)) = 256 * m + 1
outcome_number (Ok (outcome.Events m)) = 256 * m + 2
outcome_number (Err u) = unanswered_number u
