-- No clause of an outward promise can be left out: for each there is a result, on a named input, of which all the other clauses hold
-- and which the promise rejects. A promise without the clause would let that wrong result pass.
use Rattle.std.specs.Prelude.{ℕ, ◌+◌, ◌*◌, ◌≤◌, ◌<◌, true, false, List, [], ◌∷◌, ◌⊎◌, ◌≡◌, length, get_or, Ok, Err}
use Rattle.base.specs.declared.refusals.Refusal.{Refusal}
use Rattle.base.specs.Numbers.{Numbered}
use Rattle.base.specs.Questions.{AllYes, RefusedWith}
use Rattle.policy_image.specs.Policy.{policy_of}
use Rattle.policy_image.specs.Cases.Weir.{weir}
use Rattle.context.specs.Codes.{context_at as at, event_at as event}
use Rattle.access.specs.Authorization.{authorized}
use Rattle.goal_image.specs.Cases.WeirGoal.{goal_g}
use Rattle.paths.specs.Paths.{IsPath, BreaksOrder, BreaksEvents, SomeOrder, SomeEvents, NoneBelow, Holds, OrderAt, EventsAt}
use Rattle.paths.specs.Slice.{contexts_in, events_in, Shows}
use Rattle.goal_model.specs.Images.{model}
use Rattle.goal_model.specs.Cases.OwnGoals.{write_only}
use Rattle.base.specs.declared.refusals.Refusal.TheVariants as refusal
use Rattle.witness.specs.declared.unanswered.Unanswered.TheVariants as unanswered
use Rattle.goal_question.specs.declared.goal.Outcome.TheVariants as outcome
use Rattle.bare_questions.specs.Bare.{bare_questions, AuthorizationAnswer, number_of}
use Rattle.goal_question.specs.GoalQuestion.{all_questions, GoalPromise, outcome_number}
use Rattle.weir.specs.Cases.Goals.{weir_allow41}
use Rattle.weir.specs.Cases.Wrong.{no_middle, no_events, two_starts, either_end}

-- the step from 1 to 4, the three steps from 1 to 4, and the step from 3 to 4, as path slices
abbrev pub short : List ℕ
short = 273 ∷ 64 ∷ 1057 ∷ []

abbrev pub long : List ℕ
long = 273 ∷ 64 ∷ 545 ∷ 65 ∷ 785 ∷ 64 ∷ 1057 ∷ []

abbrev pub from_three : List ℕ
from_three = 785 ∷ 64 ∷ 1057 ∷ []

-- the step from 1 to 4 with the event write, by which nothing flows there; and slices that show nothing
abbrev pub no_step : List ℕ
no_step = 273 ∷ 65 ∷ 1057 ∷ []

abbrev pub zeros : List ℕ
zeros = 0 ∷ 0 ∷ 0 ∷ []

abbrev pub more_zeros : List ℕ
more_zeros = 0 ∷ 0 ∷ 0 ∷ 0 ∷ 0 ∷ 0 ∷ 0 ∷ []

-- the other clauses hold of a result, and it is not promised
pub record ByOneClause (others promised : Type 0) : Type 0 where
  pub hold : others
  pub rejected : promised → ⊥

-- a path of m steps is shown, but for its clause that the rest of the slice has as many entries
abbrev pub ShowsLonger : List ℕ → List ℕ → Type 0
ShowsLonger before after =
    (3 ≤ length before) × ((i : ℕ) → 3 ≤ i → get_or after i 0 ≡ get_or before i 0) × IsPath (model weir_allow41 goal_g) 1 (contexts_in after) (events_in after)

pub record Clauses : Type 0 where
  -- ---- the goal holds: the questions are passed; no path breaks the goal; the slice is as it was
  pub holds_asked : ByOneClause (Holds (model weir goal_g)) (GoalPromise weir goal_g 32 31 [] [] (Ok outcome.Holds))
  pub holds_none : ByOneClause (AllYes (all_questions weir_allow41 goal_g 32 32)) (GoalPromise weir_allow41 goal_g 32 32 [] [] (Ok outcome.Holds))
  pub holds_unchanged : ByOneClause (AllYes (all_questions weir goal_g 32 32) × Holds (model weir goal_g)) (GoalPromise weir goal_g 32 32 zeros short (Ok outcome.Holds))
  -- ---- order m: the questions are passed
  pub order_asked : ByOneClause (OrderAt (model weir_allow41 goal_g) 1 × Shows (IsPath (model weir_allow41 goal_g)) 1 short short × BreaksOrder (model weir_allow41 goal_g) 1 (contexts_in short))
      (GoalPromise weir_allow41 goal_g 31 32 short short (Ok (outcome.Order 1)))
  -- m is the least
  pub order_least : ByOneClause (AllYes (all_questions weir_allow41 no_middle 32 32) × SomeOrder (model weir_allow41 no_middle) 3
      × Shows (IsPath (model weir_allow41 no_middle)) 3 long long × BreaksOrder (model weir_allow41 no_middle) 3 (contexts_in long))
      (GoalPromise weir_allow41 no_middle 32 32 long long (Ok (outcome.Order 3)))
  -- a path is shown: it is one; the slice has as many entries as before; those behind the path are as they were
  pub order_shown : ByOneClause (AllYes (all_questions weir_allow41 goal_g 32 32) × OrderAt (model weir_allow41 goal_g) 1 × BreaksOrder (model weir_allow41 goal_g) 1 (contexts_in no_step))
      (GoalPromise weir_allow41 goal_g 32 32 no_step no_step (Ok (outcome.Order 1)))
  pub shown_whole : ByOneClause (ShowsLonger zeros (273 ∷ 64 ∷ 1057 ∷ 0 ∷ [])) (Shows (IsPath (model weir_allow41 goal_g)) 1 zeros (273 ∷ 64 ∷ 1057 ∷ 0 ∷ []))
  pub shown_rest : ByOneClause (IsPath (model weir_allow41 goal_g) 1 (contexts_in (273 ∷ 64 ∷ 1057 ∷ 8 ∷ [])) (events_in (273 ∷ 64 ∷ 1057 ∷ 8 ∷ [])))
      (Shows (IsPath (model weir_allow41 goal_g)) 1 (0 ∷ 0 ∷ 0 ∷ 7 ∷ []) (273 ∷ 64 ∷ 1057 ∷ 8 ∷ []))
  -- the path shown breaks order
  pub order_breaks : ByOneClause (AllYes (all_questions weir_allow41 two_starts 32 32) × OrderAt (model weir_allow41 two_starts) 1 × Shows (IsPath (model weir_allow41 two_starts)) 1 from_three from_three)
      (GoalPromise weir_allow41 two_starts 32 32 from_three from_three (Ok (outcome.Order 1)))
  -- ---- events m: the questions are passed
  pub events_asked : ByOneClause (EventsAt (model weir write_only) 3 × Shows (IsPath (model weir write_only)) 3 long long × BreaksEvents (model weir write_only) 3 (contexts_in long) (events_in long))
      (GoalPromise weir write_only 31 32 long long (Ok (outcome.Events 3)))
  -- m is the least; and no path of m steps breaks order
  pub events_least : ByOneClause (AllYes (all_questions weir_allow41 no_events 32 32) × SomeEvents (model weir_allow41 no_events) 3 × (SomeOrder (model weir_allow41 no_events) 3 → ⊥)
      × Shows (IsPath (model weir_allow41 no_events)) 3 long long × BreaksEvents (model weir_allow41 no_events) 3 (contexts_in long) (events_in long))
      (GoalPromise weir_allow41 no_events 32 32 long long (Ok (outcome.Events 3)))
  pub events_no_tie : ByOneClause (AllYes (all_questions weir_allow41 goal_g 32 32) × NoneBelow (model weir_allow41 goal_g) 1 × SomeEvents (model weir_allow41 goal_g) 1
      × Shows (IsPath (model weir_allow41 goal_g)) 1 short short × BreaksEvents (model weir_allow41 goal_g) 1 (contexts_in short) (events_in short))
      (GoalPromise weir_allow41 goal_g 32 32 short short (Ok (outcome.Events 1)))
  -- a path is shown
  pub events_shown : ByOneClause (AllYes (all_questions weir write_only 32 32) × EventsAt (model weir write_only) 3
      × BreaksEvents (model weir write_only) 3 (contexts_in more_zeros) (events_in more_zeros))
      (GoalPromise weir write_only 32 32 more_zeros more_zeros (Ok (outcome.Events 3)))
  -- the path shown breaks events
  pub events_breaks : ByOneClause (AllYes (all_questions weir_allow41 either_end 32 32) × EventsAt (model weir_allow41 either_end) 1 × Shows (IsPath (model weir_allow41 either_end)) 1 short short)
      (GoalPromise weir_allow41 either_end 32 32 short short (Ok (outcome.Events 1)))
  -- ---- refused: the number of the first question whose answer is no; the slice is as it was
  pub refused_first : (r : Refusal) → GoalPromise weir goal_g 32 32 [] [] (Err (unanswered.Refused r)) → ⊥
  pub refused_unchanged : ByOneClause (RefusedWith (all_questions weir goal_g 31 32) 11) (GoalPromise weir goal_g 31 32 zeros short (Err (unanswered.Refused refusal.WorkSlices)))
  -- ---- 12: the questions are passed; m is the least, and some path of m steps breaks the goal; the slice is too short; it is as it was
  pub no_room_asked : ByOneClause ((OrderAt (model weir_allow41 goal_g) 1 ⊎ EventsAt (model weir_allow41 goal_g) 1) × (length {A = ℕ} [] < 2 * 1 + 1))
      (GoalPromise weir_allow41 goal_g 31 32 [] [] (Err (unanswered.NoRoom 1)))
  pub no_room_some : ByOneClause (AllYes (all_questions weir goal_g 32 32) × NoneBelow (model weir goal_g) 1 × (length {A = ℕ} [] < 2 * 1 + 1))
      (GoalPromise weir goal_g 32 32 [] [] (Err (unanswered.NoRoom 1)))
  pub no_room_least : ByOneClause (AllYes (all_questions weir_allow41 no_middle 32 32) × SomeOrder (model weir_allow41 no_middle) 3 × (length {A = ℕ} [] < 2 * 3 + 1))
      (GoalPromise weir_allow41 no_middle 32 32 [] [] (Err (unanswered.NoRoom 3)))
  pub no_room_short : ByOneClause (AllYes (all_questions weir_allow41 goal_g 32 32) × (OrderAt (model weir_allow41 goal_g) 1 ⊎ EventsAt (model weir_allow41 goal_g) 1))
      (GoalPromise weir_allow41 goal_g 32 32 zeros zeros (Err (unanswered.NoRoom 1)))
  pub no_room_unchanged : ByOneClause (AllYes (all_questions weir_allow41 goal_g 32 32) × (OrderAt (model weir_allow41 goal_g) 1 ⊎ EventsAt (model weir_allow41 goal_g) 1))
      (GoalPromise weir_allow41 goal_g 32 32 (0 ∷ []) (273 ∷ []) (Err (unanswered.NoRoom 1)))
  -- ---- the number that C gets: it is that of an outcome, which is promised
  pub number_promised : ByOneClause (AllYes (all_questions weir_allow41 goal_g 32 32)) (Numbered outcome_number (GoalPromise weir_allow41 goal_g 32 32 [] []) 0)
  pub number_told : ByOneClause (GoalPromise weir goal_g 32 32 [] [] (Ok outcome.Holds)) (Numbered outcome_number (GoalPromise weir goal_g 32 32 [] []) 1)
  -- ---- the bare questions: user 2 is out of range, though role 1 is held by every user
  pub yes_asked : ByOneClause (authorized (policy_of weir) (event 2 0) (at 2 2 1) (at 1 1 2) ≡ true) (AuthorizationAnswer weir (at 2 2 1) (at 1 1 2) (event 2 0) (Ok true))
  pub yes_true : ByOneClause (AllYes (bare_questions weir (at 4 2 1) (at 1 1 1) (event 2 0))) (AuthorizationAnswer weir (at 4 2 1) (at 1 1 1) (event 2 0) (Ok true))
  pub no_asked : ByOneClause (authorized (policy_of weir) (event 2 1) (at 2 2 1) (at 1 1 2) ≡ false) (AuthorizationAnswer weir (at 2 2 1) (at 1 1 2) (event 2 1) (Ok false))
  pub no_false : ByOneClause (AllYes (bare_questions weir (at 2 2 1) (at 1 1 1) (event 2 0))) (AuthorizationAnswer weir (at 2 2 1) (at 1 1 1) (event 2 0) (Ok false))
  pub asked_first : (r : Refusal) → AuthorizationAnswer weir (at 2 2 1) (at 1 1 1) (event 2 0) (Err r) → ⊥
  pub answer_promised : ByOneClause (AllYes (bare_questions weir (at 4 2 1) (at 1 1 1) (event 2 0))) (Numbered number_of (AuthorizationAnswer weir (at 4 2 1) (at 1 1 1) (event 2 0)) 1)
  pub answer_told : ByOneClause (AuthorizationAnswer weir (at 2 2 1) (at 1 1 1) (event 2 0) (Ok true)) (Numbered number_of (AuthorizationAnswer weir (at 2 2 1) (at 1 1 1) (event 2 0)) 0)
