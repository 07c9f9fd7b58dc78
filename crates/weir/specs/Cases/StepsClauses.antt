-- No clause of the promise of least steps, and no field of a record that it rests on, can be left out: for each there is a result, a slice or
-- an input of which all the others hold, and which is rejected.
use Rattle.std.specs.Prelude.{ℕ, suc, ◌+◌, ◌*◌, ◌≤◌, ◌<◌, List, [], ◌∷◌, ◌≡◌, T, length, get_or, Some, None, Ok, Err}
use Rattle.base.specs.Numbers.{Numbered}
use Rattle.base.specs.Questions.{AllYes, RefusedWith}
use Rattle.policy_image.specs.Layout.{counts_of}
use Rattle.policy_image.specs.Policy.{policy_of}
use Rattle.policy_image.specs.Cases.Weir.{weir}
use Rattle.context.specs.declared.Context.{Context}
use Rattle.context.specs.Codes.{context_of, event_of, context_at as at}
use Rattle.context.specs.Ranges.{ContextInRange}
use Rattle.access.specs.Authorization.{flow}
use Rattle.goal_model.specs.Images.{in_range, meetsρμ}
use Rattle.paths.specs.Slice.{contexts_in, events_in, Shows}
use Rattle.base.specs.declared.refusals.Refusal.{Refusal}
use Rattle.base.specs.declared.refusals.Refusal.TheVariants as refusal
use Rattle.witness.specs.declared.unanswered.Unanswered.TheVariants as unanswered
use Rattle.least_steps.specs.LeastSteps.{FlowPath, SomeFlowPath, NoFlowPath, NoneShorter, BothInRange, steps_length, StepsFit, steps_questions, StepsPromise, steps_number}
use Rattle.weir.specs.Cases.Goals.{weir_allow41}
use Rattle.weir.specs.Cases.StepsPolicies.{weir_apart}
use Rattle.weir.specs.Cases.Clauses.{short, long, from_three, zeros, more_zeros, ByOneClause}

-- the three steps with a write for the last read, by which nothing flows there; with a file of user 2, whom the policy does not have
abbrev pub wrong_event : List ℕ
wrong_event = 273 ∷ 64 ∷ 545 ∷ 65 ∷ 785 ∷ 65 ∷ 1057 ∷ []

abbrev pub other_user : List ℕ
other_user = 273 ∷ 64 ∷ 545 ∷ 65 ∷ 786 ∷ 64 ∷ 1057 ∷ []

-- the three steps with an entry behind them
abbrev pub long_then : ℕ → List ℕ
long_then n = 273 ∷ 64 ∷ 545 ∷ 65 ∷ 785 ∷ 64 ∷ 1057 ∷ n ∷ []

abbrev pub zeros_then : ℕ → List ℕ
zeros_then n = 0 ∷ 0 ∷ 0 ∷ 0 ∷ 0 ∷ 0 ∷ 0 ∷ n ∷ []

-- the fields of a path of m steps that a slice holds, each by itself
module _ (s : List ℕ) (m : ℕ) (slice : List ℕ) where
  abbrev pub ContextsThere : Type 0
  ContextsThere = (j : ℕ) → j ≤ m → T (in_range (counts_of s) (context_of (contexts_in slice j)))

  abbrev pub FlowsThere : Type 0
  FlowsThere = (j : ℕ) → j < m → T (flow (policy_of s) (event_of (events_in slice j)) (context_of (contexts_in slice j)) (context_of (contexts_in slice (suc j))))

  abbrev pub FromThere : Context → Type 0
  FromThere x = context_of (contexts_in slice 0) ≡ x

  abbrev pub ToThere : Context → Type 0
  ToThere y = context_of (contexts_in slice m) ≡ y

  -- it is such a path
  abbrev pub PathThere : Context → Context → Type 0
  PathThere x y = FlowPath (policy_of s) x y m (contexts_in slice) (events_in slice)

-- the questions of the path from type 1 to type 4, and of that back
abbrev pub AskedThere : List ℕ → Type 0
AskedThere s = AllYes (steps_questions s (at 1 1 1) (at 4 2 1) 8 8)

abbrev pub AskedBack : Type 0
AskedBack = AllYes (steps_questions weir (at 4 2 1) (at 1 1 1) 8 8)

pub record StepsClauses : Type 0 where
  -- ---- none: the questions are passed; no path leads there; the slice is as it was
  pub none_asked : ByOneClause (NoFlowPath (policy_of weir) (at 4 2 1) (at 1 1 1) × (zeros ≡ zeros)) (StepsPromise weir (at 4 2 1) (at 1 1 1) 8 7 zeros zeros (Ok None))
  pub none_path : ByOneClause (AskedThere weir × (zeros ≡ zeros)) (StepsPromise weir (at 1 1 1) (at 4 2 1) 8 8 zeros zeros (Ok None))
  pub none_unchanged : ByOneClause (AskedBack × NoFlowPath (policy_of weir) (at 4 2 1) (at 1 1 1)) (StepsPromise weir (at 4 2 1) (at 1 1 1) 8 8 zeros short (Ok None))
  -- ---- m steps: the questions are passed; m is the least; a path is shown
  pub shown_asked : ByOneClause (NoneShorter (policy_of weir) (at 1 1 1) (at 4 2 1) 3 × Shows (FlowPath (policy_of weir) (at 1 1 1) (at 4 2 1)) 3 long long)
      (StepsPromise weir (at 1 1 1) (at 4 2 1) 7 8 long long (Ok (Some 3)))
  pub shown_least : ByOneClause (AskedThere weir_allow41 × Shows (FlowPath (policy_of weir_allow41) (at 1 1 1) (at 4 2 1)) 3 long long)
      (StepsPromise weir_allow41 (at 1 1 1) (at 4 2 1) 8 8 long long (Ok (Some 3)))
  pub shown_path : ByOneClause (AskedThere weir × NoneShorter (policy_of weir) (at 1 1 1) (at 4 2 1) 3)
      (StepsPromise weir (at 1 1 1) (at 4 2 1) 8 8 more_zeros more_zeros (Ok (Some 3)))
  -- ---- refused: the number of the first question whose answer is no; the slice is as it was
  pub refused_first : (r : Refusal) → ByOneClause (zeros ≡ zeros) (StepsPromise weir (at 1 1 1) (at 4 2 1) 8 8 zeros zeros (Err (unanswered.Refused r)))
  pub refused_unchanged : ByOneClause (RefusedWith (steps_questions weir (at 1 1 1) (at 4 2 1) 7 8) 11)
      (StepsPromise weir (at 1 1 1) (at 4 2 1) 7 8 zeros short (Err (unanswered.Refused refusal.WorkSlices)))
  -- ---- 12: the questions are passed; some path has m steps; m is the least; the slice is too short; it is as it was
  pub no_room_asked : ByOneClause (SomeFlowPath (policy_of weir) (at 1 1 1) (at 4 2 1) 3 × NoneShorter (policy_of weir) (at 1 1 1) (at 4 2 1) 3
      × (length zeros < 2 * 3 + 1) × (zeros ≡ zeros))
      (StepsPromise weir (at 1 1 1) (at 4 2 1) 7 8 zeros zeros (Err (unanswered.NoRoom 3)))
  pub no_room_some : ByOneClause (AskedBack × NoneShorter (policy_of weir) (at 4 2 1) (at 1 1 1) 3 × (length zeros < 2 * 3 + 1) × (zeros ≡ zeros))
      (StepsPromise weir (at 4 2 1) (at 1 1 1) 8 8 zeros zeros (Err (unanswered.NoRoom 3)))
  pub no_room_least : ByOneClause (AskedThere weir_allow41 × SomeFlowPath (policy_of weir_allow41) (at 1 1 1) (at 4 2 1) 3
      × (length zeros < 2 * 3 + 1) × (zeros ≡ zeros))
      (StepsPromise weir_allow41 (at 1 1 1) (at 4 2 1) 8 8 zeros zeros (Err (unanswered.NoRoom 3)))
  pub no_room_short : ByOneClause (AskedThere weir × SomeFlowPath (policy_of weir) (at 1 1 1) (at 4 2 1) 3 × NoneShorter (policy_of weir) (at 1 1 1) (at 4 2 1) 3
      × (more_zeros ≡ more_zeros))
      (StepsPromise weir (at 1 1 1) (at 4 2 1) 8 8 more_zeros more_zeros (Err (unanswered.NoRoom 3)))
  pub no_room_unchanged : ByOneClause (AskedThere weir × SomeFlowPath (policy_of weir) (at 1 1 1) (at 4 2 1) 3
      × NoneShorter (policy_of weir) (at 1 1 1) (at 4 2 1) 3 × (length zeros < 2 * 3 + 1))
      (StepsPromise weir (at 1 1 1) (at 4 2 1) 8 8 zeros short (Err (unanswered.NoRoom 3)))
  -- ---- the number that C gets: it is that of an answer, which is promised
  pub number_promised : ByOneClause (0 ≡ steps_number (Ok None)) (Numbered steps_number (StepsPromise weir (at 1 1 1) (at 4 2 1) 8 8 zeros zeros) 0)
  pub number_told : ByOneClause (StepsPromise weir (at 4 2 1) (at 1 1 1) 8 8 zeros zeros (Ok None))
      (Numbered steps_number (StepsPromise weir (at 4 2 1) (at 1 1 1) 8 8 zeros zeros) 1)
  -- ---- a path is shown: the slice has as many entries as before; those behind the path are as they were; it is one
  pub shows_whole : ByOneClause ((2 * 3 + 1 ≤ length more_zeros) × ((i : ℕ) → 2 * 3 + 1 ≤ i → get_or (long_then 0) i 0 ≡ get_or more_zeros i 0)
      × PathThere weir 3 (long_then 0) (at 1 1 1) (at 4 2 1))
      (Shows (FlowPath (policy_of weir) (at 1 1 1) (at 4 2 1)) 3 more_zeros (long_then 0))
  pub shows_rest : ByOneClause ((2 * 3 + 1 ≤ length (zeros_then 7)) × (length (long_then 8) ≡ length (zeros_then 7)) × PathThere weir 3 (long_then 8) (at 1 1 1) (at 4 2 1))
      (Shows (FlowPath (policy_of weir) (at 1 1 1) (at 4 2 1)) 3 (zeros_then 7) (long_then 8))
  pub shows_path : ByOneClause ((2 * 3 + 1 ≤ length wrong_event) × (length wrong_event ≡ length wrong_event) × ((i : ℕ) → 2 * 3 + 1 ≤ i → get_or wrong_event i 0 ≡ get_or wrong_event i 0))
      (Shows (FlowPath (policy_of weir) (at 1 1 1) (at 4 2 1)) 3 wrong_event wrong_event)
  -- .. that it has room is said because the paper says it: what stands behind a slice is 0, which is no context, so that it follows here
  pub shows_room : (s : List ℕ) (x y : Context) (m : ℕ) (before after : List ℕ) → length after ≡ length before → PathThere s m after x y
      → 2 * m + 1 ≤ length before
  -- ---- a path: its contexts are the policy's. Without: 3 steps, by a file of user 2 (`apart` says none)
  pub path_contexts : ByOneClause (FlowsThere weir_apart 3 other_user × FromThere weir_apart 3 other_user (at 1 1 1) × ToThere weir_apart 3 other_user (at 4 2 1)
      × T (meetsρμ (policy_of weir_apart) (at 1 1 1)))
      (PathThere weir_apart 3 other_user (at 1 1 1) (at 4 2 1))
  -- each step is one of flow. Without: 1 step (`three` says 3)
  pub path_flows : ByOneClause (ContextsThere weir 1 short × FromThere weir 1 short (at 1 1 1) × ToThere weir 1 short (at 4 2 1) × T (meetsρμ (policy_of weir) (at 1 1 1)))
      (PathThere weir 1 short (at 1 1 1) (at 4 2 1))
  -- it starts at x. Without: 1 step, from type 3
  pub path_from : ByOneClause (ContextsThere weir 1 from_three × FlowsThere weir 1 from_three × ToThere weir 1 from_three (at 4 2 1) × T (meetsρμ (policy_of weir) (at 1 1 1)))
      (PathThere weir 1 from_three (at 1 1 1) (at 4 2 1))
  -- it ends at y. Without: 0 steps
  pub path_to : ByOneClause (ContextsThere weir 0 (273 ∷ []) × FlowsThere weir 0 (273 ∷ []) × FromThere weir 0 (273 ∷ []) (at 1 1 1) × T (meetsρμ (policy_of weir) (at 1 1 1)))
      (PathThere weir 0 (273 ∷ []) (at 1 1 1) (at 4 2 1))
  -- x meets ρ and μ. Without: 0 steps to itself (`rho_itself` says none)
  pub path_meets : ByOneClause (ContextsThere weir 0 (801 ∷ []) × FlowsThere weir 0 (801 ∷ []) × FromThere weir 0 (801 ∷ []) (at 3 2 1) × ToThere weir 0 (801 ∷ []) (at 3 2 1))
      (PathThere weir 0 (801 ∷ []) (at 3 2 1) (at 3 2 1))
  -- ---- some path has m steps: contexts and events that are one
  pub some_path : (m : ℕ) → SomeFlowPath (policy_of weir) (at 4 2 1) (at 1 1 1) m → ⊥
  -- ---- 13: both contexts are in range; 11: both work slices are long enough
  pub range_first : ByOneClause (ContextInRange (counts_of weir) (at 4 2 1)) (BothInRange (counts_of weir) (at 5 1 1) (at 4 2 1))
  pub range_second : ByOneClause (ContextInRange (counts_of weir) (at 1 1 1)) (BothInRange (counts_of weir) (at 1 1 1) (at 5 2 1))
  pub fit_first : ByOneClause (steps_length weir ≤ 8) (StepsFit weir 7 8)
  pub fit_second : ByOneClause (steps_length weir ≤ 8) (StepsFit weir 8 7)
