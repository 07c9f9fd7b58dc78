-- No clause of the promise of the join, and no question that it asks, can be left out: for each there is a result of which all the others hold, and
-- which is rejected.
use Rattle.std.specs.Prelude.{ℕ, ◌+◌, ◌≤◌, ◌<◌, List, [], ◌∷◌, ◌++◌, ◌≡◌, length, drop, Ok, Err}
use Rattle.base.specs.declared.refusals.Refusal.{Refusal}
use Rattle.base.specs.declared.refusals.Refusal.TheVariants.{OutputSlice, PolicyCounts, PolicyLength, TooManyRecords}
use Rattle.base.specs.Numbers.{Numbered}
use Rattle.base.specs.Questions.{AllYes, RefusedWith}
use Rattle.policy_image.specs.Layout.{record_count}
use Rattle.policy_image.specs.Cases.Weir.{weir}
use Rattle.policy_check.specs.Questions.{policy_questions}
use Rattle.policy_writing.specs.Writing.{writing_number}
use Rattle.join.specs.Join.{joined_image, join_questions, JoinPromise}
use Rattle.weir.specs.Cases.Goals.{empty}
use Rattle.weir.specs.Cases.Clauses.{ByOneClause}
use Rattle.weir.specs.Cases.JoinPolicies.{no_type, states_many, blank, blank_then}

-- the clauses of a written result, each by itself
module _ (s t : List ℕ) where
  abbrev pub Fewer : Type 0
  Fewer = record_count s + record_count t ≤ 4095

  abbrev pub Fits : List ℕ → Type 0
  Fits before = length (joined_image s t) ≤ length before

  abbrev pub LengthTold : ℕ → Type 0
  LengthTold n = n ≡ length (joined_image s t)

  abbrev pub BytesWritten : List ℕ → List ℕ → ℕ → Type 0
  BytesWritten before after n = after ≡ joined_image s t ++ drop n before

  -- .. and the two that are no question
  abbrev pub Told : List ℕ → List ℕ → ℕ → Type 0
  Told before after n = LengthTold n × BytesWritten before after n

pub record JoinClauses : Type 0 where
  -- ---- written: the maker's policy passes; the board's passes; there are at most 4,095 records; the output is long enough
  pub written_maker : ByOneClause (AllYes (policy_questions empty) × Fewer no_type empty × Fits no_type empty (blank 24) × Told no_type empty (blank 24) empty 24)
      (JoinPromise no_type empty (blank 24) empty (Ok 24))
  pub written_board : ByOneClause (AllYes (policy_questions empty) × Fewer empty no_type × Fits empty no_type (blank 24) × Told empty no_type (blank 24) empty 24)
      (JoinPromise empty no_type (blank 24) empty (Ok 24))
  -- of any two policies that pass and have more
  pub written_fewer : (s t before : List ℕ) (n : ℕ) → AllYes (policy_questions s) → AllYes (policy_questions t) → 4095 < record_count s + record_count t
      → Fits s t before → LengthTold s t n
      → ByOneClause (AllYes (policy_questions s) × AllYes (policy_questions t) × Fits s t before × Told s t before (joined_image s t ++ drop n before) n)
      (JoinPromise s t before (joined_image s t ++ drop n before) (Ok n))
  pub written_fits : ByOneClause (AllYes (policy_questions empty) × AllYes (policy_questions empty) × Fewer empty empty × Told empty empty (blank 23) empty 24)
      (JoinPromise empty empty (blank 23) empty (Ok 24))
  -- the number is the result's length; the output begins with the result, and the bytes past it are as they were
  pub written_length : ByOneClause (AllYes (join_questions empty empty 26) × BytesWritten empty empty (blank_then 7 9) empty 26)
      (JoinPromise empty empty (blank_then 7 9) empty (Ok 26))
  pub written_bytes : ByOneClause (AllYes (join_questions empty empty 26) × LengthTold empty empty 24)
      (JoinPromise empty empty (blank_then 7 9) (empty ++ (0 ∷ 0 ∷ [])) (Ok 24))
  -- ---- refused: the number of the first question whose answer is no; nothing is written
  pub refused_first : (r : Refusal) → ByOneClause (blank 24 ≡ blank 24) (JoinPromise empty empty (blank 24) (blank 24) (Err r))
  pub refused_unchanged : ByOneClause (RefusedWith (join_questions empty empty 23) 16) (JoinPromise empty empty (blank 23) (1 ∷ blank 22) (Err OutputSlice))
  -- .. of the maker's questions, of the board's, 15 and 16: each number is that one
  pub refused_maker : (r : Refusal) (before after : List ℕ) → JoinPromise no_type [] before after (Err r) → r ≡ PolicyCounts
  pub refused_board : (r : Refusal) (before after : List ℕ) → JoinPromise weir states_many before after (Err r) → r ≡ PolicyLength
  pub refused_15 : (s t before after : List ℕ) (r : Refusal) → AllYes (policy_questions s) → AllYes (policy_questions t) → 4095 < record_count s + record_count t
      → JoinPromise s t before after (Err r) → r ≡ TooManyRecords
  pub refused_16 : (r : Refusal) (after : List ℕ) → JoinPromise empty empty (blank 23) after (Err r) → r ≡ OutputSlice
  -- ---- the number that C gets: it is that of an answer, which is promised
  pub number_promised : ByOneClause (67 ≡ writing_number (Err OutputSlice)) (Numbered writing_number (JoinPromise empty empty (blank 24) (blank 24)) 67)
  pub number_told : ByOneClause (JoinPromise empty empty (blank 24) empty (Ok 24)) (Numbered writing_number (JoinPromise empty empty (blank 24) empty) 24)
