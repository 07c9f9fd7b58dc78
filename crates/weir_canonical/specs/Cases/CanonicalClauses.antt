-- No clause of the promise of the canonical image, and no question that it asks, can be left out: for each there is a result of which all the others
-- hold, and which is rejected.
use Rattle.std.specs.Prelude.{ℕ, ◌≤◌, ◌<◌, List, [], ◌∷◌, ◌++◌, ◌≡◌, length, drop, Ok, Err}
use Rattle.base.specs.declared.refusals.Refusal.{Refusal}
use Rattle.base.specs.declared.refusals.Refusal.TheVariants.{OutputSlice, PolicyCounts, TooManyRecords}
use Rattle.base.specs.Numbers.{Numbered}
use Rattle.base.specs.Questions.{AllYes, RefusedWith}
use Rattle.policy_image.specs.Policy.{policy_of}
use Rattle.policy_check.specs.Questions.{policy_questions}
use Rattle.policy_facts.specs.Canonical.{canonical_of}
use Rattle.policy_writing.specs.Writing.{writing_number}
use Rattle.canonical.specs.Canonical.{canonical_image, canonical_questions, CanonicalPromise}
use Rattle.weir.specs.Cases.Goals.{empty}
use Rattle.weir.specs.Cases.Clauses.{ByOneClause}
use Rattle.weir.specs.Cases.JoinPolicies.{no_type, blank, blank_then}
use Rattle.weir_canonical.specs.Cases.CanonicalPolicies.{crowded, one_flow}

-- the clauses of a written result, each by itself
module _ (s : List ℕ) where
  abbrev pub Fewer : Type 0
  Fewer = (canonical_of (policy_of s)).size ≤ 4095

  abbrev pub Fits : List ℕ → Type 0
  Fits before = length (canonical_image s) ≤ length before

  abbrev pub LengthTold : ℕ → Type 0
  LengthTold n = n ≡ length (canonical_image s)

  abbrev pub BytesWritten : List ℕ → List ℕ → ℕ → Type 0
  BytesWritten before after n = after ≡ canonical_image s ++ drop n before

  -- .. and the two that are no question
  abbrev pub Told : List ℕ → List ℕ → ℕ → Type 0
  Told before after n = LengthTold n × BytesWritten before after n

pub record CanonicalClauses : Type 0 where
  -- ---- written: the policy passes; the image has at most 4,095 records; the output is long enough
  pub written_policy : ByOneClause (Fewer no_type × Fits no_type (blank 24) × Told no_type (blank 24) no_type 24)
      (CanonicalPromise no_type (blank 24) no_type (Ok 24))
  -- of any policy that passes and comes to more
  pub written_fewer : (s before : List ℕ) (n : ℕ) → AllYes (policy_questions s) → 4095 < (canonical_of (policy_of s)).size → Fits s before → LengthTold s n
      → ByOneClause (AllYes (policy_questions s) × Fits s before × Told s before (canonical_image s ++ drop n before) n)
      (CanonicalPromise s before (canonical_image s ++ drop n before) (Ok n))
  pub written_fits : ByOneClause (AllYes (policy_questions empty) × Fewer empty × Told empty (blank 23) empty 24)
      (CanonicalPromise empty (blank 23) empty (Ok 24))
  -- the number is the image's length; the output begins with the image, and the bytes past it are as they were
  pub written_length : ByOneClause (AllYes (canonical_questions empty 26) × BytesWritten empty (blank_then 7 9) empty 26)
      (CanonicalPromise empty (blank_then 7 9) empty (Ok 26))
  pub written_bytes : ByOneClause (AllYes (canonical_questions empty 26) × LengthTold empty 24)
      (CanonicalPromise empty (blank_then 7 9) (empty ++ (0 ∷ 0 ∷ [])) (Ok 24))
  -- ---- refused: the number of the first question whose answer is no; nothing is written
  pub refused_first : (r : Refusal) → ByOneClause (blank 24 ≡ blank 24) (CanonicalPromise empty (blank 24) (blank 24) (Err r))
  pub refused_unchanged : ByOneClause (RefusedWith (canonical_questions empty 23) 16) (CanonicalPromise empty (blank 23) (1 ∷ blank 22) (Err OutputSlice))
  -- .. of the policy's questions, 15 and 16: each number is that one
  pub refused_policy : (r : Refusal) (before after : List ℕ) → CanonicalPromise (crowded 0 one_flow 4094) before after (Err r) → r ≡ PolicyCounts
  pub refused_15 : (r : Refusal) (before after : List ℕ) → CanonicalPromise (crowded 1 one_flow 4094) before after (Err r) → r ≡ TooManyRecords
  pub refused_16 : (r : Refusal) (after : List ℕ) → CanonicalPromise empty (blank 23) after (Err r) → r ≡ OutputSlice
  -- ---- the number that C gets: it is that of an answer, which is promised
  pub number_promised : ByOneClause (67 ≡ writing_number (Err OutputSlice)) (Numbered writing_number (CanonicalPromise empty (blank 24) (blank 24)) 67)
  pub number_told : ByOneClause (CanonicalPromise empty (blank 24) empty (Ok 24)) (Numbered writing_number (CanonicalPromise empty (blank 24) empty) 24)
