-- Least steps between two contexts (paper 02, a): what a path from one to the other is, and what is promised, for all bytes of the
-- policy, all contexts, all lengths of the two work slices and all path slices. What stands in quotes is the paper's.
-- The promise fixes everything but what the work slices hold afterwards and which of the shortest paths is shown.
use Rattle.std.specs.Prelude.{ℕ, suc, ◌+◌, ◌*◌, ◌≤◌, ◌<◌, List, [], ◌∷◌, ◌++◌, ◌≡◌, T, length, Option, Some, None, Result, Ok, Err}
use Rattle.base.specs.Questions.{Question, ask, AllYes}
use Rattle.base.specs.Refusals.{RefusedFor}
use Rattle.policy_image.specs.declared.counts.Counts.{Counts}
use Rattle.policy_image.specs.Layout.{counts_of}
use Rattle.policy_image.specs.Policy.{Policy, policy_of}
use Rattle.policy_check.specs.Questions.{policy_questions}
use Rattle.context.specs.declared.Context.{Context}
use Rattle.context.specs.Codes.{context_of, event_of}
use Rattle.context.specs.Ranges.{ContextInRange}
use Rattle.access.specs.Authorization.{flow}
use Rattle.goal_model.specs.Images.{in_range, meetsρμ}
use Rattle.paths.specs.Slice.{Shows}
use Rattle.witness.specs.declared.unanswered.Unanswered.{Unanswered}
use Rattle.witness.specs.declared.unanswered.Unanswered.TheVariants as unanswered
use Rattle.witness.specs.Unanswered.{unanswered_number}

module _ (p : Policy) (x y : Context) where
  -- "a question with two contexts x and y and no goal": m "flow steps", "all paths between x and y". Contexts and events are their codes,
  -- "in the goal question's path form": c 0 to c m and e 0 to e (m − 1); what c and e are further on counts for nothing.
  pub record FlowPath (m : ℕ) (c e : ℕ → ℕ) : Type 0 where
    -- contexts of the policy, as those of a goal's path are (paper 01: "each from 1 to the policy's count")
    pub contexts : (j : ℕ) → j ≤ m → T (in_range p.counts (context_of (c j)))
    -- a step is a flow from one context to the next by the event between them
    pub flows : (j : ℕ) → j < m → T (flow p (event_of (e j)) (context_of (c j)) (context_of (c (suc j))))
    -- "leads from x ..
    pub from : context_of (c 0) ≡ x
    -- .. to y"; y may be met before the end of a longer path, too
    pub to : context_of (c m) ≡ y
    -- "A context that fails ρ or μ has none, even to itself; a valid one reaches itself in 0."
    pub meets : T (meetsρμ p x)

  -- some path has m steps
  pub record SomeFlowPath (m : ℕ) : Type 0 where
    pub c : ℕ → ℕ
    pub e : ℕ → ℕ
    pub path : FlowPath m c e

  -- "no path leads from x to y", of any length
  abbrev pub NoFlowPath : Type 0
  NoFlowPath = (m : ℕ) → ¬ SomeFlowPath m

  -- m is "the least number": no path has fewer steps
  abbrev pub NoneShorter : ℕ → Type 0
  NoneShorter m = (k : ℕ) → k < m → ¬ SomeFlowPath k

-- "number 13": are both contexts in range?
pub record BothInRange (n : Counts) (x y : Context) : Type 0 where
  pub first : ContextInRange n x
  pub second : ContextInRange n y

-- T × R × U
abbrev pub steps_length : List ℕ → ℕ
steps_length s = (counts_of s).types * (counts_of s).roles * (counts_of s).users

-- "11 (at least T × R × U entries in each of the two work slices)"
pub record StepsFit (s : List ℕ) (work1 work2 : ℕ) : Type 0 where
  pub first : steps_length s ≤ work1
  pub second : steps_length s ≤ work2

-- "The policy checks, number 13, and numbers 11 .. and 12, with the count, come in that order."; 12 is below
abbrev pub steps_questions : List ℕ → Context → Context → ℕ → ℕ → List Question
steps_questions s x y work1 work2 = policy_questions s ++ (ask 13 (BothInRange (counts_of s) x y) ∷ ask 11 (StepsFit s work1 work2) ∷ [])

-- what each case of the answer says, with the path slice before and after the call
abbrev pub StepsPromise : List ℕ → Context → Context → ℕ → ℕ → List ℕ → List ℕ → Result (Option ℕ) Unanswered → Type 0
-- "exactly when no path leads from x to y, 'none', which leaves the path slice unchanged"
StepsPromise s x y work1 work2 before after (Ok None) = AllYes (steps_questions s x y work1 work2) × NoFlowPath (policy_of s) x y × (after ≡ before)
-- "the least number of flow steps and one path of that length"
StepsPromise s x y work1 work2 before after (Ok (Some m)) =
    AllYes (steps_questions s x y work1 work2) × NoneShorter (policy_of s) x y m × Shows (FlowPath (policy_of s) x y) m before after
-- the first question whose answer is no; a refusal leaves the path slice unchanged, as it does everywhere
StepsPromise s x y work1 work2 before after (Err (unanswered.Refused r)) = RefusedFor (steps_questions s x y work1 work2) r × (after ≡ before)
-- 12, "with the count": there is a path, and the slice has fewer than the 2m + 1 entries of a shortest
StepsPromise s x y work1 work2 before after (Err (unanswered.NoRoom m)) =
    AllYes (steps_questions s x y work1 work2) × SomeFlowPath (policy_of s) x y m × NoneShorter (policy_of s) x y m × (length before < 2 * m + 1) × (after ≡ before)

-- the number that C gets: 256m + 4 × number + answer, with 0 none, 1 a path is shown, 3 refused; unused parts are 0
abbrev pub steps_number : Result (Option ℕ) Unanswered → ℕ
steps_number (Ok None) = 0
steps_number (Ok (Some m)) = 256 * m + 1
steps_number (Err u) = unanswered_number u
