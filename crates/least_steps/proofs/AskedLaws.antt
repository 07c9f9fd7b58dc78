-- The questions of least steps in order: a refusal by each, and what is known where none refuses.
use Prim.Native.Nat.{ℕ}
use mathlib.Core.List.{List, [], ◌∷◌}
use mathlib.Core.Logic.{inl, inr}
use mathlib.Core.Path.{refl, sym, subst}
use Rattle.std.specs.Prelude.{Ok, Err}
use Rattle.base.specs.declared.refusals.Refusal.{Refusal}
use Rattle.base.specs.declared.refusals.Refusal.TheVariants.{ContextsAndEvent, WorkSlices}
use Rattle.base.specs.Questions.{Question, ask, AllYes}
use Rattle.base.specs.Refusals.{question_number, RefusedFor}
use Rattle.base.proofs.QuestionLaws.{refused_first, refused_then, passed_both, passed_first, passed_then}
use Rattle.policy_image.specs.declared.counts.Counts.{Counts}
use Rattle.policy_image.specs.Layout.{counts_of}
use Rattle.policy_check.specs.Questions.{policy_questions}
use Rattle.policy_check.specs.Inner.Answer.{PolicyAnswer}
use Rattle.policy_check.proofs.AnswerLaws.{sound}
use Rattle.context.specs.declared.Context.{Context}
use Rattle.plan.specs.Inner.Plan.{Ready}
use Rattle.search_graph.proofs.GivenLaws.{ready_of}
use Rattle.least_steps.specs.LeastSteps.{BothInRange, StepsFit, steps_questions}
use Rattle.least_steps.specs.Inner.Parts.{EntryForEach, StepsPassed}

module _ (s : List ℕ) (x y : Context) (work1 work2 : ℕ) where
  -- the questions after the policy's
  abbrev later : List Question
  later = ask 13 (BothInRange (counts_of s) x y) ∷ ask 11 (StepsFit s work1 work2) ∷ []

  pub policy_refused : (r : Refusal) → PolicyAnswer s (Err r) → RefusedFor (steps_questions s x y work1 work2) r
  policy_refused r a = refused_first (policy_questions s) later (question_number r) a

  -- the policy is accepted
  module _ {n : Counts} (a : PolicyAnswer s (Ok n)) where
    pub accepted_ready : Ready s n
    accepted_ready = ready_of (sound s a.1) a.0

    pub out_of_range_lem : ¬ BothInRange n x y → RefusedFor (steps_questions s x y work1 work2) ContextsAndEvent
    out_of_range_lem h = refused_then (policy_questions s) later 13 a.1 (inl ((λ r. h (subst (λ (c : Counts). BothInRange c x y) (sym a.0) r)), refl))

    -- and both contexts are in range
    module _ (r : BothInRange n x y) where
      in_range_lem : BothInRange (counts_of s) x y
      in_range_lem = subst (λ (c : Counts). BothInRange c x y) a.0 r

      pub too_short : ¬ EntryForEach n work1 work2 → RefusedFor (steps_questions s x y work1 work2) WorkSlices
      too_short h =
          refused_then (policy_questions s) later 11 a.1
          (inr (in_range_lem, inl ((λ f. h (subst (λ (c : Counts). EntryForEach c work1 work2) (sym a.0) (record { first = f.first; second = f.second }))), refl)))

      pub all_passed : EntryForEach n work1 work2 → StepsPassed s x y n work1 work2
      all_passed h =
          let f = subst (λ (c : Counts). EntryForEach c work1 work2) a.0 h in
          record {
            questions = passed_both (policy_questions s) later a.1 (in_range_lem, (record { first = f.first; second = f.second }, tt));
            counts = a.0;
          }

-- ---- the questions that were passed
module _ {s : List ℕ} {x y : Context} {n : Counts} {work1 work2 : ℕ} (P : StepsPassed s x y n work1 work2) where
  pub passed_ready : Ready s n
  passed_ready = ready_of (sound s (passed_first (policy_questions s) (later s x y work1 work2) P.questions)) P.counts

  answers : AllYes (later s x y work1 work2)
  answers = passed_then (policy_questions s) (later s x y work1 work2) P.questions

  pub passed_range : BothInRange n x y
  passed_range = subst (λ (c : Counts). BothInRange c x y) (sym P.counts) answers.0

  pub passed_room : EntryForEach n work1 work2
  passed_room = let f = answers.1.0 in subst (λ (c : Counts). EntryForEach c work1 work2) (sym P.counts) (record { first = f.first; second = f.second })
