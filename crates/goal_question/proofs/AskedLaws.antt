-- The goal question's questions in order: a refusal by each, and what is known where none refuses.
use Prim.Native.Nat.{ℕ, ◌*◌, ◌≤◌}
use mathlib.Core.List.{List, [], ◌∷◌, ◌++◌}
use mathlib.Core.Logic.{inl}
use mathlib.Core.Path.{◌≡◌, refl, subst}
use native.Mathlib.Omega.{arith}
use Rattle.std.specs.Prelude.{Ok, Err}
use Rattle.base.specs.declared.refusals.Refusal.{Refusal}
use Rattle.base.specs.declared.refusals.Refusal.TheVariants.{WorkSlices}
use Rattle.base.specs.Questions.{Question, ask, AllYes}
use Rattle.base.specs.Refusals.{question_number, RefusedFor}
use Rattle.base.proofs.QuestionLaws.{refused_first, refused_then, passed_both}
use Rattle.policy_image.specs.declared.counts.Counts.{Counts}
use Rattle.policy_image.specs.Layout.{counts_of}
use Rattle.policy_check.specs.Questions.{policy_questions}
use Rattle.policy_check.specs.Inner.Answer.{PolicyAnswer}
use Rattle.policy_check.proofs.AnswerLaws.{sound}
use Rattle.context.specs.Inner.Places.{context_count}
use Rattle.goal_image.specs.declared.check.Legs.{Legs}
use Rattle.goal_image.specs.Questions.{goal_questions}
use Rattle.goal_image.specs.Inner.Answer.{GoalAnswer}
use Rattle.goal_image.proofs.AnswerLaws.{sound as goal_sound}
use Rattle.search_graph.specs.Inner.Tasks.{state_count}
use Rattle.goal_question.proofs.SizeLaws.{Sized, sized, work_length_lem}
use Rattle.goal_question.specs.GoalQuestion.{work_length, WorkFits, all_questions}
use Rattle.goal_question.specs.Inner.Parts.{Passed}

module _ (s g : List ℕ) (work1 work2 : ℕ) where
  abbrev eleven : List Question
  eleven = ask 11 (WorkFits s g work1 work2) ∷ []

  pub policy_refused : (r : Refusal) → PolicyAnswer s (Err r) → RefusedFor (all_questions s g work1 work2) r
  policy_refused r a = refused_first (policy_questions s) (goal_questions (counts_of s) g ++ eleven) (question_number r) a

  -- the policy is accepted
  module _ {n : Counts} (a : PolicyAnswer s (Ok n)) where
    pub goal_refused : (r : Refusal) → GoalAnswer n g (Err r) → RefusedFor (all_questions s g work1 work2) r
    goal_refused r b =
        refused_then (policy_questions s) (goal_questions (counts_of s) g ++ eleven) (question_number r) a.1
        (refused_first (goal_questions (counts_of s) g) eleven (question_number r) (subst (λ (c : Counts). RefusedFor (goal_questions c g) r) a.0 b))

    -- and so is the goal
    module _ {l : Legs} (b : GoalAnswer n g (Ok l)) where
      goal_passed : AllYes (goal_questions (counts_of s) g)
      goal_passed = subst (λ (c : Counts). AllYes (goal_questions c g)) a.0 b.1

      pub asked_sizes : Sized s g n l
      asked_sizes = sized (sound s a.1) a.0 (goal_sound (counts_of s) g goal_passed) b.0

      nodes : context_count n * state_count l.count ≡ work_length s g
      nodes = work_length_lem s g a.0 b.0

      no_work : (WorkFits s g work1 work2 → ⊥) → RefusedFor (all_questions s g work1 work2) WorkSlices
      no_work h =
          refused_then (policy_questions s) (goal_questions (counts_of s) g ++ eleven) 11 a.1
          (refused_then (goal_questions (counts_of s) g) eleven 11 goal_passed (inl (h, refl)))

      pub first_short : (context_count n * state_count l.count ≤ work1 → ⊥) → RefusedFor (all_questions s g work1 work2) WorkSlices
      first_short h = no_work (λ f. h (omega (arith, nodes, f.first)))

      pub second_short : (context_count n * state_count l.count ≤ work2 → ⊥) → RefusedFor (all_questions s g work1 work2) WorkSlices
      second_short h = no_work (λ f. h (omega (arith, nodes, f.second)))

      pub all_passed : context_count n * state_count l.count ≤ work1 → context_count n * state_count l.count ≤ work2 → Passed s g n l work1 work2
      all_passed h k =
          record {
            questions = passed_both (policy_questions s) (goal_questions (counts_of s) g ++ eleven) a.1
                (passed_both (goal_questions (counts_of s) g) eleven goal_passed (record { first = omega (arith, nodes); second = omega (arith, nodes) }, tt));
            counts = a.0;
            legs = b.0;
          }
