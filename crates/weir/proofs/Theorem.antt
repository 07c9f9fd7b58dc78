-- W1 to W12, all conjoined in a single theorem.
use Prim.Native.Nat.{ℕ, ◌≤◌}
use mathlib.Core.Bool.{not}
use mathlib.Core.List.{List}
use mathlib.Core.Logic.{inl}
use mathlib.Core.Path.{◌≡◌, ap, subst}
use native.Mathlib.Omega.{arith}
use lib.Dec.{T}
use lib.ListN.{length}
use Rattle.base.specs.Questions.{AllYes, RefusedWith}
use Rattle.base.proofs.QuestionLaws.{passed_not_refused}
use Rattle.policy_image.specs.Policy.{policy_of}
use Rattle.policy_image.specs.Cases.Weir.{weir}
use Rattle.policy_check.proofs.Cases.{weir_accepted, w9_refused, w9_domain_accepted, w10_short, w10_empty, w11}
use Rattle.access.proofs.NoDomain.{w9_nothing, w9_authorized, w9_flow}
use Rattle.goal_image.specs.Cases.WeirGoal.{goal_g}
use Rattle.goal_model.specs.Images.{model}
use Rattle.goal_model.proofs.Cover.{uncovered}
use Rattle.std.specs.Prelude.{Result, Ok, Err}
use Rattle.base.specs.Refusals.{question_number}
use Rattle.witness.specs.declared.unanswered.Unanswered.{Unanswered}
use Rattle.witness.specs.declared.unanswered.Unanswered.TheVariants as unanswered
use Rattle.goal_question.specs.declared.goal.Outcome.{Outcome}
use Rattle.goal_question.specs.declared.goal.Outcome.TheVariants as outcome
use Rattle.paths.specs.Paths.{IsPath, OrderAt}
use Rattle.paths.specs.Slice.{contexts_in, events_in, Shows}
use Rattle.goal_question.specs.GoalQuestion.{all_questions, GoalPromise}
use Rattle.goal_question.proofs.GoalLaws.{order_one, not_both, not_holds_order, least_one, either}
use Rattle.weir.specs.Cases.Goals.{weir_allow41}
use Rattle.weir.specs.Cases.Weir.{W5Slice, Weir}
use Rattle.weir.proofs.Accepted.{g_accepted, refused_11, work_length_lem, w1_enough, w2_enough, w3_enough, w4_enough, w5_enough, w6_enough, w7_enough, w8_enough}
use Rattle.weir.proofs.Answers.{steps41, covers41, w1, w2, w3, w4, w5, w6, w7, w8, w5_path}

-- ---- W12: 31 entries in either slice
pub w12_first : (work : ℕ) → RefusedWith (all_questions weir goal_g 31 work) 11
w12_first work = refused_11 weir goal_g 31 work weir_accepted g_accepted (λ h. let a = h.first in let b = work_length_lem in omega arith)

pub w12_second : (work : ℕ) → RefusedWith (all_questions weir goal_g work 31) 11
w12_second work = refused_11 weir goal_g work 31 weir_accepted g_accepted (λ h. let a = h.second in let b = work_length_lem in omega arith)

-- ---- W5 by answer, count and path slice: of any image that has W5's steps, and W5's answer to G
module _ (s : List ℕ) (all : AllYes (all_questions s goal_g 32 32)) (broken : OrderAt (model s goal_g) 1) (covered : T (not (uncovered (policy_of s) steps41))) where
  pub slice_of_one : (before after : List ℕ) (r : Result Outcome Unanswered) → 3 ≤ length before → GoalPromise s goal_g 32 32 before after r → W5Slice before after r
  slice_of_one before after (Ok outcome.Holds) room p = absurd (not_holds_order (model s goal_g) 1 p.0.1 broken)
  slice_of_one before after (Ok (outcome.Order m)) room p = shown m (order_one (model s goal_g) m 1 p.0.1 broken) p.1
    where
      shown : (m : ℕ) → m ≡ 1 → Shows (IsPath (model s goal_g)) m before after → W5Slice before after (Ok (outcome.Order m))
      shown m e h =
          let k : Shows (IsPath (model s goal_g)) 1 before after = subst (λ (i : ℕ). Shows (IsPath (model s goal_g)) i before after) e h in
          let q = w5_path s covered (contexts_in after) (events_in after) k.path in
          record { answer = ap (λ m. Ok (outcome.Order m)) e; whole = k.whole; x0 = q.0; e0 = q.1; x1 = q.2; rest = k.rest }
  slice_of_one before after (Ok (outcome.Events m)) room p = absurd (not_both (model s goal_g) 1 m broken p.0.1)
  slice_of_one before after (Err (unanswered.Refused k)) room p = absurd (passed_not_refused (all_questions s goal_g 32 32) (question_number k) all p.0)
  slice_of_one before after (Err (unanswered.NoRoom m)) room p =
      let e = least_one (model s goal_g) m 1 (either p.0).1 (inl broken) in
      let short = p.1 in
      absurd (omega arith)

pub w5_slice : (before after : List ℕ) (r : Result Outcome Unanswered) → 3 ≤ length before → GoalPromise weir_allow41 goal_g 32 32 before after r → W5Slice before after r
w5_slice = slice_of_one weir_allow41 w5_enough w5 covers41

-- THE THEOREM
pub weir_cases : Weir
weir_cases =
    record {
      w1 = record { accepted = w1_enough; answer = w1 };
      w2 = record { accepted = w2_enough; answer = w2 };
      w3 = record { accepted = w3_enough; answer = w3 };
      w4 = record { accepted = w4_enough; answer = w4 };
      w5 = record { accepted = w5_enough; answer = w5 };
      w5_slice = w5_slice;
      w6 = record { accepted = w6_enough; answer = w6 };
      w7 = record { accepted = w7_enough; answer = w7 };
      w8 = record { accepted = w8_enough; answer = w8 };
      w9 = w9_refused.it;
      w9_near = w9_domain_accepted.it;
      w9_nothing = w9_nothing;
      w9_authorized = w9_authorized;
      w9_flow = w9_flow;
      w10 = λ s h. (w10_short s h).it;
      w10_empty = w10_empty.it;
      w11 = λ s e r i a b h. (w11 s e r i a b h).it;
      w12_first = w12_first;
      w12_second = w12_second;
      w12_enough = w1_enough;
    }
