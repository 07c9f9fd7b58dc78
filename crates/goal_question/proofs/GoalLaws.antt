-- The promise of the goal question fixes the answer and the count: any two results that it allows for one input have the same. So does the
-- sort alone, of which nothing is shown.
use Prim.Native.Nat.{ℕ, ◌+◌, ◌*◌, ◌≤◌, ◌<◌}
use mathlib.Core.List.{List}
use mathlib.Core.Logic.{◌⊎◌, inl, inr}
use mathlib.Core.Path.{◌≡◌, refl, ap}
use native.Mathlib.Omega.{arith}
use lib.ListN.{length}
use Rattle.std.specs.Prelude.{Result, Ok, Err}
use Rattle.base.specs.Questions.{Question}
use Rattle.base.specs.Refusals.{question_number}
use Rattle.base.proofs.QuestionLaws.{passed_not_refused}
use Rattle.base.proofs.RefusalLaws.{one_refusal}
use Rattle.paths.specs.Model.{Model}
use Rattle.paths.specs.Paths.{Holds, OrderAt, EventsAt}
use Rattle.paths.specs.Inner.Verdict.{holds, order, events}
use Rattle.paths.proofs.Verdict.{right_unique}
use Rattle.goal_model.specs.Images.{model}
use Rattle.goal_question.specs.declared.goal.Outcome.{Outcome}
use Rattle.goal_question.specs.declared.goal.Outcome.TheVariants as outcome
use Rattle.witness.specs.declared.unanswered.Unanswered.{Unanswered}
use Rattle.witness.specs.declared.unanswered.Unanswered.TheVariants as unanswered
use Rattle.goal_question.specs.GoalQuestion.{all_questions, GoalSort, GoalPromise}

-- order or events, after the same questions
pub either : {Q A B : Type 0} → (Q × A) ⊎ (Q × B) → Q × (A ⊎ B)
either (inl p) = (p.0, inl p.1)
either (inr p) = (p.0, inr p.1)

-- ---- two answers of the path definitions
module _ (M : Model) where
  pub order_one : (m k : ℕ) → OrderAt M m → OrderAt M k → m ≡ k
  order_one m k p q = let e = right_unique M (order m) (order k) p q in cc

  pub events_one : (m k : ℕ) → EventsAt M m → EventsAt M k → m ≡ k
  events_one m k p q = let e = right_unique M (events m) (events k) p q in cc

  pub not_both : (m k : ℕ) → OrderAt M m → EventsAt M k → ⊥
  not_both m k p q = let e = right_unique M (order m) (events k) p q in let z : ◌≡◌ {A = ℕ} 0 1 = cc in omega arith

  pub not_holds_order : (m : ℕ) → Holds M → OrderAt M m → ⊥
  not_holds_order m p q = let e = right_unique M holds (order m) p q in let z : ◌≡◌ {A = ℕ} 0 1 = cc in omega arith

  pub not_holds_events : (m : ℕ) → Holds M → EventsAt M m → ⊥
  not_holds_events m p q = let e = right_unique M holds (events m) p q in let z : ◌≡◌ {A = ℕ} 0 1 = cc in omega arith

  -- the least count, whichever sort
  pub least_one : (m k : ℕ) → OrderAt M m ⊎ EventsAt M m → OrderAt M k ⊎ EventsAt M k → m ≡ k
  least_one m k (inl p) (inl q) = order_one m k p q
  least_one m k (inl p) (inr q) = absurd (not_both m k p q)
  least_one m k (inr p) (inl q) = absurd (not_both k m q p)
  least_one m k (inr p) (inr q) = events_one m k p q

  pub not_holds : (m : ℕ) → Holds M → OrderAt M m ⊎ EventsAt M m → ⊥
  not_holds m p (inl q) = not_holds_order m p q
  not_holds m p (inr q) = not_holds_events m p q

module _ (s g : List ℕ) (work1 work2 : ℕ) where
  abbrev M : Model
  M = model s g

  abbrev questions : List Question
  questions = all_questions s g work1 work2

  pub one_sort : (q r : Result Outcome Unanswered) → GoalSort s g work1 work2 q → GoalSort s g work1 work2 r → q ≡ r
  one_sort (Ok outcome.Holds) (Ok outcome.Holds) p q = refl
  one_sort (Ok outcome.Holds) (Ok (outcome.Order k)) p q = absurd (not_holds_order M k p.1 q.1)
  one_sort (Ok outcome.Holds) (Ok (outcome.Events k)) p q = absurd (not_holds_events M k p.1 q.1)
  one_sort (Ok outcome.Holds) (Err (unanswered.Refused k)) p q = absurd (passed_not_refused questions (question_number k) p.0 q)
  one_sort (Ok outcome.Holds) (Err (unanswered.NoRoom k)) p q = absurd q
  one_sort (Ok (outcome.Order m)) (Ok outcome.Holds) p q = absurd (not_holds_order M m q.1 p.1)
  one_sort (Ok (outcome.Order m)) (Ok (outcome.Order k)) p q = ap (λ m. Ok (outcome.Order m)) (order_one M m k p.1 q.1)
  one_sort (Ok (outcome.Order m)) (Ok (outcome.Events k)) p q = absurd (not_both M m k p.1 q.1)
  one_sort (Ok (outcome.Order m)) (Err (unanswered.Refused k)) p q = absurd (passed_not_refused questions (question_number k) p.0 q)
  one_sort (Ok (outcome.Order m)) (Err (unanswered.NoRoom k)) p q = absurd q
  one_sort (Ok (outcome.Events m)) (Ok outcome.Holds) p q = absurd (not_holds_events M m q.1 p.1)
  one_sort (Ok (outcome.Events m)) (Ok (outcome.Order k)) p q = absurd (not_both M k m q.1 p.1)
  one_sort (Ok (outcome.Events m)) (Ok (outcome.Events k)) p q = ap (λ m. Ok (outcome.Events m)) (events_one M m k p.1 q.1)
  one_sort (Ok (outcome.Events m)) (Err (unanswered.Refused k)) p q = absurd (passed_not_refused questions (question_number k) p.0 q)
  one_sort (Ok (outcome.Events m)) (Err (unanswered.NoRoom k)) p q = absurd q
  one_sort (Err (unanswered.Refused m)) (Ok outcome.Holds) p q = absurd (passed_not_refused questions (question_number m) q.0 p)
  one_sort (Err (unanswered.Refused m)) (Ok (outcome.Order k)) p q = absurd (passed_not_refused questions (question_number m) q.0 p)
  one_sort (Err (unanswered.Refused m)) (Ok (outcome.Events k)) p q = absurd (passed_not_refused questions (question_number m) q.0 p)
  one_sort (Err (unanswered.Refused m)) (Err (unanswered.Refused k)) p q = ap (λ m. Err (unanswered.Refused m)) (one_refusal questions m k p q)
  one_sort (Err (unanswered.Refused m)) (Err (unanswered.NoRoom k)) p q = absurd q
  one_sort (Err (unanswered.NoRoom m)) r p q = absurd p

module _ (s g : List ℕ) (work1 work2 : ℕ) (before : List ℕ) where
  -- a slice that has room for the least path is not too short for it
  room : (m k : ℕ) → m ≡ k → 2 * m + 1 ≤ length before → length before < 2 * k + 1 → ⊥
  room m k e a b = omega arith

  pub one_outcome : (after last : List ℕ) (q r : Result Outcome Unanswered) → GoalPromise s g work1 work2 before after q → GoalPromise s g work1 work2 before last r → q ≡ r
  one_outcome a b (Ok outcome.Holds) (Ok outcome.Holds) p q = one_sort s g work1 work2 _ _ p.0 q.0
  one_outcome a b (Ok outcome.Holds) (Ok (outcome.Order k)) p q = one_sort s g work1 work2 _ _ p.0 q.0
  one_outcome a b (Ok outcome.Holds) (Ok (outcome.Events k)) p q = one_sort s g work1 work2 _ _ p.0 q.0
  one_outcome a b (Ok outcome.Holds) (Err (unanswered.Refused k)) p q = one_sort s g work1 work2 _ _ p.0 q.0
  one_outcome a b (Ok outcome.Holds) (Err (unanswered.NoRoom k)) p q = absurd (not_holds (model s g) k p.0.1 (either q.0).1)
  one_outcome a b (Ok (outcome.Order m)) (Ok outcome.Holds) p q = one_sort s g work1 work2 _ _ p.0 q.0
  one_outcome a b (Ok (outcome.Order m)) (Ok (outcome.Order k)) p q = one_sort s g work1 work2 _ _ p.0 q.0
  one_outcome a b (Ok (outcome.Order m)) (Ok (outcome.Events k)) p q = one_sort s g work1 work2 _ _ p.0 q.0
  one_outcome a b (Ok (outcome.Order m)) (Err (unanswered.Refused k)) p q = one_sort s g work1 work2 _ _ p.0 q.0
  one_outcome a b (Ok (outcome.Order m)) (Err (unanswered.NoRoom k)) p q = absurd (room m k (least_one (model s g) m k (inl p.0.1) (either q.0).1) p.1.room q.1)
  one_outcome a b (Ok (outcome.Events m)) (Ok outcome.Holds) p q = one_sort s g work1 work2 _ _ p.0 q.0
  one_outcome a b (Ok (outcome.Events m)) (Ok (outcome.Order k)) p q = one_sort s g work1 work2 _ _ p.0 q.0
  one_outcome a b (Ok (outcome.Events m)) (Ok (outcome.Events k)) p q = one_sort s g work1 work2 _ _ p.0 q.0
  one_outcome a b (Ok (outcome.Events m)) (Err (unanswered.Refused k)) p q = one_sort s g work1 work2 _ _ p.0 q.0
  one_outcome a b (Ok (outcome.Events m)) (Err (unanswered.NoRoom k)) p q = absurd (room m k (least_one (model s g) m k (inr p.0.1) (either q.0).1) p.1.room q.1)
  one_outcome a b (Err (unanswered.Refused m)) (Ok outcome.Holds) p q = one_sort s g work1 work2 _ _ p.0 q.0
  one_outcome a b (Err (unanswered.Refused m)) (Ok (outcome.Order k)) p q = one_sort s g work1 work2 _ _ p.0 q.0
  one_outcome a b (Err (unanswered.Refused m)) (Ok (outcome.Events k)) p q = one_sort s g work1 work2 _ _ p.0 q.0
  one_outcome a b (Err (unanswered.Refused m)) (Err (unanswered.Refused k)) p q = one_sort s g work1 work2 _ _ p.0 q.0
  one_outcome a b (Err (unanswered.Refused m)) (Err (unanswered.NoRoom k)) p q = absurd (passed_not_refused (all_questions s g work1 work2) (question_number m) (either q.0).0 p.0)
  one_outcome a b (Err (unanswered.NoRoom m)) (Ok outcome.Holds) p q = absurd (not_holds (model s g) m q.0.1 (either p.0).1)
  one_outcome a b (Err (unanswered.NoRoom m)) (Ok (outcome.Order k)) p q = absurd (room k m (least_one (model s g) k m (inl q.0.1) (either p.0).1) q.1.room p.1)
  one_outcome a b (Err (unanswered.NoRoom m)) (Ok (outcome.Events k)) p q = absurd (room k m (least_one (model s g) k m (inr q.0.1) (either p.0).1) q.1.room p.1)
  one_outcome a b (Err (unanswered.NoRoom m)) (Err (unanswered.Refused k)) p q = absurd (passed_not_refused (all_questions s g work1 work2) (question_number k) (either p.0).0 q.0)
  one_outcome a b (Err (unanswered.NoRoom m)) (Err (unanswered.NoRoom k)) p q = ap (λ m. Err (unanswered.NoRoom m)) (least_one (model s g) m k (either p.0).1 (either q.0).1)
