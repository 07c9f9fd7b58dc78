-- W1 to W12 carried to the outward calls, by their promises.
use Prim.Native.Nat.{ℕ, zero, suc, ◌+◌, ◌*◌, ◌≤◌, ◌<◌}
use mathlib.Core.List.{List, [], ◌∷◌, ◌++◌}
use mathlib.Core.Bool.{Bool}
use mathlib.Core.Logic.{◌⊎◌, inl, inr, ⊎_elim}
use mathlib.Core.Path.{◌≡◌, refl, ap, ◌∙◌}
use native.Mathlib.Omega.{arith}
use lib.ListN.{length}
use Rattle.base.specs.Numbers.{Numbered}
use Rattle.base.specs.Questions.{Question, ask, AllYes, RefusedWith}
use Rattle.base.proofs.QuestionLaws.{passed_not_refused, one_number, refused_first, refused_then}
use Rattle.policy_image.specs.Layout.{counts_of, record_count}
use Rattle.policy_image.specs.Policy.{policy_of}
use Rattle.policy_image.specs.Cases.Weir.{weir, weir_allow31}
use Rattle.policy_check.specs.Questions.{policy_questions}
use Rattle.policy_check.proofs.Cases.{w9_refused, w10_short, w10_empty, w11}
use Rattle.policy_writing.specs.Writing.{writing_number}
use Rattle.policy_writing.proofs.WritingLaws.{refused_writing}
use Rattle.join.specs.Join.{joined_image, join_questions, JoinPromise}
use Rattle.context.specs.declared.Context.{Context}
use Rattle.context.specs.declared.Event.{Event}
use Rattle.access.specs.Authorization.{authorized, flow}
use Rattle.goal_image.specs.Cases.WeirGoal.{goal_g}
use Rattle.goal_image.specs.Questions.{goal_questions}
use Rattle.goal_image.proofs.Cases as goals
use Rattle.paths.specs.Paths.{Holds, OrderAt, EventsAt}
use Rattle.goal_model.specs.Images.{model}
use Rattle.bare_questions.specs.Bare.{BareAnswer, number_of}
use Rattle.bare_questions.proofs.BareLaws.{last, refused_number}
use Rattle.std.specs.Prelude.{Result, Ok, Err}
use Rattle.base.specs.Refusals.{question_number}
use Rattle.witness.specs.declared.unanswered.Unanswered.{Unanswered}
use Rattle.witness.specs.declared.unanswered.Unanswered.TheVariants as unanswered
use Rattle.goal_question.specs.declared.goal.Outcome.{Outcome}
use Rattle.base.specs.declared.refusals.Refusal.{Refusal}
use Rattle.goal_question.specs.declared.goal.Outcome.TheVariants as outcome
use Rattle.goal_question.specs.GoalQuestion.{WorkFits, all_questions, GoalPromise, outcome_number}
use Rattle.goal_question.proofs.GoalLaws.{order_one, events_one, not_both, not_holds_order, not_holds_events, not_holds, least_one, either}
use Rattle.goal_model.specs.Cases.OwnGoals.{write_only}
use Rattle.weir.specs.Cases.Goals.{weir_allow41, empty, except_type, end_type_one, one_leg, no_start}
use Rattle.weir.specs.Cases.Weir.{W5Slice}
use Rattle.weir.specs.Cases.Called.{Gives, SaysHolds, Refuses, SaysBroken, Prints, WeirCalled}
use Rattle.weir.proofs.Answers.{w1, w2, w3, w4, w5, w6, w7, w8}
use Rattle.weir.proofs.Accepted.{w1_enough, w2_enough, w3_enough, w4_enough, w5_enough, w6_enough, w7_enough, w8_enough}
use Rattle.weir.proofs.Steps.{steps_cases, refuses as refuses_steps}
use Rattle.weir.proofs.Theorem.{w12_first, w12_second, w5_slice}

-- ---- one outcome for each answer of the definitions
module _ (s g : List ℕ) (work1 work2 : ℕ) where
  pub refused_only : {k : ℕ} (before after : List ℕ) (r : Result Outcome Unanswered) → RefusedWith (all_questions s g work1 work2) k → GoalPromise s g work1 work2 before after r
      → ((i : Refusal) × (r ≡ Err (unanswered.Refused i)) × (question_number i ≡ k)) × (after ≡ before)
  refused_only b a (Ok outcome.Holds) h p = absurd (passed_not_refused (all_questions s g work1 work2) _ p.0.0 h)
  refused_only b a (Ok (outcome.Order m)) h p = absurd (passed_not_refused (all_questions s g work1 work2) _ p.0.0 h)
  refused_only b a (Ok (outcome.Events m)) h p = absurd (passed_not_refused (all_questions s g work1 work2) _ p.0.0 h)
  refused_only b a (Err (unanswered.Refused i)) h p = ((i, refl, one_number (all_questions s g work1 work2) (question_number i) _ p.0 h), p.1)
  refused_only b a (Err (unanswered.NoRoom m)) h p = absurd (passed_not_refused (all_questions s g work1 work2) _ (either p.0).0 h)

  module _ (all : AllYes (all_questions s g work1 work2)) where
    pub holds_only : (before after : List ℕ) (r : Result Outcome Unanswered) → Holds (model s g) → GoalPromise s g work1 work2 before after r → (r ≡ Ok outcome.Holds) × (after ≡ before)
    holds_only b a (Ok outcome.Holds) h p = (refl, p.1)
    holds_only b a (Ok (outcome.Order m)) h p = absurd (not_holds_order (model s g) m h p.0.1)
    holds_only b a (Ok (outcome.Events m)) h p = absurd (not_holds_events (model s g) m h p.0.1)
    holds_only b a (Err (unanswered.Refused k)) h p = absurd (passed_not_refused (all_questions s g work1 work2) (question_number k) all p.0)
    holds_only b a (Err (unanswered.NoRoom m)) h p = absurd (not_holds (model s g) m h (either p.0).1)

    pub order_only : {m : ℕ} (before after : List ℕ) (r : Result Outcome Unanswered) → OrderAt (model s g) m → 2 * m + 1 ≤ length before → GoalPromise s g work1 work2 before after r
        → r ≡ Ok (outcome.Order m)
    order_only b a (Ok outcome.Holds) h room p = absurd (not_holds_order (model s g) _ p.0.1 h)
    order_only b a (Ok (outcome.Order i)) h room p = ap (λ m. Ok (outcome.Order m)) (order_one (model s g) i _ p.0.1 h)
    order_only b a (Ok (outcome.Events i)) h room p = absurd (not_both (model s g) _ i h p.0.1)
    order_only b a (Err (unanswered.Refused k)) h room p = absurd (passed_not_refused (all_questions s g work1 work2) (question_number k) all p.0)
    order_only {m} b a (Err (unanswered.NoRoom i)) h room p = let e : i ≡ m = least_one (model s g) i m (either p.0).1 (inl h) in absurd (omega (arith, p.1))

    pub events_only : {m : ℕ} (before after : List ℕ) (r : Result Outcome Unanswered) → EventsAt (model s g) m → 2 * m + 1 ≤ length before → GoalPromise s g work1 work2 before after r
        → r ≡ Ok (outcome.Events m)
    events_only b a (Ok outcome.Holds) h room p = absurd (not_holds_events (model s g) _ p.0.1 h)
    events_only b a (Ok (outcome.Order i)) h room p = absurd (not_both (model s g) i _ p.0.1 h)
    events_only b a (Ok (outcome.Events i)) h room p = ap (λ m. Ok (outcome.Events m)) (events_one (model s g) i _ p.0.1 h)
    events_only b a (Err (unanswered.Refused k)) h room p = absurd (passed_not_refused (all_questions s g work1 work2) (question_number k) all p.0)
    events_only {m} b a (Err (unanswered.NoRoom i)) h room p = let e : i ≡ m = least_one (model s g) i m (either p.0).1 (inr h) in absurd (omega (arith, p.1))

    pub short_only : {m : ℕ} (before after : List ℕ) (r : Result Outcome Unanswered) → OrderAt (model s g) m ⊎ EventsAt (model s g) m → length before < 2 * m + 1
        → GoalPromise s g work1 work2 before after r → (r ≡ Err (unanswered.NoRoom m)) × (after ≡ before)
    short_only {m} b a (Ok outcome.Holds) h short p = absurd (not_holds (model s g) m p.0.1 h)
    short_only {m} b a (Ok (outcome.Order i)) h short p = let e : i ≡ m = least_one (model s g) i m (inl p.0.1) h in absurd (omega (arith, p.1.room))
    short_only {m} b a (Ok (outcome.Events i)) h short p = let e : i ≡ m = least_one (model s g) i m (inr p.0.1) h in absurd (omega (arith, p.1.room))
    short_only b a (Err (unanswered.Refused k)) h short p = absurd (passed_not_refused (all_questions s g work1 work2) (question_number k) all p.0)
    short_only {m} b a (Err (unanswered.NoRoom i)) h short p = (ap (λ m. Err (unanswered.NoRoom m)) (least_one (model s g) i m (either p.0).1 h), p.2)

-- ---- the numbers that C gets
pub refuses : {k : ℕ} (s g : List ℕ) (work1 work2 : ℕ) → RefusedWith (all_questions s g work1 work2) k → Refuses s g work1 work2 k
refuses s g work1 work2 h b a n G =
    let r = refused_only s g work1 work2 b a G.answer h G.promised in
    (G.number ∙ ap outcome_number r.0.1 ∙ ap (λ (m : ℕ). 4 * m + 3) r.0.2, r.1)

module _ (s g : List ℕ) (all : AllYes (all_questions s g 32 32)) where
  pub says_holds : Holds (model s g) → SaysHolds s g
  says_holds h b a n G =
      let r = holds_only s g 32 32 all b a G.answer h G.promised in
      (G.number ∙ ap outcome_number r.0, r.1)

  says_short : {m : ℕ} → OrderAt (model s g) m ⊎ EventsAt (model s g) m → (b a : List ℕ) (n : ℕ) → length b < 2 * m + 1 → Gives s g 32 32 b a n
      → (n ≡ 256 * m + 51) × (a ≡ b)
  says_short h b a n short G =
      let r = short_only s g 32 32 all b a G.answer h short G.promised in
      let q = G.number ∙ ap outcome_number r.0 in
      (omega arith, r.1)

  pub says_order : {m : ℕ} → OrderAt (model s g) m → SaysBroken s g m 1
  says_order h =
      record {
        room = λ b a n room G. G.number ∙ ap outcome_number (order_only s g 32 32 all b a G.answer h room G.promised);
        no_room = says_short (inl h);
      }

  pub says_events : {m : ℕ} → EventsAt (model s g) m → SaysBroken s g m 2
  says_events h =
      record {
        room = λ b a n room G. G.number ∙ ap outcome_number (events_only s g 32 32 all b a G.answer h room G.promised);
        no_room = says_short (inr h);
      }

-- ---- W5's path, W9 and W10
pub called_path : (s : List ℕ) → ((before after : List ℕ) (r : Result Outcome Unanswered) → 3 ≤ length before → GoalPromise s goal_g 32 32 before after r → W5Slice before after r)
    → (before after : List ℕ) (n : ℕ) → 3 ≤ length before → Gives s goal_g 32 32 before after n → Prints before after
called_path s slice before after n room G =
    let z = slice before after G.answer room G.promised in
    record { whole = z.whole; x0 = z.x0; e0 = z.e0; x1 = z.x1; rest = z.rest }

-- a refusal by the policy's questions is one by each call, before it reads what else it is asked
bare_refuses : {k : ℕ} (s : List ℕ) → RefusedWith (policy_questions s) k → (x y : Context) (e : Event) (holds : Bool) (n : ℕ)
    → Numbered number_of (BareAnswer s x y e holds) n → n ≡ 4 * k + 3
bare_refuses {k} s r x y e holds n N =
    N.number ∙ refused_number s x y e holds N.answer k N.promised (refused_first (policy_questions s) (last s x y e) k r)

policy_refuses : {k : ℕ} (s : List ℕ) → RefusedWith (policy_questions s) k → (g : List ℕ) (work1 work2 : ℕ) → Refuses s g work1 work2 k
policy_refuses {k} s r g work1 work2 =
    refuses s g work1 work2 (refused_first (policy_questions s) (goal_questions (counts_of s) g ++ (ask 11 (WorkFits s g work1 work2) ∷ [])) k r)

-- .. of the join, by the maker's questions, or by the board's where the maker's are passed
abbrev join_room : List ℕ → List ℕ → List ℕ → List Question
join_room s t before = ask 15 (record_count s + record_count t ≤ 4095) ∷ ask 16 (length (joined_image s t) ≤ length before) ∷ []

module _ (s t before after : List ℕ) (n k : ℕ) (N : Numbered writing_number (JoinPromise s t before after) n) where
  join_refuses : RefusedWith (join_questions s t (length before)) k → (n ≡ 4 * k + 3) × (after ≡ before)
  join_refuses r =
      let o = refused_writing (join_questions s t (length before)) (joined_image s t) before after N.answer k N.promised r in
      (N.number ∙ o.0, o.1)

  maker_refuses : RefusedWith (policy_questions s) k → (n ≡ 4 * k + 3) × (after ≡ before)
  maker_refuses r = join_refuses (refused_first (policy_questions s) (policy_questions t ++ join_room s t before) k r)

  board_refuses : AllYes (policy_questions s) → RefusedWith (policy_questions t) k → (n ≡ 4 * k + 3) × (after ≡ before)
  board_refuses a r =
      join_refuses
      (refused_then (policy_questions s) (policy_questions t ++ join_room s t before) k a (refused_first (policy_questions t) (join_room s t before) k r))

-- what is so of the numbers of all questions is so of that of a refusal
abbrev pub AllNumbers : (ℕ → Type 0) → List Question → Type 0
AllNumbers P [] = Unit
AllNumbers P (q ∷ qs) = P q.number × AllNumbers P qs

pub refused_among : (P : ℕ → Type 0) (k : ℕ) (qs : List Question) → AllNumbers P qs → RefusedWith qs k → P k
refused_among P k [] f r = absurd r
refused_among P k (q ∷ qs) f (inl r) = rw r.1 f.0
refused_among P k (q ∷ qs) f (inr r) = refused_among P k qs f.1 r.1

-- what is refused after the policy's questions is refused by the others
refused_later : (k : ℕ) (qs rs : List Question) → AllYes qs → RefusedWith (qs ++ rs) k → RefusedWith rs k
refused_later k [] rs a r = r
refused_later k (q ∷ qs) rs a (inl r) = absurd (r.0 a.0)
refused_later k (q ∷ qs) rs a (inr r) = refused_later k qs rs a.1 r.1

empty_passed : (g : List ℕ) (work1 work2 : ℕ) (before after : List ℕ) (n k : ℕ) → Gives empty g work1 work2 before after n → (k ≤ 6) ⊎ (k ≡ 14) → n ≡ 4 * k + 3 → ⊥
empty_passed g work1 work2 before after n k G of_policy e = go G.answer G.promised G.number
  where
    go : (r : Result Outcome Unanswered) → GoalPromise empty g work1 work2 before after r → n ≡ outcome_number r → ⊥
    go (Ok outcome.Holds) p q = omega arith
    go (Ok (outcome.Order m)) p q = omega arith
    go (Ok (outcome.Events m)) p q = omega arith
    go (Err (unanswered.Refused i)) p q =
        let l = refused_among (λ k. (7 ≤ k) × (k ≤ 11)) (question_number i) (goal_questions (counts_of empty) g ++ (ask 11 (WorkFits empty g work1 work2) ∷ [])) (omega arith)
        (refused_later (question_number i) (policy_questions empty) (goal_questions (counts_of empty) g ++ (ask 11 (WorkFits empty g work1 work2) ∷ [])) w10_empty.it p.0) in
        ⊎_elim (λ h. omega arith) (λ h. omega arith) of_policy
    go (Err (unanswered.NoRoom zero)) p q = ⊎_elim (λ h. omega arith) (λ h. omega arith) of_policy
    go (Err (unanswered.NoRoom (suc m))) p q = ⊎_elim (λ h. omega arith) (λ h. omega arith) of_policy

-- THE SECOND THEOREM: the same twelve, of the outward calls
pub weir_called : WeirCalled
weir_called =
    record {
      w1 = says_holds weir goal_g w1_enough w1;
      w2 = says_events weir write_only w2_enough w2;
      w3 = says_holds weir (except_type 3) w3_enough w3;
      w4 = says_events weir (except_type 4) w4_enough w4;
      w5 = says_order weir_allow41 goal_g w5_enough w5;
      w5_path = called_path weir_allow41 w5_slice;
      w6 = says_order weir end_type_one w6_enough w6;
      w7 = says_events weir one_leg w7_enough w7;
      w8 = says_holds weir no_start w8_enough w8;
      w9_authorized = λ x y e. bare_refuses weir_allow31 w9_refused.it x y e (authorized (policy_of weir_allow31) e x y);
      w9_flows = λ x y e. bare_refuses weir_allow31 w9_refused.it x y e (flow (policy_of weir_allow31) e x y);
      w9_steps = λ x y work1 work2. refuses_steps weir_allow31 x y work1 work2 (steps_cases.fourteen_before_13 x y work1 work2);
      w9_check = policy_refuses weir_allow31 w9_refused.it;
      w9_join_maker = λ t before after n N. maker_refuses weir_allow31 t before after n 14 N w9_refused.it;
      w9_join_board = λ s before after n a N. board_refuses s weir_allow31 before after n 14 N a w9_refused.it;
      w9_short_goal = λ g work1 work2 h. ((goals.short (counts_of weir_allow31) g h).it, policy_refuses weir_allow31 w9_refused.it g work1 work2);
      w10 = λ s g work1 work2 h. policy_refuses s (w10_short s h).it g work1 work2;
      w10_empty = empty_passed;
      w11 = λ s g work1 work2 x c i lo hi h. policy_refuses s (w11 s x c i lo hi h).it g work1 work2;
      w12_first = λ work. refuses weir goal_g 31 work (w12_first work);
      w12_second = λ work. refuses weir goal_g work 31 (w12_second work);
    }
