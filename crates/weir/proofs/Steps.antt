-- Least steps on named inputs, from the definitions, and carried to the call by its promise.
use Prim.Native.Nat.{ℕ, ◌≤◌}
use mathlib.Core.List.{List, [], ◌∷◌}
use mathlib.Core.Logic.{inl, inr}
use mathlib.Core.Path.{refl, ap, ◌∙◌}
use native.Mathlib.Omega.{arith}
use lib.ListN.{length}
use Rattle.base.specs.Questions.{Question, ask, AllYes, RefusedWith}
use Rattle.base.proofs.QuestionLaws.{passed_both, refused_first, refused_then}
use Rattle.policy_image.specs.Layout.{counts_of, record_count, record_of, policy_head, payload_of, decoded}
use Rattle.policy_image.specs.Policy.{policy_of}
use Rattle.policy_image.specs.Cases.Weir.{weir, weir_allow31}
use Rattle.policy_expressions.specs.Nodes.{use_of}
use Rattle.policy_check.specs.Questions.{policy_questions}
use Rattle.policy_check.proofs.Tests.{Accepted, accepted}
use Rattle.policy_check.proofs.Cases.{weir_accepted, root_zero, w9_refused}
use Rattle.context.specs.declared.Context.{Context}
use Rattle.context.specs.Codes.{context_at as at}
use Rattle.access.proofs.Cases.{readers_accepted}
use Rattle.paths.specs.Slice.{contexts_in, events_in, Shows}
use Rattle.std.specs.Prelude.{Some, None, Ok, Err}
use Rattle.witness.specs.declared.unanswered.Unanswered.TheVariants as unanswered
use Rattle.least_steps.specs.LeastSteps.{FlowPath, NoFlowPath, NoneShorter, BothInRange, StepsFit, steps_questions, steps_number}
use Rattle.least_steps.proofs.StepsLaws.{shown_some, given, refused_steps}
use Rattle.weir.specs.Cases.Goals.{weir_allow41}
use Rattle.weir.specs.Cases.StepsPolicies.{two_users, weir_constrained, weir_apart, no_root}
use Rattle.weir.specs.Cases.Steps.{StepsAre, NoSteps, StepsCases, GivesSteps, SaysNone, RefusesSteps, SaysSteps, PrintsThree, PrintsOne, StepsCalled}
use Rattle.weir.proofs.Accepted.{weir41_accepted}
use Rattle.weir.proofs.StepsPaths as paths

-- ---- the questions: where the policy is accepted, 13 decides, and then 11
module _ (s : List ℕ) (x y : Context) (work1 work2 : ℕ) where
  abbrev later : List Question
  later = ask 13 (BothInRange (counts_of s) x y) ∷ ask 11 (StepsFit s work1 work2) ∷ []

  pub passed : Accepted s → BothInRange (counts_of s) x y → StepsFit s work1 work2 → AllYes (steps_questions s x y work1 work2)
  passed a b f = passed_both (policy_questions s) later a.it (b, (f, tt))

  pub refused_13 : Accepted s → (BothInRange (counts_of s) x y → ⊥) → RefusedWith (steps_questions s x y work1 work2) 13
  refused_13 a h = refused_then (policy_questions s) later 13 a.it (inl (h, refl))

  pub refused_11 : Accepted s → BothInRange (counts_of s) x y → (StepsFit s work1 work2 → ⊥) → RefusedWith (steps_questions s x y work1 work2) 11
  refused_11 a b h = refused_then (policy_questions s) later 11 a.it (inr (b, inl (h, refl)))

  pub policy_first : (k : ℕ) → RefusedWith (policy_questions s) k → RefusedWith (steps_questions s x y work1 work2) k
  policy_first k r = refused_first (policy_questions s) later k r

pub users_accepted : Accepted two_users
unfolding counts_of record_count record_of policy_head payload_of decoded use_of
users_accepted = accepted refl refl refl refl refl refl refl

constrained_accepted : Accepted weir_constrained
unfolding counts_of record_count record_of policy_head payload_of decoded use_of
constrained_accepted = accepted refl refl refl refl refl refl refl

apart_accepted : Accepted weir_apart
unfolding counts_of record_count record_of policy_head payload_of decoded use_of
apart_accepted = accepted refl refl refl refl refl refl refl

module _ {s : List ℕ} {work : ℕ} (a : Accepted s) (f : StepsFit s work work) where
  pub are : (x y : Context) {m : ℕ} {l : List ℕ} → BothInRange (counts_of s) x y → Shows (FlowPath (policy_of s) x y) m l l → NoneShorter (policy_of s) x y m
      → StepsAre s x y work m
  are x y b h n = record { asked = passed s x y work work a b f; some = shown_some (policy_of s) x y h; least = n }

  pub none : (x y : Context) → BothInRange (counts_of s) x y → NoFlowPath (policy_of s) x y → NoSteps s x y work
  none x y b n = record { asked = passed s x y work work a b f; none = n }

-- THE FIFTH THEOREM: least steps from the definitions
pub steps_cases : StepsCases
unfolding counts_of record_count
steps_cases =
    record {
      three = are weir_accepted (omega arith) (at 1 1 1) (at 4 2 1) (omega arith) paths.three_shown paths.three_least;
      three_path = paths.three_path;
      one = are weir41_accepted (omega arith) (at 1 1 1) (at 4 2 1) (omega arith) paths.one_shown paths.one_least;
      longer_too = shown_some (policy_of weir_allow41) (at 1 1 1) (at 4 2 1) paths.longer_shown;
      itself = are weir_accepted (omega arith) (at 1 1 1) (at 1 1 1) (omega arith) paths.itself_shown (paths.none_below_0 (policy_of weir) (at 1 1 1) (at 1 1 1));
      itself_path = paths.itself_path;
      back = none weir_accepted (omega arith) (at 4 2 1) (at 1 1 1) (omega arith) paths.back_none;
      read_in = are weir_accepted (omega arith) (at 1 1 1) (at 2 2 1) (omega arith) paths.read_in_shown paths.read_in_least;
      read_out = none weir_accepted (omega arith) (at 2 2 1) (at 1 1 1) (omega arith) paths.read_out_none;
      readers_one = are readers_accepted (omega arith) (at 2 3 1) (at 1 2 1) (omega arith) paths.readers_shown paths.readers_least;
      readers_path = paths.readers_path;
      readers_back = none readers_accepted (omega arith) (at 1 2 1) (at 2 3 1) (omega arith) paths.readers_none;
      rho_itself = none weir_accepted (omega arith) (at 3 2 1) (at 3 2 1) (omega arith) (paths.rho_from_none (at 3 2 1));
      rho_from = none weir_accepted (omega arith) (at 3 2 1) (at 4 2 1) (omega arith) (paths.rho_from_none (at 4 2 1));
      rho_to = none weir_accepted (omega arith) (at 2 2 1) (at 3 2 1) (omega arith) paths.rho_to_none;
      rho_met_from = are weir_accepted (omega arith) (at 3 1 1) (at 4 2 1) (omega arith) paths.rho_from_shown paths.rho_from_least;
      rho_met_to = are weir_accepted (omega arith) (at 2 2 1) (at 3 1 1) (omega arith) paths.rho_to_shown paths.rho_to_least;
      mu_itself = none users_accepted (omega arith) (at 2 2 2) (at 2 2 2) (omega arith) (paths.mu_from_none (at 2 2 2));
      mu_from = none users_accepted (omega arith) (at 2 2 2) (at 1 1 1) (omega arith) (paths.mu_from_none (at 1 1 1));
      mu_to = none users_accepted (omega arith) (at 1 1 2) (at 2 2 2) (omega arith) paths.mu_to_none;
      mu_met_from = are users_accepted (omega arith) (at 2 2 1) (at 1 1 1) (omega arith) paths.mu_from_shown paths.mu_from_least;
      mu_met_to = are users_accepted (omega arith) (at 1 1 2) (at 2 2 1) (omega arith) paths.mu_to_shown paths.mu_to_least;
      constrained = are constrained_accepted (omega arith) (at 1 1 1) (at 4 2 1) (omega arith) paths.constrained_shown paths.constrained_least;
      apart = none apart_accepted (omega arith) (at 1 1 1) (at 4 2 1) (omega arith) paths.apart_none;
      policy_first = policy_first;
      six_before_13 = policy_first no_root (at 0 0 0) (at 0 0 0) 0 0 6 root_zero.it;
      fourteen_before_13 = λ x y work1 work2. policy_first weir_allow31 x y work1 work2 14 w9_refused.it;
      first_13 = λ work1 work2. refused_13 weir (at 5 1 1) (at 4 2 1) work1 work2 weir_accepted (λ h. omega arith);
      second_13 = λ work1 work2. refused_13 weir (at 1 1 1) (at 5 2 1) work1 work2 weir_accepted (λ h. omega arith);
      first_11 = λ work. refused_11 weir (at 1 1 1) (at 4 2 1) 7 work weir_accepted (omega arith) (λ h. omega arith);
      second_11 = λ work. refused_11 weir (at 1 1 1) (at 4 2 1) work 7 weir_accepted (omega arith) (λ h. omega arith);
      users_first_11 = λ work. refused_11 two_users (at 2 2 1) (at 1 1 1) 7 work users_accepted (omega arith) (λ h. omega arith);
      users_second_11 = λ work. refused_11 two_users (at 2 2 1) (at 1 1 1) work 7 users_accepted (omega arith) (λ h. omega arith);
    }

-- ---- the numbers that the call gives
pub refuses : {k : ℕ} (s : List ℕ) (x y : Context) (work1 work2 : ℕ) → RefusedWith (steps_questions s x y work1 work2) k → RefusesSteps s x y work1 work2 k
refuses {k} s x y work1 work2 h b a n G =
    let r = refused_steps s x y work1 work2 b a k G.answer h G.promised in
    (G.number ∙ r.0, r.1)

module _ {s : List ℕ} {x y : Context} {work : ℕ} where
  pub says_none : NoSteps s x y work → SaysNone s x y work
  says_none h b a n G =
      let r = given s x y work work b a (Ok None) G.answer (h.asked, h.none) G.promised in
      (G.number ∙ ap steps_number r.0, r.1.2)

  pub says_steps : {m : ℕ} → StepsAre s x y work m → SaysSteps s x y work m
  says_steps {m} h =
      record {
        room = λ b a n room G.
            let r = given s x y work work b a (Ok (Some m)) G.answer (h.asked, h.some, h.least, room) G.promised in
            (G.number ∙ ap steps_number r.0, r.1.2);
        no_room = λ b a n short G.
            let r = given s x y work work b a (Err (unanswered.NoRoom m)) G.answer (h.asked, h.some, h.least, short) G.promised in
            let q = G.number ∙ ap steps_number r.0 in
            (omega arith, r.1.4);
      }

three_printed : (before after : List ℕ) (n : ℕ) → 7 ≤ length before → GivesSteps weir (at 1 1 1) (at 4 2 1) 8 8 before after n → PrintsThree before after
three_printed before after n room G =
    let h = ((says_steps steps_cases.three).room before after n room G).1 in
    let q = paths.three_path (contexts_in after) (events_in after) h.path in
    record {
      whole = h.whole;
      x0 = q.0;
      e0 = q.1;
      x1 = q.2;
      e1 = q.3;
      x2 = q.4;
      e2 = q.5;
      x3 = q.6;
      rest = h.rest;
    }

itself_printed : (before after : List ℕ) (n : ℕ) → 1 ≤ length before → GivesSteps weir (at 1 1 1) (at 1 1 1) 8 8 before after n → PrintsOne before after
itself_printed before after n room G =
    let h = ((says_steps steps_cases.itself).room before after n room G).1 in
    record { whole = h.whole; x0 = paths.itself_path (contexts_in after) (events_in after) h.path; rest = h.rest }

-- THE SIXTH THEOREM: the same of the call
pub steps_called : StepsCalled
steps_called =
    record {
      three = says_steps steps_cases.three;
      three_path = three_printed;
      one = says_steps steps_cases.one;
      itself = says_steps steps_cases.itself;
      itself_path = itself_printed;
      back = says_none steps_cases.back;
      read_in = says_steps steps_cases.read_in;
      read_out = says_none steps_cases.read_out;
      readers_one = says_steps steps_cases.readers_one;
      readers_back = says_none steps_cases.readers_back;
      rho_itself = says_none steps_cases.rho_itself;
      rho_from = says_none steps_cases.rho_from;
      rho_to = says_none steps_cases.rho_to;
      rho_met_from = says_steps steps_cases.rho_met_from;
      rho_met_to = says_steps steps_cases.rho_met_to;
      mu_itself = says_none steps_cases.mu_itself;
      mu_from = says_none steps_cases.mu_from;
      mu_to = says_none steps_cases.mu_to;
      mu_met_from = says_steps steps_cases.mu_met_from;
      mu_met_to = says_steps steps_cases.mu_met_to;
      constrained = says_steps steps_cases.constrained;
      apart = says_none steps_cases.apart;
      policy_first = λ s x y work1 work2 k r. refuses s x y work1 work2 (policy_first s x y work1 work2 k r);
      six_before_13 = refuses no_root (at 0 0 0) (at 0 0 0) 0 0 steps_cases.six_before_13;
      first_13 = λ work1 work2. refuses weir (at 5 1 1) (at 4 2 1) work1 work2 (steps_cases.first_13 work1 work2);
      second_13 = λ work1 work2. refuses weir (at 1 1 1) (at 5 2 1) work1 work2 (steps_cases.second_13 work1 work2);
      first_11 = λ work. refuses weir (at 1 1 1) (at 4 2 1) 7 work (steps_cases.first_11 work);
      second_11 = λ work. refuses weir (at 1 1 1) (at 4 2 1) work 7 (steps_cases.second_11 work);
      users_first_11 = λ work. refuses two_users (at 2 2 1) (at 1 1 1) 7 work (steps_cases.users_first_11 work);
      users_second_11 = λ work. refuses two_users (at 2 2 1) (at 1 1 1) work 7 (steps_cases.users_second_11 work);
    }
