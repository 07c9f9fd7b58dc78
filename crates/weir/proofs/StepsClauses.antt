-- Every clause of the promise of least steps is needed, and every field of what it rests on.
use Prim.Native.Nat.{ℕ, suc, ◌+◌, ◌*◌, ◌≤◌, ◌<◌}
use mathlib.Core.List.{List, [], ◌∷◌}
use mathlib.Core.Path.{◌≡◌, refl, sym, subst}
use native.Mathlib.Decide.{dec_lt}
use native.Mathlib.Nat.{le_refl}
use native.Mathlib.Omega.{arith}
use lib.Dec.{T}
use lib.ListN.{length, get_or-eq_default}
use Rattle.base.specs.Refusals.{question_number}
use Rattle.base.specs.Questions.{RefusedWith}
use Rattle.base.proofs.QuestionLaws.{passed_not_refused}
use Rattle.policy_image.specs.Layout.{counts_of, record_count}
use Rattle.policy_image.specs.Policy.{policy_of}
use Rattle.policy_image.specs.Cases.Weir.{weir}
use Rattle.policy_check.proofs.Cases.{weir_accepted}
use Rattle.context.specs.declared.Context.{Context}
use Rattle.context.specs.Codes.{context_at as at}
use Rattle.paths.specs.Slice.{contexts_in, events_in}
use Rattle.goal_model.specs.Images.{in_range, meetsρμ}
use Rattle.goal_model.proofs.Cover.{context, step}
use Rattle.least_steps.specs.LeastSteps.{SomeFlowPath, steps_questions}
use Rattle.weir.specs.Cases.StepsPolicies.{weir_apart}
use Rattle.weir.specs.Cases.Clauses.{short, long, from_three, zeros, more_zeros}
use Rattle.weir.specs.Cases.StepsClauses.{wrong_event, other_user, long_then, ContextsThere, FlowsThere, PathThere, StepsClauses}
use Rattle.weir.proofs.Clauses.{changed}
use Rattle.weir.proofs.Shown.{every_at, behind}
use Rattle.weir.proofs.Walks.{flow_path_by}
use Rattle.weir.proofs.StepsPaths as paths
use Rattle.weir.proofs.StepsPaths.{computed}
use Rattle.weir.proofs.Steps.{refused_11, steps_cases, steps_called}

-- ---- a slice that is a path is some path
some_of : (s : List ℕ) (m : ℕ) (slice : List ℕ) (x y : Context) → PathThere s m slice x y → SomeFlowPath (policy_of s) x y m
some_of s m slice x y P = record { c = contexts_in slice; e = events_in slice; path = P }

-- the three steps with an entry behind them are a path of 3 steps
then_path : (n : ℕ) → PathThere weir 3 (long_then n) (at 1 1 1) (at 4 2 1)
unfolding computed
then_path n = flow_path_by (policy_of weir) (at 1 1 1) (at 4 2 1) 3 (contexts_in (long_then n)) (events_in (long_then n)) refl refl tt

-- ---- the fields, by computing
no_flows : (s slice : List ℕ) → FlowsThere s 0 slice
no_flows s slice j h = absurd (omega arith)

short_contexts : ContextsThere weir 1 short
unfolding computed
short_contexts j h = every_at 2 (λ j. context (policy_of weir) (contexts_in short j)) tt j (omega arith)

one_context : ContextsThere weir 0 (273 ∷ [])
unfolding computed
one_context j h = every_at 1 (λ j. context (policy_of weir) (contexts_in (273 ∷ []) j)) tt j (omega arith)

failing_context : ContextsThere weir 0 (801 ∷ [])
unfolding computed
failing_context j h = every_at 1 (λ j. context (policy_of weir) (contexts_in (801 ∷ []) j)) tt j (omega arith)

other_flows : FlowsThere weir_apart 3 other_user
unfolding computed
other_flows j h = every_at 3 (λ j. step (policy_of weir_apart) (contexts_in other_user j) (events_in other_user j) (contexts_in other_user (suc j))) tt j h

apart_meets : T (meetsρμ (policy_of weir_apart) (at 1 1 1))
unfolding computed
apart_meets = tt

-- ---- what stands behind a slice is 0, which is no context
zero_out : (s : List ℕ) → T (context (policy_of s) 0) → ⊥
unfolding in_range
zero_out s t = t

room_follows : (s : List ℕ) (x y : Context) (m : ℕ) (before after : List ℕ) → length after ≡ length before → PathThere s m after x y → 2 * m + 1 ≤ length before
room_follows s x y m before after e P = go (dec_lt (2 * m) (length before))
  where
    go : Dec (2 * m < length before) → 2 * m + 1 ≤ length before
    go (yes h) = omega arith
    go (no h) =
        absurd (zero_out s (subst (λ (a : ℕ). T (context (policy_of s) a)) (get_or-eq_default after 0 (omega arith)) (P.contexts m (le_refl m))))

-- 7 entries in the second work slice are not enough for the way back either
back_refused : RefusedWith (steps_questions weir (at 4 2 1) (at 1 1 1) 8 7) 11
unfolding counts_of record_count
back_refused = refused_11 weir (at 4 2 1) (at 1 1 1) 8 7 weir_accepted (omega arith) (λ h. omega arith)

-- THE SEVENTH THEOREM
pub steps_clauses : StepsClauses
unfolding counts_of record_count
steps_clauses =
    let there = steps_cases.three in
    let back = steps_cases.back in
    let nearer = steps_cases.one in
    record {
      none_asked =
          record { hold = (back.none, refl); rejected = λ p. passed_not_refused (steps_questions weir (at 4 2 1) (at 1 1 1) 8 7) 11 p.0 back_refused };
      none_path = record { hold = (there.asked, refl); rejected = λ p. p.1 3 there.some };
      none_unchanged = record { hold = (back.asked, back.none); rejected = λ p. changed (sym p.2) };
      shown_asked =
          record {
            hold = (there.least, paths.three_shown);
            rejected = λ p. passed_not_refused (steps_questions weir (at 1 1 1) (at 4 2 1) 7 8) 11 p.0 (steps_cases.first_11 8);
          };
      shown_least = record { hold = (nearer.asked, paths.longer_shown); rejected = λ p. p.1 1 (omega arith) nearer.some };
      shown_path =
          record {
            hold = (there.asked, there.least);
            rejected = λ p. let z : ◌≡◌ {A = ℕ} 0 273 = (paths.three_path (contexts_in more_zeros) (events_in more_zeros) p.2.path).0 in omega arith;
          };
      refused_first = λ r. record {
        hold = refl;
        rejected = λ p. passed_not_refused (steps_questions weir (at 1 1 1) (at 4 2 1) 8 8) (question_number r) there.asked p.0;
      };
      refused_unchanged = record { hold = steps_cases.first_11 8; rejected = λ p. changed (sym p.1) };
      no_room_asked =
          record {
            hold = (there.some, there.least, omega arith, refl);
            rejected = λ p. passed_not_refused (steps_questions weir (at 1 1 1) (at 4 2 1) 7 8) 11 p.0 (steps_cases.first_11 8);
          };
      no_room_some = record { hold = (back.asked, (λ k h. back.none k), omega arith, refl); rejected = λ p. back.none 3 p.1 };
      no_room_least = record { hold = (nearer.asked, steps_cases.longer_too, omega arith, refl); rejected = λ p. p.2 1 (omega arith) nearer.some };
      no_room_short = record { hold = (there.asked, there.some, there.least, refl); rejected = λ p. let h = p.3 in omega arith };
      no_room_unchanged = record { hold = (there.asked, there.some, there.least, omega arith); rejected = λ p. changed (sym p.4) };
      number_promised =
          record { hold = refl; rejected = λ N. let z = (steps_called.three.no_room zeros zeros 0 (omega arith) N).0 in omega arith };
      number_told = record { hold = (back.asked, back.none, refl); rejected = λ N. let z = (steps_called.back zeros zeros 1 N).0 in omega arith };
      shows_whole =
          record {
            hold = (omega arith, behind long more_zeros refl, then_path 0);
            rejected = λ s. let z : ◌≡◌ {A = ℕ} 8 7 = s.whole in omega arith;
          };
      shows_rest =
          record { hold = (omega arith, refl, then_path 8); rejected = λ s. let z : ◌≡◌ {A = ℕ} 8 7 = s.rest 7 (omega arith) in omega arith };
      shows_path =
          record {
            hold = (omega arith, refl, λ i h. refl);
            rejected = λ s. let z : ◌≡◌ {A = ℕ} 65 64 = (paths.three_path (contexts_in wrong_event) (events_in wrong_event) s.path).5 in omega arith;
          };
      shows_room = room_follows;
      path_contexts =
          record {
            hold = (other_flows, refl, refl, apart_meets);
            rejected = λ P. steps_cases.apart.none 3 (some_of weir_apart 3 other_user (at 1 1 1) (at 4 2 1) P);
          };
      path_flows =
          record {
            hold = (short_contexts, refl, refl, (paths.three_shown).path.meets);
            rejected = λ P. there.least 1 (omega arith) (some_of weir 1 short (at 1 1 1) (at 4 2 1) P);
          };
      path_from =
          record {
            hold = ((paths.rho_from_shown).path.contexts, (paths.rho_from_shown).path.flows, refl, (paths.three_shown).path.meets);
            rejected = λ P. there.least 1 (omega arith) (some_of weir 1 from_three (at 1 1 1) (at 4 2 1) P);
          };
      path_to =
          record {
            hold = (one_context, no_flows weir (273 ∷ []), refl, (paths.three_shown).path.meets);
            rejected = λ P. there.least 0 (omega arith) (some_of weir 0 (273 ∷ []) (at 1 1 1) (at 4 2 1) P);
          };
      path_meets =
          record {
            hold = (failing_context, no_flows weir (801 ∷ []), refl, refl);
            rejected = λ P. steps_cases.rho_itself.none 0 (some_of weir 0 (801 ∷ []) (at 3 2 1) (at 3 2 1) P);
          };
      some_path = back.none;
      range_first = record { hold = omega arith; rejected = λ h. omega arith };
      range_second = record { hold = omega arith; rejected = λ h. omega arith };
      fit_first = record { hold = omega arith; rejected = λ h. omega arith };
      fit_second = record { hold = omega arith; rejected = λ h. omega arith };
    }
