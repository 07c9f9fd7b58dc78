-- Every clause of the outward promises is needed.
use Prim.Native.Nat.{ℕ}
use mathlib.Core.Bool.{true, false}
use mathlib.Core.List.{List, [], ◌∷◌}
use mathlib.Core.Logic.{inl}
use mathlib.Core.Path.{◌≡◌, refl, sym, ap, subst}
use native.Mathlib.Omega.{arith}
use lib.Dec.{T}
use lib.ListN.{get_or}
use Rattle.std.proofs.Common.{Ok}
use Rattle.base.specs.Numbers.{Numbered}
use Rattle.base.specs.Bits.{bit}
use Rattle.base.specs.Questions.{RefusedWith}
use Rattle.base.proofs.QuestionLaws.{passed_not_refused}
use Rattle.policy_image.specs.Layout.{counts_of, record_count, record_of, payload_of, decoded}
use Rattle.policy_image.specs.Policy.{policy_of}
use Rattle.policy_image.specs.OfKind.{some, every}
use Rattle.policy_image.specs.Cases.Weir.{weir}
use Rattle.policy_check.proofs.Cases.{weir_accepted}
use Rattle.context.specs.Codes.{context_at as at, event_at as event}
use Rattle.policy_sources.specs.Sources.{domain}
use Rattle.relations.specs.Relations.{Γ, write_like, read_like, allowed, α, ρ, μ, role_change}
use Rattle.constraints.specs.Constraints.{constraints_hold}
use Rattle.access.specs.Authorization.{χ, role_rule, authorized, flow}
use Rattle.goal_image.specs.Layout.{legs_of, flags_of, goal_count, goal_head, next_of, context_record_of, event_record_of}
use Rattle.goal_image.specs.Goal.{goal_of}
use Rattle.goal_image.specs.Sets.{context_in, event_in}
use Rattle.goal_image.specs.Cases.WeirGoal.{goal_g}
use Rattle.paths.specs.Paths.{IsPath, BreaksOrder, BreaksEvents, SomeOrder, OrderAt, EventsAt}
use Rattle.paths.specs.Slice.{contexts_in, events_in, Shows}
use Rattle.paths.proofs.Decide.{order_by, events_by}
use Rattle.paths.proofs.Monitors.{order_verdict, events_verdict}
use Rattle.goal_model.specs.Images.{in_range, meetsρμ, model}
use Rattle.goal_model.specs.Cases.OwnGoals.{write_only}
use Rattle.goal_model.proofs.Cover.{finite}
use Rattle.std.specs.Prelude.{Result, Err}
use Rattle.witness.specs.declared.unanswered.Unanswered.{Unanswered}
use Rattle.witness.specs.declared.unanswered.Unanswered.TheVariants as unanswered
use Rattle.goal_question.specs.declared.goal.Outcome.{Outcome}
use Rattle.goal_question.specs.declared.goal.Outcome.TheVariants as outcome
use Rattle.bare_questions.specs.Bare.{bare_questions, AuthorizationAnswer, number_of}
use Rattle.goal_question.specs.GoalQuestion.{all_questions, GoalPromise, outcome_number}
use Rattle.bare_questions.proofs.BareLaws.{one_answer}
use Rattle.bare_questions.proofs.Cases.{reads, reads_not, not_always_yes, not_always_no, second_user_2, not_refusing as never_refused}
use Rattle.goal_question.proofs.GoalLaws.{order_one, events_one, least_one, either, one_outcome}
use Rattle.weir.specs.Cases.Goals.{weir_allow41}
use Rattle.weir.specs.Cases.Wrong.{no_middle, no_events, two_starts, either_end}
use Rattle.weir.specs.Cases.Clauses.{short, long, from_three, no_step, zeros, more_zeros, Clauses}
use Rattle.weir.proofs.Accepted.{weir41_accepted, g41_accepted, write_only_accepted, refused_11, work41_length, write_only_length, w1_enough, w2_enough, w5_enough, no_middle_enough, no_events_enough, two_starts_enough, either_end_enough}
use Rattle.weir.proofs.Answers.{steps41, covers41, w1, w2, w5}
use Rattle.weir.proofs.Theorem.{w12_first, w5_slice}
use Rattle.weir.proofs.Shown.{behind, path_by, shows_by}
use Rattle.weir.proofs.StandIns.{not_always_holds, not_refusing, not_unsearched, not_other_room, not_events_on_tie, not_one_slice}

-- ---- the answers of the goals
no_middle_at : OrderAt (model weir_allow41 no_middle) 1
unfolding in_range meetsρμ flow authorized χ role_rule constraints_hold domain Γ write_like read_like allowed α ρ μ role_change some every bit counts_of record_count record_of payload_of decoded legs_of flags_of goal_count goal_head next_of context_record_of event_record_of context_in event_in
no_middle_at = order_by (model weir_allow41 no_middle) (finite (policy_of weir_allow41) steps41 covers41 (goal_of no_middle)) 1 tt

no_events_at : EventsAt (model weir_allow41 no_events) 1
unfolding in_range meetsρμ flow authorized χ role_rule constraints_hold domain Γ write_like read_like allowed α ρ μ role_change some every bit counts_of record_count record_of payload_of decoded legs_of flags_of goal_count goal_head next_of context_record_of event_record_of context_in event_in
no_events_at = events_by (model weir_allow41 no_events) (finite (policy_of weir_allow41) steps41 covers41 (goal_of no_events)) 1 tt

two_starts_at : OrderAt (model weir_allow41 two_starts) 1
unfolding in_range meetsρμ flow authorized χ role_rule constraints_hold domain Γ write_like read_like allowed α ρ μ role_change some every bit counts_of record_count record_of payload_of decoded legs_of flags_of goal_count goal_head next_of context_record_of event_record_of context_in event_in
two_starts_at = order_by (model weir_allow41 two_starts) (finite (policy_of weir_allow41) steps41 covers41 (goal_of two_starts)) 1 tt

either_end_at : EventsAt (model weir_allow41 either_end) 1
unfolding in_range meetsρμ flow authorized χ role_rule constraints_hold domain Γ write_like read_like allowed α ρ μ role_change some every bit counts_of record_count record_of payload_of decoded legs_of flags_of goal_count goal_head next_of context_record_of event_record_of context_in event_in
either_end_at = events_by (model weir_allow41 either_end) (finite (policy_of weir_allow41) steps41 covers41 (goal_of either_end)) 1 tt

-- ---- the slices, each shown to be a path
short_path : Shows (IsPath (model weir_allow41 goal_g)) 1 short short
unfolding in_range meetsρμ flow authorized χ role_rule constraints_hold domain Γ write_like read_like allowed α ρ μ role_change some every bit counts_of record_count record_of payload_of decoded legs_of flags_of goal_count goal_head next_of context_record_of event_record_of context_in event_in
short_path = shows_by (model weir_allow41 goal_g) 1 short (omega arith) tt

longer_path : IsPath (model weir_allow41 goal_g) 1 (contexts_in (273 ∷ 64 ∷ 1057 ∷ 0 ∷ [])) (events_in (273 ∷ 64 ∷ 1057 ∷ 0 ∷ []))
unfolding in_range meetsρμ flow authorized χ role_rule constraints_hold domain Γ write_like read_like allowed α ρ μ role_change some every bit counts_of record_count record_of payload_of decoded legs_of flags_of goal_count goal_head next_of context_record_of event_record_of context_in event_in
longer_path = path_by (model weir_allow41 goal_g) 1 (contexts_in (273 ∷ 64 ∷ 1057 ∷ 0 ∷ [])) (events_in (273 ∷ 64 ∷ 1057 ∷ 0 ∷ [])) tt

changed_path : IsPath (model weir_allow41 goal_g) 1 (contexts_in (273 ∷ 64 ∷ 1057 ∷ 8 ∷ [])) (events_in (273 ∷ 64 ∷ 1057 ∷ 8 ∷ []))
unfolding in_range meetsρμ flow authorized χ role_rule constraints_hold domain Γ write_like read_like allowed α ρ μ role_change some every bit counts_of record_count record_of payload_of decoded legs_of flags_of goal_count goal_head next_of context_record_of event_record_of context_in event_in
changed_path = path_by (model weir_allow41 goal_g) 1 (contexts_in (273 ∷ 64 ∷ 1057 ∷ 8 ∷ [])) (events_in (273 ∷ 64 ∷ 1057 ∷ 8 ∷ [])) tt

no_middle_path : Shows (IsPath (model weir_allow41 no_middle)) 3 long long
unfolding in_range meetsρμ flow authorized χ role_rule constraints_hold domain Γ write_like read_like allowed α ρ μ role_change some every bit counts_of record_count record_of payload_of decoded legs_of flags_of goal_count goal_head next_of context_record_of event_record_of context_in event_in
no_middle_path = shows_by (model weir_allow41 no_middle) 3 long (omega arith) tt

no_events_path : Shows (IsPath (model weir_allow41 no_events)) 3 long long
unfolding in_range meetsρμ flow authorized χ role_rule constraints_hold domain Γ write_like read_like allowed α ρ μ role_change some every bit counts_of record_count record_of payload_of decoded legs_of flags_of goal_count goal_head next_of context_record_of event_record_of context_in event_in
no_events_path = shows_by (model weir_allow41 no_events) 3 long (omega arith) tt

write_only_path : Shows (IsPath (model weir write_only)) 3 long long
unfolding in_range meetsρμ flow authorized χ role_rule constraints_hold domain Γ write_like read_like allowed α ρ μ role_change some every bit counts_of record_count record_of payload_of decoded legs_of flags_of goal_count goal_head next_of context_record_of event_record_of context_in event_in
write_only_path = shows_by (model weir write_only) 3 long (omega arith) tt

two_starts_path : Shows (IsPath (model weir_allow41 two_starts)) 1 from_three from_three
unfolding in_range meetsρμ flow authorized χ role_rule constraints_hold domain Γ write_like read_like allowed α ρ μ role_change some every bit counts_of record_count record_of payload_of decoded legs_of flags_of goal_count goal_head next_of context_record_of event_record_of context_in event_in
two_starts_path = shows_by (model weir_allow41 two_starts) 1 from_three (omega arith) tt

either_end_path : Shows (IsPath (model weir_allow41 either_end)) 1 short short
unfolding in_range meetsρμ flow authorized χ role_rule constraints_hold domain Γ write_like read_like allowed α ρ μ role_change some every bit counts_of record_count record_of payload_of decoded legs_of flags_of goal_count goal_head next_of context_record_of event_record_of context_in event_in
either_end_path = shows_by (model weir_allow41 either_end) 1 short (omega arith) tt

-- ---- what they break
short_order : BreaksOrder (model weir_allow41 goal_g) 1 (contexts_in short)
unfolding bit legs_of goal_count goal_head next_of context_record_of context_in
short_order = (order_verdict (model weir_allow41 goal_g) (omega arith) (contexts_in short) (events_in short) 1).0 tt

short_events : BreaksEvents (model weir_allow41 goal_g) 1 (contexts_in short) (events_in short)
unfolding bit legs_of flags_of goal_count goal_head next_of context_record_of event_record_of context_in event_in
short_events = (events_verdict (model weir_allow41 goal_g) (contexts_in short) (events_in short) 1 tt).0 tt

no_step_order : BreaksOrder (model weir_allow41 goal_g) 1 (contexts_in no_step)
unfolding bit legs_of goal_count goal_head next_of context_record_of context_in
no_step_order = (order_verdict (model weir_allow41 goal_g) (omega arith) (contexts_in no_step) (events_in no_step) 1).0 tt

no_middle_order : BreaksOrder (model weir_allow41 no_middle) 3 (contexts_in long)
unfolding bit legs_of goal_count goal_head next_of context_record_of context_in
no_middle_order = (order_verdict (model weir_allow41 no_middle) (omega arith) (contexts_in long) (events_in long) 3).0 tt

two_starts_keeps : BreaksOrder (model weir_allow41 two_starts) 1 (contexts_in from_three) → ⊥
unfolding bit legs_of goal_count goal_head next_of context_record_of context_in
two_starts_keeps b = (order_verdict (model weir_allow41 two_starts) (omega arith) (contexts_in from_three) (events_in from_three) 1).1 b

no_events_events : BreaksEvents (model weir_allow41 no_events) 3 (contexts_in long) (events_in long)
unfolding bit legs_of flags_of goal_count goal_head next_of context_record_of event_record_of context_in event_in
no_events_events = (events_verdict (model weir_allow41 no_events) (contexts_in long) (events_in long) 3 tt).0 tt

-- no goal of one leg breaks order
no_events_order : SomeOrder (model weir_allow41 no_events) 3 → ⊥
unfolding legs_of
no_events_order b = omega (arith, b.breaks.above, b.breaks.below)

write_only_events : BreaksEvents (model weir write_only) 3 (contexts_in long) (events_in long)
unfolding bit legs_of flags_of goal_count goal_head next_of context_record_of event_record_of context_in event_in
write_only_events = (events_verdict (model weir write_only) (contexts_in long) (events_in long) 3 tt).0 tt

either_end_follows : BreaksEvents (model weir_allow41 either_end) 1 (contexts_in short) (events_in short) → ⊥
unfolding bit legs_of flags_of goal_count goal_head next_of context_record_of event_record_of context_in event_in
either_end_follows b = (events_verdict (model weir_allow41 either_end) (contexts_in short) (events_in short) 1 tt).1 b

-- a slice of zeros starts in no set, and shows no path
zeros_events : BreaksEvents (model weir write_only) 3 (contexts_in more_zeros) (events_in more_zeros)
unfolding bit legs_of goal_count goal_head next_of context_record_of context_in
zeros_events f = subst (λ (i : ℕ). T ((model weir write_only).σ 0 (contexts_in more_zeros i))) f.from (f.stands 0 (omega arith))

zeros_no_path : Shows (IsPath (model weir write_only)) 3 more_zeros more_zeros → ⊥
unfolding bit legs_of goal_count goal_head next_of context_record_of context_in
zeros_no_path s = s.path.starts

-- ---- 31 entries in the first work slice are not enough for W5 and W2
w5_refused : RefusedWith (all_questions weir_allow41 goal_g 31 32) 11
w5_refused = refused_11 weir_allow41 goal_g 31 32 weir41_accepted g41_accepted (λ h. let a = h.first in let b = work41_length in omega arith)

w2_refused : RefusedWith (all_questions weir write_only 31 32) 11
w2_refused = refused_11 weir write_only 31 32 weir_accepted write_only_accepted (λ h. let a = h.first in let b = write_only_length in omega arith)

-- ---- a slice that was zeros before and shows a path after is not as it was
pub changed : zeros ≡ short → ⊥
changed e = let z : ◌≡◌ {A = ℕ} 0 273 = ap (λ (l : List ℕ). get_or l 0 0) e in omega arith

-- ---- the numbers: 0 is that of no outcome that W5 has, and 1 of none that W1 has
told : {A : Type 0} (number : A → ℕ) (n : ℕ) (r q : A) → r ≡ q → n ≡ number r → n ≡ number q
told {A} number n r q e h = subst (λ (o : A). n ≡ number o) e h

w5_not_0 : Numbered outcome_number (GoalPromise weir_allow41 goal_g 32 32 [] []) 0 → ⊥
w5_not_0 N = go N.answer N.promised N.number
  where
    go : (r : Result Outcome Unanswered) → GoalPromise weir_allow41 goal_g 32 32 [] [] r → 0 ≡ outcome_number r → ⊥
    go (Ok outcome.Holds) p q = not_always_holds [] [] p
    go (Ok (outcome.Order m)) p q = omega arith
    go (Ok (outcome.Events m)) p q = omega arith
    go (Err (unanswered.Refused k)) p q = omega arith
    go (Err (unanswered.NoRoom m)) p q = omega arith

w1_holds : GoalPromise weir goal_g 32 32 [] [] (Ok outcome.Holds)
w1_holds = ((w1_enough, w1), refl)

w1_not_1 : Numbered outcome_number (GoalPromise weir goal_g 32 32 [] []) 1 → ⊥
w1_not_1 N =
    let e = told outcome_number 1 N.answer (Ok outcome.Holds) (one_outcome weir goal_g 32 32 [] [] [] N.answer (Ok outcome.Holds) N.promised w1_holds) N.number in
    omega arith

-- ---- the bare questions
user_2_reads : authorized (policy_of weir) (event 2 0) (at 2 2 1) (at 1 1 2) ≡ true
unfolding authorized χ role_rule constraints_hold domain Γ allowed α ρ μ role_change some every bit counts_of record_count record_of payload_of decoded
user_2_reads = refl

user_2_writes_not : authorized (policy_of weir) (event 2 1) (at 2 2 1) (at 1 1 2) ≡ false
unfolding authorized χ role_rule constraints_hold domain Γ allowed α ρ μ role_change some every bit counts_of record_count record_of payload_of decoded
user_2_writes_not = refl

reads_not_1 : Numbered number_of (AuthorizationAnswer weir (at 4 2 1) (at 1 1 1) (event 2 0)) 1 → ⊥
reads_not_1 N =
    let q = one_answer weir (at 4 2 1) (at 1 1 1) (event 2 0) _ N.answer (Ok false) N.promised reads_not in
    let z = told number_of 1 N.answer (Ok false) q N.number in
    omega arith

reads_not_0 : Numbered number_of (AuthorizationAnswer weir (at 2 2 1) (at 1 1 1) (event 2 0)) 0 → ⊥
reads_not_0 N =
    let q = one_answer weir (at 2 2 1) (at 1 1 1) (event 2 0) _ N.answer (Ok true) N.promised reads in
    let z = told number_of 0 N.answer (Ok true) q N.number in
    omega arith

-- THE FOURTH THEOREM
pub clauses : Clauses
clauses =
    record {
      holds_asked = record { hold = w1; rejected = not_one_slice [] [] };
      holds_none = record { hold = w5_enough; rejected = not_always_holds [] [] };
      holds_unchanged = record { hold = (w1_enough, w1); rejected = λ p. changed (sym p.1) };
      order_asked = record { hold = (w5, short_path, short_order); rejected = λ p. passed_not_refused (all_questions weir_allow41 goal_g 31 32) 11 p.0.0 w5_refused };
      order_least =
          record {
            hold = (no_middle_enough, record { x = contexts_in long; e = events_in long; path = no_middle_path.path; breaks = no_middle_order }, no_middle_path, no_middle_order);
            rejected = λ p. let e = order_one (model weir_allow41 no_middle) 3 1 p.0.1 no_middle_at in omega arith;
          };
      order_shown =
          record {
            hold = (w5_enough, w5, no_step_order);
            rejected = λ p. let z : ◌≡◌ {A = ℕ} 65 64 = (w5_slice no_step no_step (Ok (outcome.Order 1)) (omega arith) p).e0 in omega arith;
          };
      shown_whole = record { hold = (omega arith, behind short zeros refl, longer_path); rejected = λ s. let z : ◌≡◌ {A = ℕ} 4 3 = s.whole in omega arith };
      shown_rest = record { hold = changed_path; rejected = λ s. let z : ◌≡◌ {A = ℕ} 8 7 = s.rest 3 (omega arith) in omega arith };
      order_breaks = record { hold = (two_starts_enough, two_starts_at, two_starts_path); rejected = λ p. two_starts_keeps p.2 };
      events_asked =
          record { hold = (w2, write_only_path, write_only_events); rejected = λ p. passed_not_refused (all_questions weir write_only 31 32) 11 p.0.0 w2_refused };
      events_least =
          record {
            hold = (
              no_events_enough,
              record { x = contexts_in long; e = events_in long; path = no_events_path.path; breaks = no_events_events },
              no_events_order,
              no_events_path,
              no_events_events,
            );
            rejected = λ p. let e = events_one (model weir_allow41 no_events) 3 1 p.0.1 no_events_at in omega arith;
          };
      events_no_tie =
          record {
            hold = (
              w5_enough,
              w5.0,
              record { x = contexts_in short; e = events_in short; path = short_path.path; breaks = short_events },
              short_path,
              short_events,
            );
            rejected = not_events_on_tie short short 1;
          };
      events_shown = record { hold = (w2_enough, w2, zeros_events); rejected = λ p. zeros_no_path p.1 };
      events_breaks = record { hold = (either_end_enough, either_end_at, either_end_path); rejected = λ p. either_end_follows p.2 };
      refused_first = not_refusing [] [];
      refused_unchanged = record { hold = w12_first 32; rejected = λ p. changed (sym p.1) };
      no_room_asked =
          record { hold = (inl w5, omega arith); rejected = λ p. passed_not_refused (all_questions weir_allow41 goal_g 31 32) 11 (either p.0).0 w5_refused };
      no_room_some = record { hold = (w1_enough, (λ k h. w1 k), omega arith); rejected = not_unsearched [] [] 1 };
      no_room_least =
          record {
            hold = (no_middle_enough, record { x = contexts_in long; e = events_in long; path = no_middle_path.path; breaks = no_middle_order }, omega arith);
            rejected = λ p. let e = least_one (model weir_allow41 no_middle) 3 1 (either p.0).1 (inl no_middle_at) in omega arith;
          };
      no_room_short = record { hold = (w5_enough, inl w5); rejected = λ p. let z = (not_other_room zeros zeros 1 p).1 in omega arith };
      no_room_unchanged =
          record { hold = (w5_enough, inl w5); rejected = λ p. let z : ◌≡◌ {A = ℕ} 273 0 = ap (λ (l : List ℕ). get_or l 0 0) p.2 in omega arith };
      number_promised = record { hold = w5_enough; rejected = w5_not_0 };
      number_told = record { hold = w1_holds; rejected = w1_not_1 };
      yes_asked =
          record {
            hold = user_2_reads;
            rejected = λ p. passed_not_refused (bare_questions weir (at 2 2 1) (at 1 1 2) (event 2 0)) 13 p.0 (second_user_2 0);
          };
      yes_true = record { hold = reads_not.0; rejected = not_always_yes };
      no_asked =
          record {
            hold = user_2_writes_not;
            rejected = λ p. passed_not_refused (bare_questions weir (at 2 2 1) (at 1 1 2) (event 2 1)) 13 p.0 (second_user_2 1);
          };
      no_false = record { hold = reads.0; rejected = not_always_no };
      asked_first = never_refused;
      answer_promised = record { hold = reads_not.0; rejected = reads_not_1 };
      answer_told = record { hold = reads; rejected = reads_not_0 };
    }
