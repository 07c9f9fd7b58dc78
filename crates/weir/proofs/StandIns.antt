-- Checkers that the promise of the goal question keeps out, each on a named input ("Four tests of a promise", 3, and ours).
use Prim.Native.Nat.{ℕ, zero, suc, ◌+◌, ◌*◌, ◌≤◌, ◌<◌}
use mathlib.Core.List.{List, [], ◌∷◌, ◌++◌}
use mathlib.Core.Logic.{inl, inr}
use mathlib.Core.Path.{◌≡◌, refl, sym, ap, subst}
use native.Mathlib.Omega.{arith}
use lib.ListN.{length, get_or}
use Rattle.base.specs.Questions.{ask}
use Rattle.base.proofs.QuestionLaws.{passed_not_refused, passed_then, one_number}
use Rattle.policy_image.specs.Layout.{counts_of}
use Rattle.policy_image.specs.Cases.Weir.{weir}
use Rattle.policy_check.specs.Questions.{policy_questions}
use Rattle.policy_check.proofs.Cases.{weir_accepted}
use Rattle.goal_image.specs.Cases.WeirGoal.{goal_g}
use Rattle.goal_image.specs.Questions.{goal_questions}
use Rattle.paths.specs.Slice.{contexts_in, events_in}
use Rattle.goal_model.specs.Images.{model}
use Rattle.std.specs.Prelude.{Result, Ok, Err}
use Rattle.base.specs.declared.refusals.Refusal.{Refusal}
use Rattle.base.specs.declared.refusals.Refusal.TheVariants as refusal
use Rattle.base.specs.Refusals.{question_number}
use Rattle.witness.specs.declared.unanswered.Unanswered.{Unanswered}
use Rattle.witness.specs.declared.unanswered.Unanswered.TheVariants as unanswered
use Rattle.witness.specs.Unanswered.{unanswered_number}
use Rattle.base.proofs.RefusalLaws.{same_number}
use Rattle.goal_question.specs.declared.goal.Outcome.{Outcome}
use Rattle.goal_question.specs.declared.goal.Outcome.TheVariants as outcome
use Rattle.goal_question.specs.GoalQuestion.{WorkFits, all_questions, GoalPromise, outcome_number}
use Rattle.goal_question.proofs.GoalLaws.{order_one, not_both, not_holds_order, not_holds_events, not_holds, least_one, either}
use Rattle.goal_model.specs.Cases.OwnGoals.{write_only}
use Rattle.weir.specs.Cases.Goals.{weir_allow41}
use Rattle.weir.proofs.Answers.{w1, w2, w5, w2_path}
use Rattle.weir.proofs.Accepted.{w1_enough, w2_enough, refused_11, g_accepted, work_length_lem}
use Rattle.weir.proofs.Called.{refused_among, events_only}
use Rattle.weir.proofs.Theorem.{w12_second, w5_slice}

-- what may be said of W5's input
abbrev W5 : List ℕ → List ℕ → Result Outcome Unanswered → Type 0
W5 before after r = GoalPromise weir_allow41 goal_g 32 32 before after r

-- "a checker saying 'holds' always"
pub not_always_holds : (before after : List ℕ) → W5 before after (Ok outcome.Holds) → ⊥
not_always_holds before after p = not_holds_order (model weir_allow41 goal_g) 1 p.0.1 w5

-- "one always naming the same path", or giving any one answer: W5 and W2 have none in common
pub not_always_same : (b a b' a' : List ℕ) (r : Result Outcome Unanswered) → W5 b a r → GoalPromise weir write_only 32 32 b' a' r → ⊥
not_always_same b a b' a' (Ok outcome.Holds) p q = not_holds_order (model weir_allow41 goal_g) 1 p.0.1 w5
not_always_same b a b' a' (Ok (outcome.Order m)) p q = not_both (model weir write_only) m 3 q.0.1 w2
not_always_same b a b' a' (Ok (outcome.Events m)) p q = not_both (model weir_allow41 goal_g) 1 m w5 p.0.1
not_always_same b a b' a' (Err (unanswered.Refused k)) p q = passed_not_refused (all_questions weir write_only 32 32) (question_number k) w2_enough q.0
not_always_same b a b' a' (Err (unanswered.NoRoom m)) p q =
    let x = least_one (model weir_allow41 goal_g) m 1 (either p.0).1 (inl w5) in
    let y = least_one (model weir write_only) m 3 (either q.0).1 (inr w2) in
    omega arith

-- "or one leaving the path slice untouched"
pub not_untouched : (r : Result Outcome Unanswered) → W5 (0 ∷ 0 ∷ 0 ∷ []) (0 ∷ 0 ∷ 0 ∷ []) r → ⊥
not_untouched r p = let s = w5_slice (0 ∷ 0 ∷ 0 ∷ []) (0 ∷ 0 ∷ 0 ∷ []) r (omega arith) p in let z : ◌≡◌ {A = ℕ} 0 273 = s.x0 in omega arith

-- "one refusing all"
pub not_refusing : (before after : List ℕ) (r : Refusal) → GoalPromise weir goal_g 32 32 before after (Err (unanswered.Refused r)) → ⊥
not_refusing before after r p = passed_not_refused (all_questions weir goal_g 32 32) (question_number r) w1_enough p.0

-- "one following only the first leg": it would let W2 pass, whose leg 0 is done and whose leg 1 is not
pub not_first_leg : (before after : List ℕ) → GoalPromise weir write_only 32 32 before after (Ok outcome.Holds) → ⊥
not_first_leg before after p = not_holds_events (model weir write_only) 3 p.0.1 w2

-- "one inventing m": any other count, of either sort, or a path that is longer than need be
pub not_invented : (before after : List ℕ) (m : ℕ) → W5 before after (Ok (outcome.Order m)) → m ≡ 1
not_invented before after m p = order_one (model weir_allow41 goal_g) m 1 p.0.1 w5

-- "one giving 12 unsearched": not where the goal holds, not with another count, and not where there is room
pub not_unsearched : (before after : List ℕ) (m : ℕ) → GoalPromise weir goal_g 32 32 before after (Err (unanswered.NoRoom m)) → ⊥
not_unsearched before after m p = not_holds (model weir goal_g) m w1 (either p.0).1

pub not_other_room : (before after : List ℕ) (m : ℕ) → W5 before after (Err (unanswered.NoRoom m)) → (m ≡ 1) × (length before < 3)
not_other_room before after m p =
    let e = least_one (model weir_allow41 goal_g) m 1 (either p.0).1 (inl w5) in
    let l = p.1 in
    (e, omega arith)

-- events on a tie: W5's path breaks both
pub not_events_on_tie : (before after : List ℕ) (m : ℕ) → W5 before after (Ok (outcome.Events m)) → ⊥
not_events_on_tie before after m p = not_both (model weir_allow41 goal_g) 1 m w5 p.0.1

-- the path slice written on 12
pub not_written_on_12 : (m : ℕ) → W5 [] (273 ∷ []) (Err (unanswered.NoRoom m)) → ⊥
not_written_on_12 m p = let z : ◌≡◌ {A = ℕ} 1 0 = ap length p.2 in omega arith

-- an entry past the path changed
pub not_past_the_path : (r : Result Outcome Unanswered) → W5 (0 ∷ 0 ∷ 0 ∷ 7 ∷ []) (273 ∷ 64 ∷ 1057 ∷ 8 ∷ []) r → ⊥
not_past_the_path r p =
    let s = w5_slice (0 ∷ 0 ∷ 0 ∷ 7 ∷ []) (273 ∷ 64 ∷ 1057 ∷ 8 ∷ []) r (omega arith) p in
    let z : ◌≡◌ {A = ℕ} 8 7 = s.rest 3 (omega arith) in
    omega arith

-- the second work slice not asked
pub not_one_slice : (before after : List ℕ) → GoalPromise weir goal_g 32 31 before after (Ok outcome.Holds) → ⊥
not_one_slice before after p = passed_not_refused (all_questions weir goal_g 32 31) 11 p.0.0 (w12_second 32)

-- 11 asked with 2^(n−1): 16 entries are not enough
pub not_half_the_work : (before after : List ℕ) → GoalPromise weir goal_g 16 16 before after (Ok outcome.Holds) → ⊥
not_half_the_work before after p =
    let b = work_length_lem in
    passed_not_refused (all_questions weir goal_g 16 16) 11 p.0.0 (refused_11 weir goal_g 16 16 weir_accepted g_accepted (λ h. let a = h.first in omega arith))

-- a path one step too long, or too short: the count is the path's
pub not_longer : (before after : List ℕ) → W5 before after (Ok (outcome.Order 2)) → ⊥
not_longer before after p = let e = not_invented before after 2 p in omega arith

pub not_shorter : (before after : List ℕ) → W5 before after (Ok (outcome.Order 0)) → ⊥
not_shorter before after p = let e = not_invented before after 0 p in omega arith

-- W2 has one path, and it is not W5's: 1 1 1, 2 0, 2 2 1, 2 1, 3 1 1, 2 0, 4 2 1 by their codes
pub w2_slice : (before after : List ℕ) → GoalPromise weir write_only 32 32 before after (Ok (outcome.Events 3))
    → (get_or after 0 0 ≡ 273) × (get_or after 1 0 ≡ 64) × (get_or after 2 0 ≡ 545) × (get_or after 3 0 ≡ 65) × (get_or after 4 0 ≡ 785) × (get_or after 5 0 ≡ 64) × (get_or after 6 0 ≡ 1057)
w2_slice before after p = w2_path (contexts_in after) (events_in after) p.1.path

-- "one always naming the same path": no slice shows both W5's path and W2's, whatever the outcomes beside it are
pub not_same_path : (b b' a : List ℕ) (r r' : Result Outcome Unanswered) → 3 ≤ length b → 7 ≤ length b' → W5 b a r → GoalPromise weir write_only 32 32 b' a r' → ⊥
not_same_path b b' a r r' room room' p q =
    let x = (w5_slice b a r room p).x1 in
    let e = events_only weir write_only 32 32 w2_enough {m = 3} b' a r' w2 room' q in
    let y = (w2_slice b' a (subst (λ (o : Result Outcome Unanswered). GoalPromise weir write_only 32 32 b' a o) e q)).2 in
    omega arith

-- W5's path shown for W2, with the count that W2 has
pub not_w5_path : (before : List ℕ) → GoalPromise weir write_only 32 32 before (273 ∷ 64 ∷ 1057 ∷ 64 ∷ 1057 ∷ 64 ∷ 1057 ∷ []) (Ok (outcome.Events 3)) → ⊥
not_w5_path before p =
    let q = w2_slice before (273 ∷ 64 ∷ 1057 ∷ 64 ∷ 1057 ∷ 64 ∷ 1057 ∷ []) p in
    let z : ◌≡◌ {A = ℕ} 1057 545 = q.2 in
    omega arith

-- the path slice written where the goal holds, or on a refusal before 12
pub not_written_on_holds : GoalPromise weir goal_g 32 32 (0 ∷ []) (273 ∷ []) (Ok outcome.Holds) → ⊥
not_written_on_holds p = let z : ◌≡◌ {A = ℕ} 273 0 = ap (λ (l : List ℕ). get_or l 0 0) p.1 in omega arith

pub not_written_on_11 : GoalPromise weir goal_g 31 32 (0 ∷ []) (273 ∷ []) (Err (unanswered.Refused refusal.WorkSlices)) → ⊥
not_written_on_11 p = let z : ◌≡◌ {A = ℕ} 273 0 = ap (λ (l : List ℕ). get_or l 0 0) p.1 in omega arith

-- the goal's questions asked before the policy's: neither image has a byte, and the number is the policy's
pub not_goal_first : (work : ℕ) (before after : List ℕ) → GoalPromise [] [] work work before after (Err (unanswered.Refused refusal.GoalLength)) → ⊥
not_goal_first work before after p =
    let a = one_number (all_questions [] [] work work) 7 1 p.0 (inl ((λ x. let h = x.whole in omega arith), refl)) in
    omega arith

-- a goal that is refused, let pass: 0 bytes are no goal
pub not_no_goal : (work : ℕ) (before after : List ℕ) → GoalPromise weir [] work work before after (Ok outcome.Holds) → ⊥
not_no_goal work before after p =
    let a = passed_then (policy_questions weir) (goal_questions (counts_of weir) [] ++ (ask 11 (WorkFits weir [] work work) ∷ [])) p.0.0 in
    let h = a.0.whole in
    omega arith

-- the numbers that C gets for the five sorts of answer; 12 has its m
pub number_holds : outcome_number (Ok outcome.Holds) ≡ 0
number_holds = refl

pub number_order : outcome_number (Ok (outcome.Order 1)) ≡ 257
number_order = refl

pub number_events : outcome_number (Ok (outcome.Events 3)) ≡ 770
number_events = refl

pub number_refused : outcome_number (Err (unanswered.Refused refusal.WorkSlices)) ≡ 47
number_refused = refl

pub number_no_room : outcome_number (Err (unanswered.NoRoom 3)) ≡ 819
number_no_room = refl

-- a refusal names a question up to 16, and never 12
But12 : ℕ → Type 0
But12 k = (k ≤ 16) × (k ≡ 12 → ⊥)

but_12 : (r : Refusal) → But12 (question_number r)
unfolding But12
but_12 refusal.PolicyLength = (omega arith, λ e. omega arith)
but_12 refusal.PolicyCounts = (omega arith, λ e. omega arith)
but_12 refusal.PolicyLinks = (omega arith, λ e. omega arith)
but_12 refusal.PolicyChains = (omega arith, λ e. omega arith)
but_12 refusal.PolicyFields = (omega arith, λ e. omega arith)
but_12 refusal.PolicyNodes = (omega arith, λ e. omega arith)
but_12 refusal.GoalLength = (omega arith, λ e. omega arith)
but_12 refusal.GoalLegs = (omega arith, λ e. omega arith)
but_12 refusal.GoalChains = (omega arith, λ e. omega arith)
but_12 refusal.GoalFields = (omega arith, λ e. omega arith)
but_12 refusal.WorkSlices = (omega arith, λ e. omega arith)
but_12 refusal.ContextsAndEvent = (omega arith, λ e. omega arith)
but_12 refusal.PolicySources = (omega arith, λ e. omega arith)
but_12 refusal.TooManyRecords = (omega arith, λ e. omega arith)
but_12 refusal.OutputSlice = (omega arith, λ e. omega arith)

-- .. and where a goal is asked of a policy, up to 14
pub promised_but_12 : (s g : List ℕ) (w1 w2 : ℕ) (b a : List ℕ) (r : Refusal) → GoalPromise s g w1 w2 b a (Err (unanswered.Refused r))
    → (question_number r ≤ 14) × (question_number r ≡ 12 → ⊥)
promised_but_12 s g w1 w2 b a r p = refused_among (λ (k : ℕ). (k ≤ 14) × (k ≡ 12 → ⊥)) (question_number r) (all_questions s g w1 w2) (omega arith) p.0

-- so its number is none of those of 12 with an m
not_12 : (r : Refusal) (m : ℕ) → 4 * question_number r + 3 ≡ 256 * m + 4 * 12 + 3 → ⊥
unfolding But12
not_12 r zero e = (but_12 r).1 (omega arith)
not_12 r (suc m) e = omega (arith, (but_12 r).0)

-- what C gets tells why there is no answer
pub unanswered_tells : (q r : Unanswered) → unanswered_number q ≡ unanswered_number r → q ≡ r
unanswered_tells (unanswered.Refused i) (unanswered.Refused i') e = ap unanswered.Refused (same_number i i' (omega arith))
unanswered_tells (unanswered.Refused i) (unanswered.NoRoom m') e = absurd (not_12 i m' e)
unanswered_tells (unanswered.NoRoom m) (unanswered.Refused i') e = absurd (not_12 i' m (sym e))
unanswered_tells (unanswered.NoRoom m) (unanswered.NoRoom m') e = ap unanswered.NoRoom (omega arith)

-- .. and that there is none
pub three_of_four : (u : Unanswered) → (i : ℕ) × (unanswered_number u ≡ 4 * i + 3)
three_of_four (unanswered.Refused r) = (question_number r, refl)
three_of_four (unanswered.NoRoom m) = (64 * m + 12, omega arith)

-- two answers never share a number: what C gets tells which it was
pub number_tells : (q r : Result Outcome Unanswered) → outcome_number q ≡ outcome_number r → q ≡ r
number_tells (Ok outcome.Holds) (Ok outcome.Holds) e = refl
number_tells (Ok outcome.Holds) (Ok (outcome.Order m')) e = absurd (omega arith)
number_tells (Ok outcome.Holds) (Ok (outcome.Events m')) e = absurd (omega arith)
number_tells (Ok (outcome.Order m)) (Ok outcome.Holds) e = absurd (omega arith)
number_tells (Ok (outcome.Order m)) (Ok (outcome.Order m')) e = ap (λ m. Ok (outcome.Order m)) (omega arith)
number_tells (Ok (outcome.Order m)) (Ok (outcome.Events m')) e = absurd (omega arith)
number_tells (Ok (outcome.Events m)) (Ok outcome.Holds) e = absurd (omega arith)
number_tells (Ok (outcome.Events m)) (Ok (outcome.Order m')) e = absurd (omega arith)
number_tells (Ok (outcome.Events m)) (Ok (outcome.Events m')) e = ap (λ m. Ok (outcome.Events m)) (omega arith)
number_tells (Ok outcome.Holds) (Err u) e = let t = three_of_four u in absurd (omega (arith, t.1))
number_tells (Ok (outcome.Order m)) (Err u) e = let t = three_of_four u in absurd (omega (arith, t.1))
number_tells (Ok (outcome.Events m)) (Err u) e = let t = three_of_four u in absurd (omega (arith, t.1))
number_tells (Err u) (Ok outcome.Holds) e = let t = three_of_four u in absurd (omega (arith, t.1))
number_tells (Err u) (Ok (outcome.Order m)) e = let t = three_of_four u in absurd (omega (arith, t.1))
number_tells (Err u) (Ok (outcome.Events m)) e = let t = three_of_four u in absurd (omega (arith, t.1))
number_tells (Err u) (Err v) e = ap Err (unanswered_tells u v e)

-- .. of any two inputs
pub number_one : (s g s' g' : List ℕ) (w1 w2 w1' w2' : ℕ) (b a b' a' : List ℕ) (q r : Result Outcome Unanswered) → GoalPromise s g w1 w2 b a q → GoalPromise s' g' w1' w2' b' a' r
    → outcome_number q ≡ outcome_number r → q ≡ r
number_one s g s' g' w1 w2 w1' w2' b a b' a' q r p p' e =
    number_tells q r e
