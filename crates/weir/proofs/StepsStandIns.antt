-- Answers that the promise of least steps keeps out, each on a named input: what a misreading of paper 02 (a) would give.
use Prim.Native.Nat.{ℕ, ◌<◌}
use mathlib.Core.List.{List, [], ◌∷◌}
use mathlib.Core.Path.{◌≡◌, refl, sym, ap, subst}
use native.Mathlib.Omega.{arith}
use lib.Dec.{T}
use lib.ListN.{length, get_or}
use Rattle.base.specs.Bits.{bit}
use Rattle.base.specs.Questions.{RefusedWith}
use Rattle.base.proofs.QuestionLaws.{passed_not_refused, one_number}
use Rattle.policy_image.specs.Layout.{counts_of, record_count}
use Rattle.policy_image.specs.Policy.{policy_of}
use Rattle.policy_image.specs.Cases.Weir.{weir}
use Rattle.policy_check.proofs.Cases.{weir_accepted}
use Rattle.context.specs.declared.Context.{Context}
use Rattle.context.specs.Codes.{context_of, context_at as at}
use Rattle.context.specs.Inner.Coding.{context_code}
use Rattle.goal_image.specs.Layout.{goal_count, goal_head, next_of, context_record_of}
use Rattle.goal_image.specs.Goal.{goal_of, σeChain}
use Rattle.goal_image.specs.Sets.{context_in}
use Rattle.goal_image.specs.Cases.WeirGoal.{goal_g}
use Rattle.paths.specs.Paths.{Holds}
use Rattle.paths.specs.Slice.{contexts_in, events_in}
use Rattle.goal_model.specs.Images.{model}
use Rattle.std.specs.Prelude.{Option, Some, None, Result, Ok, Err}
use Rattle.base.specs.declared.refusals.Refusal.{Refusal}
use Rattle.base.specs.declared.refusals.Refusal.TheVariants as refusal
use Rattle.base.specs.Refusals.{question_number}
use Rattle.witness.specs.declared.unanswered.Unanswered.{Unanswered}
use Rattle.witness.specs.declared.unanswered.Unanswered.TheVariants as unanswered
use Rattle.least_steps.specs.LeastSteps.{steps_questions, StepsPromise, steps_number}
use Rattle.least_steps.proofs.StepsLaws.{least_steps_one, shown_some, given}
use Rattle.weir.specs.Cases.Goals.{weir_allow41, except_type}
use Rattle.weir.specs.Cases.StepsPolicies.{two_users, no_root}
use Rattle.weir.specs.Cases.Clauses.{more_zeros}
use Rattle.weir.specs.Cases.Steps.{StepsAre, NoSteps}
use Rattle.weir.specs.Cases.StepsClauses.{long_then, zeros_then, PathThere}
use Rattle.weir.proofs.Answers.{w1, w3}
use Rattle.weir.proofs.StandIns.{unanswered_tells, three_of_four}
use Rattle.weir.proofs.Walks.{starts_at, flow_path_by}
use Rattle.weir.proofs.StepsPaths.{computed, three_path}
use Rattle.weir.proofs.Steps.{refused_13, refused_11, users_accepted, steps_cases}

-- what may be said of the way from type 1 to type 4 in the weir policy
abbrev There : List ℕ → List ℕ → Result (Option ℕ) Unanswered → Type 0
There before after r = StepsPromise weir (at 1 1 1) (at 4 2 1) 8 8 before after r

-- ---- what is promised where the answer is known
module _ {s : List ℕ} {x y : Context} {work : ℕ} where
  -- m steps: the count is that one, and neither none nor a refusal is said
  count_is : {m k : ℕ} {before after : List ℕ} → StepsAre s x y work m → StepsPromise s x y work work before after (Ok (Some k)) → k ≡ m
  count_is {m} {k} h p = least_steps_one (policy_of s) x y k m (shown_some (policy_of s) x y p.2) p.1 h.some h.least

  not_none : {m : ℕ} {before after : List ℕ} → StepsAre s x y work m → StepsPromise s x y work work before after (Ok None) → ⊥
  not_none {m} h p = p.1 m h.some

  not_refused : {m : ℕ} (r : Refusal) {before after : List ℕ} → StepsAre s x y work m → StepsPromise s x y work work before after (Err (unanswered.Refused r)) → ⊥
  not_refused {m} r h p = passed_not_refused (steps_questions s x y work work) (question_number r) h.asked p.0

  -- none: no count is said
  not_shown : {k : ℕ} {before after : List ℕ} → NoSteps s x y work → StepsPromise s x y work work before after (Ok (Some k)) → ⊥
  not_shown {k} h p = h.none k (shown_some (policy_of s) x y p.2)

  not_short : {k : ℕ} {before after : List ℕ} → NoSteps s x y work → StepsPromise s x y work work before after (Err (unanswered.NoRoom k)) → ⊥
  not_short {k} h p = h.none k p.1

-- ---- one that says one thing always: none; a refusal; the same path
pub not_always_none : (before after : List ℕ) → There before after (Ok None) → ⊥
not_always_none before after p = not_none steps_cases.three p

pub not_always_refusing : (before after : List ℕ) (r : Refusal) → There before after (Err (unanswered.Refused r)) → ⊥
not_always_refusing before after r p = not_refused r steps_cases.three p

-- no slice shows both the way from type 1 to type 4 and that from type 3
pub not_always_one_path : (b b' a : List ℕ) → There b a (Ok (Some 3)) → StepsPromise weir (at 3 1 1) (at 4 2 1) 8 8 b' a (Ok (Some 1)) → ⊥
not_always_one_path b b' a p q =
    let x = (three_path (contexts_in a) (events_in a) p.2.path).0 in
    let y = starts_at (policy_of weir) (at 3 1 1) (at 4 2 1) q.2.path in
    omega arith

-- ---- the count: any other; that of contexts, m + 1; that of a path which is not a shortest
pub not_other_count : (before after : List ℕ) (m : ℕ) → There before after (Ok (Some m)) → m ≡ 3
not_other_count before after m p = count_is steps_cases.three p

pub not_of_contexts : (before after : List ℕ) → There before after (Ok (Some 4)) → ⊥
not_of_contexts before after p = let e = not_other_count before after 4 p in omega arith

pub not_of_one_context : (before after : List ℕ) → StepsPromise weir (at 1 1 1) (at 1 1 1) 8 8 before after (Ok (Some 1)) → ⊥
not_of_one_context before after p = let e = count_is steps_cases.itself p in omega arith

pub not_longer_path : (before after : List ℕ) → StepsPromise weir_allow41 (at 1 1 1) (at 4 2 1) 8 8 before after (Ok (Some 3)) → ⊥
not_longer_path before after p = let e = count_is steps_cases.one p in omega arith

-- ---- the way back; and a step from who acts to what is acted on, where a read flows the other way
pub not_backwards : (before after : List ℕ) (m : ℕ) → StepsPromise weir (at 4 2 1) (at 1 1 1) 8 8 before after (Ok (Some m)) → ⊥
not_backwards before after m p = not_shown steps_cases.back p

pub not_by_acting : (before after : List ℕ) (m : ℕ) → StepsPromise weir (at 2 2 1) (at 1 1 1) 8 8 before after (Ok (Some m)) → ⊥
not_by_acting before after m p = not_shown steps_cases.read_out p

-- ---- contexts that fail ρ or μ: one that reaches itself; one from which others are reached; one that is reached, though ρ and μ of y are
-- asked by flow alone
pub not_invalid_itself : (before after : List ℕ) (m : ℕ) → StepsPromise weir (at 3 2 1) (at 3 2 1) 8 8 before after (Ok (Some m)) → ⊥
not_invalid_itself before after m p = not_shown steps_cases.rho_itself p

pub not_invalid_user_itself : (before after : List ℕ) (m : ℕ) → StepsPromise two_users (at 2 2 2) (at 2 2 2) 8 8 before after (Ok (Some m)) → ⊥
not_invalid_user_itself before after m p = not_shown steps_cases.mu_itself p

pub not_from_invalid : (before after : List ℕ) (m : ℕ) → StepsPromise weir (at 3 2 1) (at 4 2 1) 8 8 before after (Ok (Some m)) → ⊥
not_from_invalid before after m p = not_shown steps_cases.rho_from p

pub not_to_invalid : (before after : List ℕ) (m : ℕ) → StepsPromise weir (at 2 2 1) (at 3 2 1) 8 8 before after (Ok (Some m)) → ⊥
not_to_invalid before after m p = not_shown steps_cases.rho_to p

pub not_to_invalid_user : (before after : List ℕ) (m : ℕ) → StepsPromise two_users (at 1 1 2) (at 2 2 2) 8 8 before after (Ok (Some m)) → ⊥
not_to_invalid_user before after m p = not_shown steps_cases.mu_to p

-- ---- question 11: twice as many entries asked for, T × R × U × 2; one slice alone asked; T × R entries, with no U
pub not_twice_the_work : (before after : List ℕ) → There before after (Err (unanswered.Refused refusal.WorkSlices)) → ⊥
not_twice_the_work before after p = not_always_refusing before after refusal.WorkSlices p

pub not_one_work_slice : (before after : List ℕ) (m : ℕ) → StepsPromise weir (at 1 1 1) (at 4 2 1) 8 7 before after (Ok (Some m)) → ⊥
not_one_work_slice before after m p = passed_not_refused (steps_questions weir (at 1 1 1) (at 4 2 1) 8 7) 11 p.0 (steps_cases.second_11 8)

users_short : RefusedWith (steps_questions two_users (at 2 2 1) (at 1 1 1) 4 4) 11
unfolding counts_of record_count
users_short = refused_11 two_users (at 2 2 1) (at 1 1 1) 4 4 users_accepted (omega arith) (λ h. omega arith)

pub not_without_users : (before after : List ℕ) (m : ℕ) → StepsPromise two_users (at 2 2 1) (at 1 1 1) 4 4 before after (Ok (Some m)) → ⊥
not_without_users before after m p = passed_not_refused (steps_questions two_users (at 2 2 1) (at 1 1 1) 4 4) 11 p.0 users_short

-- ---- 12: where no path leads; with another count; where there is room
pub not_12_without_path : (before after : List ℕ) (m : ℕ) → StepsPromise weir (at 4 2 1) (at 1 1 1) 8 8 before after (Err (unanswered.NoRoom m)) → ⊥
not_12_without_path before after m p = not_short steps_cases.back p

pub not_12_elsewise : (before after : List ℕ) (m : ℕ) → There before after (Err (unanswered.NoRoom m)) → (m ≡ 3) × (length before < 7)
not_12_elsewise before after m p =
    let h = steps_cases.three in
    let e = least_steps_one (policy_of weir) (at 1 1 1) (at 4 2 1) m 3 p.1 p.2 h.some h.least in
    let l = p.3 in
    (e, omega arith)

-- ---- no goal is asked: W3's goal excepts type 3, and holds, and the path leads through type 3; G holds, and the path is there
excepted : T (context_in (goal_of (except_type 3)) σeChain (context_of 785))
unfolding bit goal_count goal_head next_of context_record_of context_in
excepted = tt

pub not_excepted : Holds (model weir (except_type 3))
    × ((before after : List ℕ) → There before after (Ok (Some 3)) → T (context_in (goal_of (except_type 3)) σeChain (context_of (contexts_in after 2))))
not_excepted = (
  w3,
  λ before after p.
      subst (λ (c : ℕ). T (context_in (goal_of (except_type 3)) σeChain (context_of c))) (sym (three_path (contexts_in after) (events_in after) p.2.path).4) excepted,
)

pub not_breaking_alone : Holds (model weir goal_g) × ((before after : List ℕ) → There before after (Ok None) → ⊥)
not_breaking_alone = (w1, not_always_none)

-- .. and y may be met before the end, as it may not in a goal's path
abbrev there_again : List ℕ
there_again = 273 ∷ 33 ∷ 545 ∷ 34 ∷ 273 ∷ 33 ∷ 545 ∷ []

pub met_before : PathThere two_users 3 there_again (at 1 1 1) (at 2 2 1)
unfolding computed
met_before = flow_path_by (policy_of two_users) (at 1 1 1) (at 2 2 1) 3 (contexts_in there_again) (events_in there_again) refl refl tt

-- ---- the path slice: written on none, on a refusal, on 12; left as it was where a path is shown; written behind the path
written : ◌≡◌ {A = List ℕ} (273 ∷ []) (0 ∷ []) → ⊥
written e = let z : ◌≡◌ {A = ℕ} 273 0 = ap (λ (l : List ℕ). get_or l 0 0) e in omega arith

pub not_written_on_none : StepsPromise weir (at 4 2 1) (at 1 1 1) 8 8 (0 ∷ []) (273 ∷ []) (Ok None) → ⊥
not_written_on_none p = written p.2

pub not_written_on_13 : StepsPromise weir (at 5 1 1) (at 4 2 1) 8 8 (0 ∷ []) (273 ∷ []) (Err (unanswered.Refused refusal.ContextsAndEvent)) → ⊥
not_written_on_13 p = written p.1

pub not_written_on_short : (m : ℕ) → There (0 ∷ []) (273 ∷ []) (Err (unanswered.NoRoom m)) → ⊥
not_written_on_short m p = written p.4

pub not_unwritten : (r : Result (Option ℕ) Unanswered) → There more_zeros more_zeros r → ⊥
not_unwritten r p =
    let h = steps_cases.three in
    let q = (given weir (at 1 1 1) (at 4 2 1) 8 8 more_zeros more_zeros (Ok (Some 3)) r (h.asked, h.some, h.least, omega arith) p).1 in
    let z : ◌≡◌ {A = ℕ} 0 273 = (three_path (contexts_in more_zeros) (events_in more_zeros) q.2.path).0 in
    omega arith

pub not_behind_the_path : (r : Result (Option ℕ) Unanswered) → There (zeros_then 7) (long_then 8) r → ⊥
not_behind_the_path r p =
    let h = steps_cases.three in
    let q = (given weir (at 1 1 1) (at 4 2 1) 8 8 (zeros_then 7) (long_then 8) (Ok (Some 3)) r (h.asked, h.some, h.least, omega arith) p).1 in
    let z : ◌≡◌ {A = ℕ} 8 7 = q.2.rest 7 (omega arith) in
    omega arith

-- ---- the order of the questions: 11 before 13, of either context; 13 before the policy's
pub not_11_first : (before after : List ℕ) → StepsPromise weir (at 5 1 1) (at 4 2 1) 0 0 before after (Err (unanswered.Refused refusal.WorkSlices)) → ⊥
not_11_first before after p = let e = one_number (steps_questions weir (at 5 1 1) (at 4 2 1) 0 0) 11 13 p.0 (steps_cases.first_13 0 0) in omega arith

pub not_11_first_second : (before after : List ℕ) → StepsPromise weir (at 1 1 1) (at 5 2 1) 0 0 before after (Err (unanswered.Refused refusal.WorkSlices)) → ⊥
not_11_first_second before after p = let e = one_number (steps_questions weir (at 1 1 1) (at 5 2 1) 0 0) 11 13 p.0 (steps_cases.second_13 0 0) in omega arith

pub not_13_first : (before after : List ℕ) → StepsPromise no_root (at 0 0 0) (at 0 0 0) 0 0 before after (Err (unanswered.Refused refusal.ContextsAndEvent)) → ⊥
not_13_first before after p = let e = one_number (steps_questions no_root (at 0 0 0) (at 0 0 0) 0 0) 13 6 p.0 steps_cases.six_before_13 in omega arith

-- a context taken by its code: type 0, role 17, user 1 has that of type 1, role 1, user 1
same_code : context_code (at 0 17 1) ≡ context_code (at 1 1 1)
same_code = refl

pub not_by_code : (before after : List ℕ) (m : ℕ) → StepsPromise weir (at 0 17 1) (at 4 2 1) 8 8 before after (Ok (Some m)) → ⊥
unfolding counts_of record_count
not_by_code before after m p =
    passed_not_refused (steps_questions weir (at 0 17 1) (at 4 2 1) 8 8) 13 p.0 (refused_13 weir (at 0 17 1) (at 4 2 1) 8 8 weir_accepted (λ h. omega arith))

-- ---- the numbers that C gets for the four sorts of answer; 12 has its m
pub steps_number_none : steps_number (Ok None) ≡ 0
steps_number_none = refl

pub steps_number_shown : steps_number (Ok (Some 3)) ≡ 769
steps_number_shown = refl

pub steps_number_refused : steps_number (Err (unanswered.Refused refusal.ContextsAndEvent)) ≡ 55
steps_number_refused = refl

pub steps_number_no_room : steps_number (Err (unanswered.NoRoom 3)) ≡ 819
steps_number_no_room = refl

-- two answers never share a number
pub steps_tell : (q r : Result (Option ℕ) Unanswered) → steps_number q ≡ steps_number r → q ≡ r
steps_tell (Ok None) (Ok None) e = refl
steps_tell (Ok None) (Ok (Some m')) e = absurd (omega arith)
steps_tell (Ok (Some m)) (Ok None) e = absurd (omega arith)
steps_tell (Ok (Some m)) (Ok (Some m')) e = ap (λ m. Ok (Some m)) (omega arith)
steps_tell (Ok None) (Err u) e = let t = three_of_four u in absurd (omega (arith, t.1))
steps_tell (Ok (Some m)) (Err u) e = let t = three_of_four u in absurd (omega (arith, t.1))
steps_tell (Err u) (Ok None) e = let t = three_of_four u in absurd (omega (arith, t.1))
steps_tell (Err u) (Ok (Some m)) e = let t = three_of_four u in absurd (omega (arith, t.1))
steps_tell (Err u) (Err v) e = ap Err (unanswered_tells u v e)

-- .. of any two inputs
pub steps_number_one : (s s' : List ℕ) (x y x' y' : Context) (w1 w2 w1' w2' : ℕ) (b a b' a' : List ℕ) (q r : Result (Option ℕ) Unanswered) → StepsPromise s x y w1 w2 b a q
    → StepsPromise s' x' y' w1' w2' b' a' r → steps_number q ≡ steps_number r → q ≡ r
steps_number_one s s' x y x' y' w1 w2 w1' w2' b a b' a' q r p p' e =
    steps_tell q r e
