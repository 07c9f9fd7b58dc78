-- W1 to W12 (paper 01), each as a statement from the definitions.
use Rattle.std.specs.Prelude.{ℕ, ◌≤◌, false, List, ◌≡◌, length, get_or, Result, Ok}
use Rattle.base.specs.Questions.{AllYes, RefusedWith}
use Rattle.policy_image.specs.Layout.{PolicyExact, counts_of, record_count, record_of}
use Rattle.policy_image.specs.Counts.{CountsInRange}
use Rattle.policy_image.specs.Policy.{policy_of}
use Rattle.policy_image.specs.Cases.Weir.{weir, weir_allow31, weir_domain3}
use Rattle.policy_check.specs.Questions.{policy_questions}
use Rattle.context.specs.declared.Context.{Context}
use Rattle.context.specs.declared.Event.{Event}
use Rattle.access.specs.Authorization.{authorized, flow}
use Rattle.goal_image.specs.Cases.WeirGoal.{goal_g}
use Rattle.paths.specs.Model.{Model}
use Rattle.paths.specs.Paths.{Holds, OrderAt, EventsAt}
use Rattle.goal_model.specs.Images.{model}
use Rattle.witness.specs.declared.unanswered.Unanswered.{Unanswered}
use Rattle.goal_question.specs.declared.goal.Outcome.{Outcome}
use Rattle.goal_question.specs.declared.goal.Outcome.TheVariants as outcome
use Rattle.goal_question.specs.GoalQuestion.{all_questions, GoalPromise}
use Rattle.goal_model.specs.Cases.OwnGoals.{write_only}
use Rattle.weir.specs.Cases.Goals.{weir_allow41, empty, except_type, end_type_one, one_leg, no_start}

-- the path slice that every result for W5 leaves, where it has room: order 1, and 1 1 1, 2 0, 4 2 1 by their codes, the rest as it was
pub record W5Slice (before after : List ℕ) (r : Result Outcome Unanswered) : Type 0 where
  pub answer : r ≡ Ok (outcome.Order 1)
  pub whole : length after ≡ length before
  pub x0 : get_or after 0 0 ≡ 273
  pub e0 : get_or after 1 0 ≡ 64
  pub x1 : get_or after 2 0 ≡ 1057
  pub rest : (i : ℕ) → 3 ≤ i → get_or after i 0 ≡ get_or before i 0

-- the images pass all questions before 12 with 32 entries in each work slice, and the answer is right
pub record Answered (s g : List ℕ) (right : Model → Type 0) : Type 0 where
  pub accepted : AllYes (all_questions s g 32 32)
  pub answer : right (model s g)

pub record Weir : Type 0 where
  -- "W1 G holds."
  pub w1 : Answered weir goal_g Holds
  -- "W2 leg 1 write only: events 3."
  pub w2 : Answered weir write_only (λ M. EventsAt M 3)
  -- "W3 as W2 with σe type 3: holds."
  pub w3 : Answered weir (except_type 3) Holds
  -- "W4 as W2 with σe type 4: events 3."
  pub w4 : Answered weir (except_type 4) (λ M. EventsAt M 3)
  -- "W5 policy with 4 on 1 read added, G": by answer, count and path slice
  pub w5 : Answered weir_allow41 goal_g (λ M. OrderAt M 1)
  pub w5_slice : (before after : List ℕ) (r : Result Outcome Unanswered) → 3 ≤ length before → GoalPromise weir_allow41 goal_g 32 32 before after r → W5Slice before after r
  -- "W6 σ2 type 1 in G: order 0."
  pub w6 : Answered weir end_type_one (λ M. OrderAt M 0)
  -- "W7 one leg, σ0 and σ1 type 1: events 0."
  pub w7 : Answered weir one_leg (λ M. EventsAt M 0)
  -- "W8 σ0 empty: holds."
  pub w8 : Answered weir no_start Holds
  -- "W9 an added allow 3 on 1 read authorizes nothing.", which paper 02, b, "turns .. into a refusal"; with type 3 a domain the policy passes
  pub w9 : RefusedWith (policy_questions weir_allow31) 14
  pub w9_near : AllYes (policy_questions weir_domain3)
  -- of the formulas, which "are unaltered": nothing from type 3, and everything else is as without the record
  pub w9_nothing : (e : Event) (x y : Context) → x.ty ≡ 3 → authorized (policy_of weir_allow31) e x y ≡ false
  pub w9_authorized : (e : Event) (x y : Context) → authorized (policy_of weir_allow31) e x y ≡ authorized (policy_of weir) e x y
  pub w9_flow : (e : Event) (x y : Context) → flow (policy_of weir_allow31) e x y ≡ flow (policy_of weir) e x y
  -- "W10 23 bytes: 1; 24 bytes, N 0, counts 1, heads 0: accepted."
  pub w10 : (s : List ℕ) → length s ≡ 23 → RefusedWith (policy_questions s) 1
  pub w10_empty : AllYes (policy_questions empty)
  -- "W11 a next equal to its own number: 3."
  pub w11 : (s : List ℕ) → PolicyExact s → CountsInRange (counts_of s) → (i : ℕ) → 1 ≤ i → i ≤ record_count s → (record_of s i).next ≡ i
      → RefusedWith (policy_questions s) 3
  -- "W12 G with 31 work entries: 11; 32 suffice.": 31 in either slice, whatever the other has
  pub w12_first : (work : ℕ) → RefusedWith (all_questions weir goal_g 31 work) 11
  pub w12_second : (work : ℕ) → RefusedWith (all_questions weir goal_g work 31) 11
  pub w12_enough : AllYes (all_questions weir goal_g 32 32)
