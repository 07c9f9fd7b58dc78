-- W1 to W12 (paper 01) as results of the outward calls: what every number that their promises allow is.
use Rattle.std.specs.Prelude.{ℕ, ◌+◌, ◌*◌, ◌≤◌, ◌<◌, List, ◌⊎◌, ◌≡◌, length, get_or}
use Rattle.base.specs.Numbers.{Numbered}
use Rattle.base.specs.Questions.{AllYes, RefusedWith}
use Rattle.policy_image.specs.Layout.{PolicyExact, counts_of, record_count, record_of}
use Rattle.policy_image.specs.Counts.{CountsInRange}
use Rattle.policy_image.specs.Cases.Weir.{weir, weir_allow31}
use Rattle.policy_check.specs.Questions.{policy_questions}
use Rattle.policy_writing.specs.Writing.{writing_number}
use Rattle.join.specs.Join.{JoinPromise}
use Rattle.context.specs.declared.Context.{Context}
use Rattle.context.specs.declared.Event.{Event}
use Rattle.goal_image.specs.Questions.{goal_questions}
use Rattle.goal_image.specs.Cases.WeirGoal.{goal_g}
use Rattle.bare_questions.specs.Bare.{AuthorizationAnswer, FlowAnswer, number_of}
use Rattle.goal_question.specs.GoalQuestion.{GoalPromise, outcome_number}
use Rattle.goal_model.specs.Cases.OwnGoals.{write_only}
use Rattle.weir.specs.Cases.Goals.{weir_allow41, empty, except_type, end_type_one, one_leg, no_start}
use Rattle.weir.specs.Cases.Steps.{RefusesSteps}

-- flowgoal_check gives n for the images s and g and slices of these lengths, and leaves the path slice as `after`
abbrev pub Gives : List ℕ → List ℕ → ℕ → ℕ → List ℕ → List ℕ → ℕ → Type 0
Gives s g work1 work2 before after n = Numbered outcome_number (GoalPromise s g work1 work2 before after) n

-- the goal holds: 0, and the path slice is as it was
abbrev pub SaysHolds : List ℕ → List ℕ → Type 0
SaysHolds s g = (before after : List ℕ) (n : ℕ) → Gives s g 32 32 before after n → (n ≡ 0) × (after ≡ before)

-- refused with k: 4k + 3, and the path slice is as it was, whatever it and the work slices are
abbrev pub Refuses : List ℕ → List ℕ → ℕ → ℕ → ℕ → Type 0
Refuses s g work1 work2 k = (before after : List ℕ) (n : ℕ) → Gives s g work1 work2 before after n → (n ≡ 4 * k + 3) × (after ≡ before)

-- a path of m steps breaks the goal: with room for it, 256m + answer; without, 256m + 51, and the path slice is as it was
pub record SaysBroken (s g : List ℕ) (m answer : ℕ) : Type 0 where
  pub room : (before after : List ℕ) (n : ℕ) → 2 * m + 1 ≤ length before → Gives s g 32 32 before after n → n ≡ 256 * m + answer
  pub no_room : (before after : List ℕ) (n : ℕ) → length before < 2 * m + 1 → Gives s g 32 32 before after n → (n ≡ 256 * m + 51) × (after ≡ before)

-- W5's path slice
pub record Prints (before after : List ℕ) : Type 0 where
  pub whole : length after ≡ length before
  pub x0 : get_or after 0 0 ≡ 273
  pub e0 : get_or after 1 0 ≡ 64
  pub x1 : get_or after 2 0 ≡ 1057
  pub rest : (i : ℕ) → 3 ≤ i → get_or after i 0 ≡ get_or before i 0

pub record WeirCalled : Type 0 where
  -- "W1 G holds."
  pub w1 : SaysHolds weir goal_g
  -- "W2 leg 1 write only: events 3."
  pub w2 : SaysBroken weir write_only 3 2
  -- "W3 as W2 with σe type 3: holds."
  pub w3 : SaysHolds weir (except_type 3)
  -- "W4 as W2 with σe type 4: events 3."
  pub w4 : SaysBroken weir (except_type 4) 3 2
  -- "W5 policy with 4 on 1 read added, G.": order 1, and the path
  pub w5 : SaysBroken weir_allow41 goal_g 1 1
  pub w5_path : (before after : List ℕ) (n : ℕ) → 3 ≤ length before → Gives weir_allow41 goal_g 32 32 before after n → Prints before after
  -- "W6 σ2 type 1 in G: order 0."
  pub w6 : SaysBroken weir end_type_one 0 1
  -- "W7 one leg, σ0 and σ1 type 1: events 0."
  pub w7 : SaysBroken weir one_leg 0 2
  -- "W8 σ0 empty: holds."
  pub w8 : SaysHolds weir no_start
  -- "W9 an added allow 3 on 1 read authorizes nothing.", which paper 02, b, "turns .. into a refusal": 14 by each call, whatever it is asked besides,
  -- in range or not (of the canonical image: weir_canonical, `CanonicalCalled`)
  pub w9_authorized : (x y : Context) (e : Event) (n : ℕ) → Numbered number_of (AuthorizationAnswer weir_allow31 x y e) n → n ≡ 4 * 14 + 3
  pub w9_flows : (x y : Context) (e : Event) (n : ℕ) → Numbered number_of (FlowAnswer weir_allow31 x y e) n → n ≡ 4 * 14 + 3
  pub w9_steps : (x y : Context) (work1 work2 : ℕ) → RefusesSteps weir_allow31 x y work1 work2 14
  pub w9_check : (g : List ℕ) (work1 work2 : ℕ) → Refuses weir_allow31 g work1 work2 14
  -- .. as the maker's, whatever the board's is, and as the board's, where the maker's passes
  pub w9_join_maker : (t before after : List ℕ) (n : ℕ) → Numbered writing_number (JoinPromise weir_allow31 t before after) n
      → (n ≡ 4 * 14 + 3) × (after ≡ before)
  pub w9_join_board : (s before after : List ℕ) (n : ℕ) → AllYes (policy_questions s) → Numbered writing_number (JoinPromise s weir_allow31 before after) n
      → (n ≡ 4 * 14 + 3) × (after ≡ before)
  -- "before any goal .. is read": also with a goal that is too short, which is 7 by itself
  pub w9_short_goal : (g : List ℕ) (work1 work2 : ℕ) → length g ≡ 33 → RefusedWith (goal_questions (counts_of weir_allow31) g) 7 × Refuses weir_allow31 g work1 work2 14
  -- "W10 23 bytes: 1; 24 bytes, N 0, counts 1, heads 0: accepted.": not refused with 1 to 6 or 14
  pub w10 : (s g : List ℕ) (work1 work2 : ℕ) → length s ≡ 23 → Refuses s g work1 work2 1
  pub w10_empty : (g : List ℕ) (work1 work2 : ℕ) (before after : List ℕ) (n k : ℕ) → Gives empty g work1 work2 before after n → (k ≤ 6) ⊎ (k ≡ 14) → n ≡ 4 * k + 3 → ⊥
  -- "W11 a next equal to its own number: 3."
  pub w11 : (s g : List ℕ) (work1 work2 : ℕ) → PolicyExact s → CountsInRange (counts_of s) → (i : ℕ) → 1 ≤ i → i ≤ record_count s → (record_of s i).next ≡ i
      → Refuses s g work1 work2 3
  -- "W12 G with 31 work entries: 11; 32 suffice.": W1 has 32
  pub w12_first : (work : ℕ) → Refuses weir goal_g 31 work 11
  pub w12_second : (work : ℕ) → Refuses weir goal_g work 31 11
