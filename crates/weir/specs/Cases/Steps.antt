-- Least steps (paper 02, a) on named inputs: each case as a statement from the definitions, and as a result of the call, that is what every
-- number that the promise allows is.
use Rattle.std.specs.Prelude.{ℕ, ◌+◌, ◌*◌, ◌≤◌, ◌<◌, List, ◌⊎◌, ◌≡◌, length, get_or}
use Rattle.base.specs.Numbers.{Numbered}
use Rattle.base.specs.Questions.{AllYes, RefusedWith}
use Rattle.policy_image.specs.Policy.{policy_of}
use Rattle.policy_image.specs.Cases.Weir.{weir, weir_allow31}
use Rattle.policy_check.specs.Questions.{policy_questions}
use Rattle.context.specs.declared.Context.{Context}
use Rattle.context.specs.Codes.{context_at as at}
use Rattle.access.specs.Cases.Readers.{readers}
use Rattle.paths.specs.Slice.{Shows}
use Rattle.least_steps.specs.LeastSteps.{FlowPath, SomeFlowPath, NoFlowPath, NoneShorter, steps_questions, StepsPromise, steps_number}
use Rattle.weir.specs.Cases.Goals.{weir_allow41}
use Rattle.weir.specs.Cases.StepsPolicies.{two_users, weir_constrained, weir_apart, no_root}

-- the questions are passed with so many entries in each work slice; a path of m steps leads from x to y, and none of fewer
pub record StepsAre (s : List ℕ) (x y : Context) (work m : ℕ) : Type 0 where
  pub asked : AllYes (steps_questions s x y work work)
  pub some : SomeFlowPath (policy_of s) x y m
  pub least : NoneShorter (policy_of s) x y m

-- the questions are passed, and no path leads from x to y
pub record NoSteps (s : List ℕ) (x y : Context) (work : ℕ) : Type 0 where
  pub asked : AllYes (steps_questions s x y work work)
  pub none : NoFlowPath (policy_of s) x y

-- the weir policy's one path of three steps: 1 1 1, 2 0, 2 2 1, 2 1, 3 1 1, 2 0, 4 2 1 by their codes
abbrev pub ThreeSteps : (ℕ → ℕ) → (ℕ → ℕ) → Type 0
ThreeSteps c e = (c 0 ≡ 273) × (e 0 ≡ 64) × (c 1 ≡ 545) × (e 1 ≡ 65) × (c 2 ≡ 785) × (e 2 ≡ 64) × (c 3 ≡ 1057)

pub record StepsCases : Type 0 where
  -- ---- "the least number of flow steps": 3 from type 1 to type 4, and one path has so many
  pub three : StepsAre weir (at 1 1 1) (at 4 2 1) 8 3
  pub three_path : (c e : ℕ → ℕ) → FlowPath (policy_of weir) (at 1 1 1) (at 4 2 1) 3 c e → ThreeSteps c e
  -- .. "the least": 1 where a path of 1 step and one of 3 lead there
  pub one : StepsAre weir_allow41 (at 1 1 1) (at 4 2 1) 8 1
  pub longer_too : SomeFlowPath (policy_of weir_allow41) (at 1 1 1) (at 4 2 1) 3
  -- "a valid one reaches itself in 0"
  pub itself : StepsAre weir (at 1 1 1) (at 1 1 1) 8 0
  pub itself_path : (c e : ℕ → ℕ) → FlowPath (policy_of weir) (at 1 1 1) (at 1 1 1) 0 c e → c 0 ≡ 273
  -- "exactly when no path leads from x to y": none back
  pub back : NoSteps weir (at 4 2 1) (at 1 1 1) 8
  -- "flow steps": 2 may read 1, and what is read flows from 1 to 2 alone
  pub read_in : StepsAre weir (at 1 1 1) (at 2 2 1) 8 1
  pub read_out : NoSteps weir (at 2 2 1) (at 1 1 1) 8
  -- our policy of readers: 1 may read 2 and make a transition to it, both read-like, so that there are two paths of 1 step; and none back
  pub readers_one : StepsAre readers (at 2 3 1) (at 1 2 1) 6 1
  pub readers_path : (c e : ℕ → ℕ) → FlowPath (policy_of readers) (at 2 3 1) (at 1 2 1) 1 c e → (c 0 ≡ 561) × ((e 0 ≡ 32) ⊎ (e 0 ≡ 33)) × (c 1 ≡ 289)
  pub readers_back : NoSteps readers (at 1 2 1) (at 2 3 1) 6
  -- ---- "A context that fails ρ .. has none, even to itself": role 2 does not hold type 3; and role 1 does
  pub rho_itself : NoSteps weir (at 3 2 1) (at 3 2 1) 8
  pub rho_from : NoSteps weir (at 3 2 1) (at 4 2 1) 8
  pub rho_to : NoSteps weir (at 2 2 1) (at 3 2 1) 8
  pub rho_met_from : StepsAre weir (at 3 1 1) (at 4 2 1) 8 1
  pub rho_met_to : StepsAre weir (at 2 2 1) (at 3 1 1) 8 1
  -- ".. or μ": user 2 does not hold role 2; and user 1 does
  pub mu_itself : NoSteps two_users (at 2 2 2) (at 2 2 2) 8
  pub mu_from : NoSteps two_users (at 2 2 2) (at 1 1 1) 8
  pub mu_to : NoSteps two_users (at 1 1 2) (at 2 2 2) 8
  pub mu_met_from : StepsAre two_users (at 2 2 1) (at 1 1 1) 8 1
  pub mu_met_to : StepsAre two_users (at 1 1 2) (at 2 2 1) 8 1
  -- ---- a step that a constraint takes away: 3 with it, 1 without (`one`); none with it, 3 without (`three`)
  pub constrained : StepsAre weir_constrained (at 1 1 1) (at 4 2 1) 8 3
  pub apart : NoSteps weir_apart (at 1 1 1) (at 4 2 1) 8
  -- ---- the questions: "The policy checks, number 13, and numbers 11 .. and 12 .. come in that order."
  pub policy_first : (s : List ℕ) (x y : Context) (work1 work2 k : ℕ) → RefusedWith (policy_questions s) k → RefusedWith (steps_questions s x y work1 work2) k
  pub six_before_13 : RefusedWith (steps_questions no_root (at 0 0 0) (at 0 0 0) 0 0) 6
  -- 14 is one of the policy's (paper 02, b), so that it too comes before 13 and 11, whatever the contexts and the work slices are
  pub fourteen_before_13 : (x y : Context) (work1 work2 : ℕ) → RefusedWith (steps_questions weir_allow31 x y work1 work2) 14
  -- 13, of either context, whatever the work slices have: with no entry 11 would be no too
  pub first_13 : (work1 work2 : ℕ) → RefusedWith (steps_questions weir (at 5 1 1) (at 4 2 1) work1 work2) 13
  pub second_13 : (work1 work2 : ℕ) → RefusedWith (steps_questions weir (at 1 1 1) (at 5 2 1) work1 work2) 13
  -- "11 (at least T × R × U entries in each of the two work slices)": 4 × 2 × 1 are enough (`three`), and one less is not; 2 × 2 × 2
  -- likewise (`mu_met_from`)
  pub first_11 : (work : ℕ) → RefusedWith (steps_questions weir (at 1 1 1) (at 4 2 1) 7 work) 11
  pub second_11 : (work : ℕ) → RefusedWith (steps_questions weir (at 1 1 1) (at 4 2 1) work 7) 11
  pub users_first_11 : (work : ℕ) → RefusedWith (steps_questions two_users (at 2 2 1) (at 1 1 1) 7 work) 11
  pub users_second_11 : (work : ℕ) → RefusedWith (steps_questions two_users (at 2 2 1) (at 1 1 1) work 7) 11

-- ---- the call: it gives n for these arguments, and leaves the path slice as `after`
abbrev pub GivesSteps : List ℕ → Context → Context → ℕ → ℕ → List ℕ → List ℕ → ℕ → Type 0
GivesSteps s x y work1 work2 before after n = Numbered steps_number (StepsPromise s x y work1 work2 before after) n

-- none: 0, and the path slice is as it was
abbrev pub SaysNone : List ℕ → Context → Context → ℕ → Type 0
SaysNone s x y work = (before after : List ℕ) (n : ℕ) → GivesSteps s x y work work before after n → (n ≡ 0) × (after ≡ before)

-- refused with k: 4k + 3, and the path slice is as it was, whatever it is
abbrev pub RefusesSteps : List ℕ → Context → Context → ℕ → ℕ → ℕ → Type 0
RefusesSteps s x y work1 work2 k = (before after : List ℕ) (n : ℕ) → GivesSteps s x y work1 work2 before after n → (n ≡ 4 * k + 3) × (after ≡ before)

-- m steps: with room for them 256m + 1, and a path of m steps is shown; without, 12 with the count, 256m + 51, and the path slice is as it was
pub record SaysSteps (s : List ℕ) (x y : Context) (work m : ℕ) : Type 0 where
  pub room : (before after : List ℕ) (n : ℕ) → 2 * m + 1 ≤ length before → GivesSteps s x y work work before after n
      → (n ≡ 256 * m + 1) × Shows (FlowPath (policy_of s) x y) m before after
  pub no_room : (before after : List ℕ) (n : ℕ) → length before < 2 * m + 1 → GivesSteps s x y work work before after n
      → (n ≡ 256 * m + 51) × (after ≡ before)

-- the path slice after the three steps from type 1 to type 4
pub record PrintsThree (before after : List ℕ) : Type 0 where
  pub whole : length after ≡ length before
  pub x0 : get_or after 0 0 ≡ 273
  pub e0 : get_or after 1 0 ≡ 64
  pub x1 : get_or after 2 0 ≡ 545
  pub e1 : get_or after 3 0 ≡ 65
  pub x2 : get_or after 4 0 ≡ 785
  pub e2 : get_or after 5 0 ≡ 64
  pub x3 : get_or after 6 0 ≡ 1057
  pub rest : (i : ℕ) → 7 ≤ i → get_or after i 0 ≡ get_or before i 0

-- .. and after no step from type 1 to itself: one entry
pub record PrintsOne (before after : List ℕ) : Type 0 where
  pub whole : length after ≡ length before
  pub x0 : get_or after 0 0 ≡ 273
  pub rest : (i : ℕ) → 1 ≤ i → get_or after i 0 ≡ get_or before i 0

pub record StepsCalled : Type 0 where
  pub three : SaysSteps weir (at 1 1 1) (at 4 2 1) 8 3
  pub three_path : (before after : List ℕ) (n : ℕ) → 7 ≤ length before → GivesSteps weir (at 1 1 1) (at 4 2 1) 8 8 before after n → PrintsThree before after
  pub one : SaysSteps weir_allow41 (at 1 1 1) (at 4 2 1) 8 1
  pub itself : SaysSteps weir (at 1 1 1) (at 1 1 1) 8 0
  pub itself_path : (before after : List ℕ) (n : ℕ) → 1 ≤ length before → GivesSteps weir (at 1 1 1) (at 1 1 1) 8 8 before after n → PrintsOne before after
  pub back : SaysNone weir (at 4 2 1) (at 1 1 1) 8
  pub read_in : SaysSteps weir (at 1 1 1) (at 2 2 1) 8 1
  pub read_out : SaysNone weir (at 2 2 1) (at 1 1 1) 8
  pub readers_one : SaysSteps readers (at 2 3 1) (at 1 2 1) 6 1
  pub readers_back : SaysNone readers (at 1 2 1) (at 2 3 1) 6
  pub rho_itself : SaysNone weir (at 3 2 1) (at 3 2 1) 8
  pub rho_from : SaysNone weir (at 3 2 1) (at 4 2 1) 8
  pub rho_to : SaysNone weir (at 2 2 1) (at 3 2 1) 8
  pub rho_met_from : SaysSteps weir (at 3 1 1) (at 4 2 1) 8 1
  pub rho_met_to : SaysSteps weir (at 2 2 1) (at 3 1 1) 8 1
  pub mu_itself : SaysNone two_users (at 2 2 2) (at 2 2 2) 8
  pub mu_from : SaysNone two_users (at 2 2 2) (at 1 1 1) 8
  pub mu_to : SaysNone two_users (at 1 1 2) (at 2 2 2) 8
  pub mu_met_from : SaysSteps two_users (at 2 2 1) (at 1 1 1) 8 1
  pub mu_met_to : SaysSteps two_users (at 1 1 2) (at 2 2 1) 8 1
  pub constrained : SaysSteps weir_constrained (at 1 1 1) (at 4 2 1) 8 3
  pub apart : SaysNone weir_apart (at 1 1 1) (at 4 2 1) 8
  pub policy_first : (s : List ℕ) (x y : Context) (work1 work2 k : ℕ) → RefusedWith (policy_questions s) k → RefusesSteps s x y work1 work2 k
  pub six_before_13 : RefusesSteps no_root (at 0 0 0) (at 0 0 0) 0 0 6
  pub first_13 : (work1 work2 : ℕ) → RefusesSteps weir (at 5 1 1) (at 4 2 1) work1 work2 13
  pub second_13 : (work1 work2 : ℕ) → RefusesSteps weir (at 1 1 1) (at 5 2 1) work1 work2 13
  pub first_11 : (work : ℕ) → RefusesSteps weir (at 1 1 1) (at 4 2 1) 7 work 11
  pub second_11 : (work : ℕ) → RefusesSteps weir (at 1 1 1) (at 4 2 1) work 7 11
  pub users_first_11 : (work : ℕ) → RefusesSteps two_users (at 2 2 1) (at 1 1 1) 7 work 11
  pub users_second_11 : (work : ℕ) → RefusesSteps two_users (at 2 2 1) (at 1 1 1) work 7 11
