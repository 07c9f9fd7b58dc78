-- The join of the maker's and the board's policy (paper 02, c) on named inputs: each case as a statement from the definitions, and as a result of
-- the call, that is what every number that the promise allows is.
use Rattle.std.specs.Prelude.{ℕ, ◌+◌, ◌*◌, ◌/◌, ◌≤◌, ◌<◌, true, false, List, [], ◌∷◌, ◌++◌, ◌≡◌, length, take, drop, Result}
use Rattle.base.specs.Bytes.{byte_at}
use Rattle.base.specs.Numbers.{Numbered}
use Rattle.base.specs.Questions.{AllYes, RefusedWith}
use Rattle.policy_image.specs.Layout.{record_count, root_of, left_of, right_of}
use Rattle.policy_image.specs.Policy.{policy_of}
use Rattle.policy_image.specs.Cases.Weir.{weir}
use Rattle.policy_check.specs.Questions.{policy_questions}
use Rattle.policy_sources.specs.Sources.{domain}
use Rattle.context.specs.Codes.{context_at as at, event_at as event}
use Rattle.relations.specs.Relations.{ρ}
use Rattle.access.specs.Authorization.{authorized}
use Rattle.goal_image.specs.Cases.WeirGoal.{goal_g}
use Rattle.paths.specs.Paths.{Holds, OrderAt}
use Rattle.policy_lists.specs.Joined.{joined}
use Rattle.policy_writing.specs.Writing.{writing_number}
use Rattle.join.specs.Join.{joined_image, join_questions, JoinPromise}
use Rattle.witness.specs.declared.unanswered.Unanswered.{Unanswered}
use Rattle.goal_question.specs.declared.goal.Outcome.{Outcome}
use Rattle.goal_question.specs.GoalQuestion.{GoalPromise}
use Rattle.weir.specs.Cases.Goals.{empty}
use Rattle.weir.specs.Cases.Weir.{W5Slice, Answered}
use Rattle.weir.specs.Cases.Called.{Gives, SaysHolds, SaysBroken, Prints}
use Rattle.weir.specs.Cases.JoinPolicies.{board_read, weir_read, weir_of_two, weir_of_four, weir_guarded, board_guard, weir_taken, guarded_twice, guarded_read, board_domain, weir_domains, nodes_maker, nodes_board, nodes_joined, counts_maker, counts_board, counts_joined, no_type, leaning, beyond, states_many, many_policy, many_domains, blank, blank_then}

-- "Each passes the checks alone", there is room in 4,095 records, the joined image is this one, and it passes the checks too
pub record JoinIs (s t image : List ℕ) : Type 0 where
  pub maker : AllYes (policy_questions s)
  pub board : AllYes (policy_questions t)
  pub few : record_count s + record_count t ≤ 4095
  pub joined : joined_image s t ≡ image
  pub passes : AllYes (policy_questions image)

-- whatever the output is, the number of the first question whose answer is no
abbrev pub JoinRefused : List ℕ → List ℕ → ℕ → Type 0
JoinRefused s t k = (output : ℕ) → RefusedWith (join_questions s t output) k

pub record JoinCases : Type 0 where
  -- ---- "Its relations are those of both record lists taken together". The weir policy in two parts: kinds 1 to 6 add up, and the board's stand by
  -- kind whatever their order was
  pub parts : JoinIs weir_of_two weir_of_four weir
  -- "allows add": the board's "4 on 1 read" breaks G as in W5. ".. a board repeats the domain records that it uses": a record that both have is
  -- written twice. With the board left out, or its records unlinked, G would hold
  pub read : JoinIs weir board_read weir_read
  pub read_before : Answered weir goal_g Holds
  pub read_after : Answered (joined_image weir board_read) goal_g (λ M. OrderAt M 1)
  pub read_slice : (before after : List ℕ) (r : Result Outcome Unanswered) → 3 ≤ length before → GoalPromise (joined_image weir board_read) goal_g 32 32 before after r
      → W5Slice before after r
  -- "a board's constraint may take away what the maker allowed": 2 on 1 read, and not 4 on 3 read. Judged on the maker's list it would stay
  pub taken : JoinIs weir board_guard weir_taken
  pub taken_before : authorized (policy_of weir) (event 2 0) (at 2 2 1) (at 1 1 1) ≡ true
  pub taken_after : authorized (policy_of (joined_image weir board_guard)) (event 2 0) (at 2 2 1) (at 1 1 1) ≡ false
  pub taken_other : authorized (policy_of (joined_image weir board_guard)) (event 2 0) (at 4 2 1) (at 3 1 1) ≡ true
  -- "constraints all apply": the maker's is true of 2 on 1 read and false of 4 on 3 read, the board's the other way round, and neither is
  -- authorized. With one that is enough, or with the board's root taken for the maker's node, one of them would be
  pub twice : JoinIs weir_guarded board_guard guarded_twice
  pub twice_makers : authorized (policy_of weir_guarded) (event 2 0) (at 2 2 1) (at 1 1 1) ≡ true
  pub twice_first : authorized (policy_of (joined_image weir_guarded board_guard)) (event 2 0) (at 2 2 1) (at 1 1 1) ≡ false
  pub twice_second : authorized (policy_of (joined_image weir_guarded board_guard)) (event 2 0) (at 4 2 1) (at 3 1 1) ≡ false
  -- .. the maker's to the board's allow too: 4 on 1 read, which is authorized where the maker has no constraint
  pub guarded : JoinIs weir_guarded board_read guarded_read
  pub guarded_read_lem : authorized (policy_of (joined_image weir_guarded board_read)) (event 2 0) (at 4 2 1) (at 1 1 1) ≡ false
  pub unguarded_read : authorized (policy_of (joined_image weir board_read)) (event 2 0) (at 4 2 1) (at 1 1 1) ≡ true
  -- "a type that either calls a domain is one": type 3 by the board alone, so that role 1 no longer holds it and 2 no longer writes it; and type 2
  -- by the maker alone
  pub domains : JoinIs weir board_domain weir_domains
  pub domain_maker : domain (policy_of weir) 3 ≡ false
  pub domain_board : domain (policy_of (joined_image weir board_domain)) 3 ≡ true
  pub domain_kept : domain (policy_of (joined_image weir board_domain)) 2 ≡ true
  pub rho_before : ρ (policy_of weir) 1 3 ≡ true
  pub rho_after : ρ (policy_of (joined_image weir board_domain)) 1 3 ≡ false
  pub write_before : authorized (policy_of weir) (event 2 1) (at 2 2 1) (at 3 1 1) ≡ true
  pub write_after : authorized (policy_of (joined_image weir board_domain)) (event 2 1) (at 2 2 1) (at 3 1 1) ≡ false
  -- ---- "The result lists kinds 1 to 9 in turn, each linked in order, node numbers adjusted. Records keep their order, the maker's first within a
  -- kind.": byte by byte. Node numbers as they were, adjusted in roots or in children alone, or in a mask that is none, the board's first, and the
  -- records policy by policy would each be other bytes (JoinStandIns)
  pub nodes : JoinIs nodes_maker nodes_board nodes_joined
  -- .. in both bytes of a root, a left and a right: behind 251 records of a maker the board's nodes are 256 to 258, and its constraint is 255
  pub wide_root : root_of ((joined (many_policy 251) (policy_of nodes_board)).rec 255) ≡ 258
  pub wide_left : left_of ((joined (many_policy 251) (policy_of nodes_board)).rec 258) ≡ 256
  pub wide_right : right_of ((joined (many_policy 251) (policy_of nodes_board)).rec 258) ≡ 257
  -- ---- "The result's counts are the larger of each pair.": whichever of the two has it. The smaller, the maker's, the board's or both added would
  -- be other bytes
  pub counts : JoinIs counts_maker counts_board counts_joined
  pub counts_turned : JoinIs counts_board counts_maker counts_joined
  -- ---- no record in either: 24 bytes, and no head
  pub nothing : JoinIs empty empty empty
  pub nothing_length : length (joined_image empty empty) ≡ 24
  -- ---- any two policies that pass, of bytes, joined to one that passes: it can be put to every other call
  pub passes : (s t : List ℕ) → ((i : ℕ) → byte_at s i < 256) → ((i : ℕ) → byte_at t i < 256) → AllYes (policy_questions s) → AllYes (policy_questions t)
      → record_count s + record_count t ≤ 4095 → AllYes (policy_questions (joined_image s t))
  -- ---- the questions: "Each passes the checks alone, the maker's first"
  pub makers_first : (s t : List ℕ) (k : ℕ) → RefusedWith (policy_questions s) k → JoinRefused s t k
  pub boards_next : (s t : List ℕ) (k : ℕ) → AllYes (policy_questions s) → RefusedWith (policy_questions t) k → JoinRefused s t k
  -- the maker's 2, though the board's is the lower number, 1
  pub two_before_1 : RefusedWith (policy_questions []) 1 × JoinRefused no_type [] 2
  pub one_of_board : JoinRefused weir [] 1
  -- "alone": neither a domain record of the other nor its larger count helps
  pub board_14 : JoinRefused weir leaning 14
  pub maker_14 : JoinRefused leaning weir 14
  pub board_5 : JoinRefused weir beyond 5
  -- the board's before 15: the board states 4,095 records, and with the maker's that is more
  pub one_before_15 : (4095 < record_count weir + record_count states_many) × JoinRefused weir states_many 1
  -- "After both policies come 15, more than 4,095 records together, then 16, output shorter than the result.": 15 whatever the output has; with 4,095
  -- or fewer, 16 for each output that is shorter than the result, and none for the others
  pub fifteen : (s t : List ℕ) → AllYes (policy_questions s) → AllYes (policy_questions t) → 4095 < record_count s + record_count t → JoinRefused s t 15
  pub sixteen : (s t : List ℕ) (output : ℕ) → AllYes (policy_questions s) → AllYes (policy_questions t) → record_count s + record_count t ≤ 4095
      → output < length (joined_image s t) → RefusedWith (join_questions s t output) 16
  pub enough : (s t : List ℕ) (output : ℕ) → AllYes (policy_questions s) → AllYes (policy_questions t) → record_count s + record_count t ≤ 4095
      → length (joined_image s t) ≤ output → AllYes (join_questions s t output)
  -- there are such: 4,095 records and one more are refused, whatever the output has; 4,094 and one more are not, with an output of 24 + 12 × 4,095
  -- bytes
  pub many : (n : ℕ) → n ≤ 4095 → AllYes (policy_questions (many_domains n)) × (record_count (many_domains n) ≡ n)
  pub many_15 : JoinRefused (many_domains 4095) (many_domains 1) 15
  pub many_enough : AllYes (join_questions (many_domains 4094) (many_domains 1) 49164)
  -- 24 bytes are enough for no record, and 23 are not
  pub nothing_16 : RefusedWith (join_questions empty empty 23) 16
  pub nothing_enough : AllYes (join_questions empty empty 24)

-- ---- the call: it gives n for these policies, and leaves the output as `after`
abbrev pub GivesJoin : List ℕ → List ℕ → List ℕ → List ℕ → ℕ → Type 0
GivesJoin s t before after n = Numbered writing_number (JoinPromise s t before after) n

-- refused with k: 4k + 3, and "A refusal writes nothing", whatever the output is
abbrev pub RefusesJoin : List ℕ → List ℕ → ℕ → Type 0
RefusesJoin s t k = (before after : List ℕ) (n : ℕ) → GivesJoin s t before after n → (n ≡ 4 * k + 3) × (after ≡ before)

-- with room for the image 256 × its length, the output begins with it, "and bytes past the result are unchanged"; without, 16, and nothing is
-- written
pub record SaysJoined (s t image : List ℕ) : Type 0 where
  pub room : (before after : List ℕ) (n : ℕ) → length image ≤ length before → GivesJoin s t before after n
      → (n ≡ 256 * length image) × (after ≡ image ++ drop (length image) before)
  pub no_room : (before after : List ℕ) (n : ℕ) → length before < length image → GivesJoin s t before after n → (n ≡ 4 * 16 + 3) × (after ≡ before)

pub record JoinCalled : Type 0 where
  pub parts : SaysJoined weir_of_two weir_of_four weir
  pub read : SaysJoined weir board_read weir_read
  pub taken : SaysJoined weir board_guard weir_taken
  pub twice : SaysJoined weir_guarded board_guard guarded_twice
  pub guarded : SaysJoined weir_guarded board_read guarded_read
  pub domains : SaysJoined weir board_domain weir_domains
  pub nodes : SaysJoined nodes_maker nodes_board nodes_joined
  pub counts : SaysJoined counts_maker counts_board counts_joined
  pub counts_turned : SaysJoined counts_board counts_maker counts_joined
  pub nothing : SaysJoined empty empty empty
  -- for any two policies that pass, and have no more than 4,095 records together
  pub any : (s t : List ℕ) → AllYes (policy_questions s) → AllYes (policy_questions t) → record_count s + record_count t ≤ 4095 → SaysJoined s t (joined_image s t)
  -- ---- G of the maker's policy, and of what a call of the join has written: it holds, and W5's answer and path
  pub read_before : SaysHolds weir goal_g
  pub read_after : (before after : List ℕ) (n : ℕ) → 180 ≤ length before → GivesJoin weir board_read before after n → SaysBroken (take (n / 256) after) goal_g 1 1
  pub read_path : (before after : List ℕ) (n : ℕ) → 180 ≤ length before → GivesJoin weir board_read before after n
      → (path path' : List ℕ) (m : ℕ) → 3 ≤ length path → Gives (take (n / 256) after) goal_g 32 32 path path' m → Prints path path'
  -- ---- two policies of 24 bytes: the number is 256 × 24; with 24 bytes all are written, with 26 the last two stay, with 23 all stay
  pub nothing_exact : (after : List ℕ) (n : ℕ) → GivesJoin empty empty (blank 24) after n → (n ≡ 6144) × (after ≡ empty)
  pub nothing_longer : (after : List ℕ) (n : ℕ) → GivesJoin empty empty (blank_then 7 9) after n → (n ≡ 6144) × (after ≡ empty ++ (7 ∷ 9 ∷ []))
  pub nothing_short : (after : List ℕ) (n : ℕ) → GivesJoin empty empty (blank 23) after n → (n ≡ 67) × (after ≡ blank 23)
  -- ---- refusals
  pub makers_first : (s t : List ℕ) (k : ℕ) → RefusedWith (policy_questions s) k → RefusesJoin s t k
  pub boards_next : (s t : List ℕ) (k : ℕ) → AllYes (policy_questions s) → RefusedWith (policy_questions t) k → RefusesJoin s t k
  pub two_before_1 : RefusesJoin no_type [] 2
  pub one_of_board : RefusesJoin weir [] 1
  pub board_14 : RefusesJoin weir leaning 14
  pub maker_14 : RefusesJoin leaning weir 14
  pub board_5 : RefusesJoin weir beyond 5
  pub one_before_15 : RefusesJoin weir states_many 1
  pub fifteen : (s t : List ℕ) → AllYes (policy_questions s) → AllYes (policy_questions t) → 4095 < record_count s + record_count t → RefusesJoin s t 15
  pub many_15 : RefusesJoin (many_domains 4095) (many_domains 1) 15
  pub many_written : (before after : List ℕ) (n : ℕ) → 49164 ≤ length before → GivesJoin (many_domains 4094) (many_domains 1) before after n → n ≡ 256 * 49164
