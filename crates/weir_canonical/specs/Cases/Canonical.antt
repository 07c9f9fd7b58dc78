-- The canonical image (paper 02, e) on named inputs: each case as a statement from the definitions, and as a result of the call, that is what
-- every number that the promise allows is.
use Rattle.std.specs.Prelude.{ℕ, ◌+◌, ◌*◌, ◌≤◌, ◌<◌, true, false, List, [], ◌∷◌, ◌++◌, ◌≡◌, length, drop}
use Rattle.base.specs.Numbers.{Numbered}
use Rattle.base.specs.Questions.{AllYes, RefusedWith}
use Rattle.policy_image.specs.Layout.{record_count, root_of, left_of, right_of}
use Rattle.policy_image.specs.Policy.{policy_of}
use Rattle.policy_image.specs.Cases.Weir.{weir, weir_allow31}
use Rattle.policy_check.specs.Questions.{policy_questions}
use Rattle.policy_facts.specs.Canonical.{canonical_of}
use Rattle.policy_facts.specs.Cases.Same.{Same}
use Rattle.policy_writing.specs.Writing.{writing_number}
use Rattle.context.specs.Codes.{context_at as at, event_at as event}
use Rattle.access.specs.Authorization.{authorized}
use Rattle.canonical.specs.Canonical.{canonical_image, canonical_questions, CanonicalPromise}
use Rattle.weir.specs.Cases.Goals.{weir_allow41, empty}
use Rattle.weir.specs.Cases.JoinPolicies.{weir_read, no_type, leaning, blank, blank_then}
use Rattle.weir_canonical.specs.Cases.CanonicalPolicies.{weir_written, weir_read_written, allows, allows_written, overlapping, overlapping_written, emptied, emptied_written, repeated, repeated_written, both_ways, both_ways_written, by_self, by_type, self_and_type, self_and_type_written, constrained, constrained_written, first_engineer, second_engineer, engineers_written, one_permission_more, other_class, nodes_swapped, children_swapped, roomy, wide_policy, crowded, one_flow, one_flow_again, no_flow}

-- the policy passes the checks, its canonical image has at most 4,095 records and is this one, which passes them too, and of which "Writing twice
-- changes nothing" is so
pub record CanonicalIs (s image : List ℕ) : Type 0 where
  pub accepted : AllYes (policy_questions s)
  pub few : (canonical_of (policy_of s)).size ≤ 4095
  pub written : canonical_image s ≡ image
  pub passes : AllYes (policy_questions image)
  pub again : canonical_image image ≡ image

-- "Two policies give equal bytes exactly when .."; and two near ones, of which neither is so
pub record SayTheSame (s t : List ℕ) : Type 0 where
  pub same : Same (policy_of s) (policy_of t)
  pub bytes : canonical_image s ≡ canonical_image t

pub record SayOtherThings (s t : List ℕ) : Type 0 where
  pub differ : Same (policy_of s) (policy_of t) → ⊥
  pub bytes : canonical_image s ≡ canonical_image t → ⊥

-- whatever the output is, the number of the first question whose answer is no
abbrev pub CanonicalRefused : List ℕ → ℕ → Type 0
CanonicalRefused s k = (output : ℕ) → RefusedWith (canonical_questions s output) k

-- a policy of so many records, whose canonical image has so many
pub record Crowded (s : List ℕ) (records written : ℕ) : Type 0 where
  pub accepted : AllYes (policy_questions s)
  pub has : record_count s ≡ records
  pub comes_to : (canonical_of (policy_of s)).size ≡ written

pub record CanonicalCases : Type 0 where
  -- ---- "records by kind from 1 to 9, each kind consecutive and linked in turn. Kinds 1 to 7 are sorted by a, b, c.": the weir policy's flow records
  -- stand the other way round; by a before b before c
  pub weir_sorted : CanonicalIs weir weir_written
  pub allows_sorted : CanonicalIs allows allows_written
  -- "Masks of equal keys are united", bit by bit, in all four bytes; a key's empty mask takes nothing away
  pub united : CanonicalIs overlapping overlapping_written
  -- "records that carry an empty mask dropped (kinds 2, 3, 4)": and not those of kind 1, which carry none
  pub dropped : CanonicalIs emptied emptied_written
  -- "repeated records of kinds 1, 5, 6 and 7 are written once"
  pub once : CanonicalIs repeated repeated_written
  -- "Flow becomes b = 1 and b = 2 records only.": each way is united with what was there
  pub split : CanonicalIs both_ways both_ways_written
  -- "Self is a key of its own.": 2 on self and 2 on 2 authorize the same, and are not the same facts; self comes before every type
  pub by_self_lem : CanonicalIs by_self by_self
  pub by_type_lem : CanonicalIs by_type by_type
  pub self_and_type_lem : CanonicalIs self_and_type self_and_type_written
  pub self_not_type : SayOtherThings by_self by_type
  -- "Kinds 8 and 9 keep their order, with root, left and right renumbered.": byte by byte
  pub kept : CanonicalIs constrained constrained_written
  -- .. in both bytes of a root, a left and a right: 253, 254 and 255 become 256, 257 and 258
  pub wide_root : root_of ((canonical_of wide_policy).rec 3) ≡ 258
  pub wide_left : left_of ((canonical_of wide_policy).rec 258) ≡ 256
  pub wide_right : right_of ((canonical_of wide_policy).rec 258) ≡ 257
  -- counts are those of the policy, though no record needs them; no record, and no head
  pub counts_kept : CanonicalIs roomy roomy
  pub nothing : CanonicalIs empty empty
  pub nothing_length : length (canonical_image empty) ≡ 24
  -- ---- "Two policies give equal bytes exactly when their counts, their facts of kinds 1 to 7 as written (masks bit by bit, flow's 3 being 1 and 2), and
  -- their lists of kinds 8 and 9 agree, a node being named by its place in the list."
  pub first : CanonicalIs first_engineer engineers_written
  pub second : CanonicalIs second_engineer engineers_written
  pub engineers_agree : SayTheSame first_engineer second_engineer
  -- near them: one permission more, the constraint on another class, two nodes swapped, two children swapped
  pub one_more : SayOtherThings first_engineer one_permission_more
  pub other_class_lem : SayOtherThings first_engineer other_class
  pub nodes_swapped_lem : SayOtherThings first_engineer nodes_swapped
  pub children_swapped_lem : SayOtherThings first_engineer children_swapped
  -- W5's policy, and the weir policy with the board's "4 on 1 read" joined to it, which has domain 4 twice; and the weir policy without it
  pub allow_41 : CanonicalIs weir_allow41 weir_read_written
  pub joined_read : CanonicalIs weir_read weir_read_written
  pub joined_agrees : SayTheSame weir_allow41 weir_read
  pub one_fact_more : SayOtherThings weir weir_allow41
  -- ---- "Every authorization answer survives the writing.": 2 reads 1, and 4 does not, by the constraint; 2 writes itself, by self, and 4 does not
  pub reads : authorized (policy_of second_engineer) (event 2 0) (at 2 2 1) (at 1 1 1) ≡ true
  pub reads_written : authorized (policy_of (canonical_image second_engineer)) (event 2 0) (at 2 2 1) (at 1 1 1) ≡ true
  pub denied : authorized (policy_of second_engineer) (event 2 0) (at 4 2 1) (at 1 1 1) ≡ false
  pub denied_written : authorized (policy_of (canonical_image second_engineer)) (event 2 0) (at 4 2 1) (at 1 1 1) ≡ false
  pub self : authorized (policy_of second_engineer) (event 2 1) (at 2 2 1) (at 2 2 1) ≡ true
  pub self_written : authorized (policy_of (canonical_image second_engineer)) (event 2 1) (at 2 2 1) (at 2 2 1) ≡ true
  pub no_self : authorized (policy_of second_engineer) (event 2 1) (at 4 2 1) (at 4 2 1) ≡ false
  pub no_self_written : authorized (policy_of (canonical_image second_engineer)) (event 2 1) (at 4 2 1) (at 4 2 1) ≡ false
  -- ---- the questions: those of the policy first
  pub policy_first : (s : List ℕ) (k : ℕ) → RefusedWith (policy_questions s) k → CanonicalRefused s k
  pub no_type_2 : CanonicalRefused no_type 2
  pub leaning_14 : CanonicalRefused leaning 14
  -- "splitting flow may make more than 4,095 records, which gives 15, and output too short gives 16 after it": 15 whatever the output has; with 4,095 or
  -- fewer, 16 for each output that is shorter than the image, and none for the others
  pub fifteen : (s : List ℕ) → AllYes (policy_questions s) → 4095 < (canonical_of (policy_of s)).size → CanonicalRefused s 15
  pub sixteen : (s : List ℕ) (output : ℕ) → AllYes (policy_questions s) → (canonical_of (policy_of s)).size ≤ 4095 → output < length (canonical_image s)
      → RefusedWith (canonical_questions s output) 16
  pub enough : (s : List ℕ) (output : ℕ) → AllYes (policy_questions s) → (canonical_of (policy_of s)).size ≤ 4095 → length (canonical_image s) ≤ output
      → AllYes (canonical_questions s output)
  -- 4,095 records, one of them flow's 3, come to 4,096: refused, though the policy itself has no more than 4,095
  pub crowded_15 : Crowded (crowded 1 one_flow 4094) 4095 4096 × CanonicalRefused (crowded 1 one_flow 4094) 15
  -- near it: one record fewer comes to 4,095; 4,095 records that splitting alone makes 4,096 come to 4,095, since two ways have one key; and flow's 3
  -- with an empty mask comes to nothing. Each is written, in 24 + 12 × its records
  pub crowded_fits : Crowded (crowded 1 one_flow 4093) 4094 4095 × AllYes (canonical_questions (crowded 1 one_flow 4093) 49164)
  pub crowded_united : Crowded (crowded 1 one_flow_again 4093) 4095 4095 × AllYes (canonical_questions (crowded 1 one_flow_again 4093) 49164)
  pub crowded_dropped : Crowded (crowded 1 no_flow 4094) 4095 4094 × AllYes (canonical_questions (crowded 1 no_flow 4094) 49152)
  -- the policy's own question before 15: with no type, and 4,096 records to write
  pub two_before_15 : (4095 < (canonical_of (policy_of (crowded 0 one_flow 4094))).size) × CanonicalRefused (crowded 0 one_flow 4094) 2
  -- 24 bytes are enough for no record, and 23 are not
  pub nothing_16 : RefusedWith (canonical_questions empty 23) 16
  pub nothing_enough : AllYes (canonical_questions empty 24)

-- ---- the call: it gives n for this policy, and leaves the output as `after`
abbrev pub GivesCanonical : List ℕ → List ℕ → List ℕ → ℕ → Type 0
GivesCanonical s before after n = Numbered writing_number (CanonicalPromise s before after) n

-- refused with k: 4k + 3, and "Refusals write nothing", whatever the output is
abbrev pub RefusesCanonical : List ℕ → ℕ → Type 0
RefusesCanonical s k = (before after : List ℕ) (n : ℕ) → GivesCanonical s before after n → (n ≡ 4 * k + 3) × (after ≡ before)

-- with room for the image 256 × its length, the output begins with it, and "bytes past the image are unchanged"; without, 16, and nothing is
-- written
pub record SaysCanonical (s image : List ℕ) : Type 0 where
  pub room : (before after : List ℕ) (n : ℕ) → length image ≤ length before → GivesCanonical s before after n
      → (n ≡ 256 * length image) × (after ≡ image ++ drop (length image) before)
  pub no_room : (before after : List ℕ) (n : ℕ) → length before < length image → GivesCanonical s before after n → (n ≡ 4 * 16 + 3) × (after ≡ before)

-- .. and "Writing twice changes nothing": the call says the same of the image itself
abbrev pub SaysTwice : List ℕ → List ℕ → Type 0
SaysTwice s image = SaysCanonical s image × SaysCanonical image image

pub record CanonicalCalled : Type 0 where
  pub weir_sorted : SaysTwice weir weir_written
  pub allows_sorted : SaysTwice allows allows_written
  pub united : SaysTwice overlapping overlapping_written
  pub dropped : SaysTwice emptied emptied_written
  pub once : SaysTwice repeated repeated_written
  pub split : SaysTwice both_ways both_ways_written
  pub by_self_lem : SaysTwice by_self by_self
  pub by_type_lem : SaysTwice by_type by_type
  pub self_and_type_lem : SaysTwice self_and_type self_and_type_written
  pub kept : SaysTwice constrained constrained_written
  pub first : SaysTwice first_engineer engineers_written
  pub second : SaysTwice second_engineer engineers_written
  pub joined_read : SaysTwice weir_read weir_read_written
  pub counts_kept : SaysTwice roomy roomy
  pub nothing : SaysTwice empty empty
  -- for any policy that passes, and whose canonical image has no more than 4,095 records
  pub any : (s : List ℕ) → AllYes (policy_questions s) → (canonical_of (policy_of s)).size ≤ 4095 → SaysCanonical s (canonical_image s)
  -- ---- a policy of 24 bytes: the number is 256 × 24; with 24 bytes all are written, with 26 the last two stay, with 23 all stay
  pub nothing_exact : (after : List ℕ) (n : ℕ) → GivesCanonical empty (blank 24) after n → (n ≡ 6144) × (after ≡ empty)
  pub nothing_longer : (after : List ℕ) (n : ℕ) → GivesCanonical empty (blank_then 7 9) after n → (n ≡ 6144) × (after ≡ empty ++ (7 ∷ 9 ∷ []))
  pub nothing_short : (after : List ℕ) (n : ℕ) → GivesCanonical empty (blank 23) after n → (n ≡ 67) × (after ≡ blank 23)
  -- ---- refusals
  pub policy_first : (s : List ℕ) (k : ℕ) → RefusedWith (policy_questions s) k → RefusesCanonical s k
  pub no_type_2 : RefusesCanonical no_type 2
  pub leaning_14 : RefusesCanonical leaning 14
  -- W9's policy, which paper 02, b, "turns .. into a refusal" (of the other calls: weir, `WeirCalled`)
  pub w9 : RefusesCanonical weir_allow31 14
  pub fifteen : (s : List ℕ) → AllYes (policy_questions s) → 4095 < (canonical_of (policy_of s)).size → RefusesCanonical s 15
  pub crowded_15 : RefusesCanonical (crowded 1 one_flow 4094) 15
  pub two_before_15 : RefusesCanonical (crowded 0 one_flow 4094) 2
  pub crowded_united : (before after : List ℕ) (n : ℕ) → 49164 ≤ length before → GivesCanonical (crowded 1 one_flow_again 4093) before after n → n ≡ 256 * 49164
