-- Canonical images and answers that the promise keeps out, each on a named input: what a misreading of paper 02 (e) would give.
use Rattle.base.specs.declared.refusals.Refusal.{Refusal}
use Rattle.base.specs.declared.refusals.Refusal.TheVariants.{OutputSlice, TooManyRecords}
use Rattle.std.specs.Prelude.{ℕ, ◌≤◌, List, [], ◌∷◌, ◌++◌, ◌≡◌, length, take, Result, Ok, Err}
use Rattle.policy_image.specs.Cases.Written.{line, domain, permissions, flow, allow, role_type, user_role, role_change, constraint, node, heads, lines, image, no_chain, chain_of}
use Rattle.policy_image.specs.Cases.Weir.{weir}
use Rattle.canonical.specs.Canonical.{canonical_image, CanonicalPromise}
use Rattle.weir.specs.Cases.Goals.{empty}
use Rattle.weir.specs.Cases.JoinPolicies.{no_type, leaning, blank, blank_then}
use Rattle.weir_canonical.specs.Cases.CanonicalPolicies.{allows, allows_written, overlapping, overlapping_written, emptied, repeated, both_ways, by_self, by_type, self_and_type, constrained, constrained_written, second_engineer, roomy, crowded, one_flow, one_flow_again, no_flow}
use Rattle.weir_canonical.specs.Cases.Canonical.{GivesCanonical}

-- no answer allows an output with room that begins with these bytes, whatever was there and whatever stands behind them
pub record KeptOut (s wrong : List ℕ) : Type 0 where
  pub it : (before rest : List ℕ) (w : Result ℕ Refusal) → length (canonical_image s) ≤ length before → CanonicalPromise s before (wrong ++ rest) w → ⊥

-- ---- the allows in any order, each by its next, behind the domains
abbrev pub two_one_one : ℕ → List ℕ
two_one_one next = allow next 2 1 1 1

abbrev pub two_one_two : ℕ → List ℕ
two_one_two next = allow next 2 1 2 2

abbrev pub two_three : ℕ → List ℕ
two_three next = allow next 2 3 1 1

abbrev pub three_one : ℕ → List ℕ
three_one next = allow next 3 1 1 1

abbrev pub allows_in : ℕ → ℕ → (one two three four : ℕ → List ℕ) → List ℕ
allows_in s t one two three four =
    image 3 1 1 2 (1 ∷ 0 ∷ 0 ∷ 3 ∷ 0 ∷ 0 ∷ 0 ∷ 0 ∷ 0 ∷ []) (domain 2 s ∷ domain 0 t ∷ one 4 ∷ two 5 ∷ three 6 ∷ four 0 ∷ [])

-- .. linked otherwise
abbrev pub allows_linked : (one two three four five : ℕ) → List ℕ
allows_linked one two three four five =
    image 3 1 1 2 (1 ∷ 0 ∷ 0 ∷ 3 ∷ 0 ∷ 0 ∷ 0 ∷ 0 ∷ 0 ∷ [])
    (domain one 2 ∷ domain two 3 ∷ two_one_one three ∷ two_one_two four ∷ two_three five ∷ three_one 0 ∷ [])

-- ---- the masks united to these
abbrev pub united_to : (one two three four mask : ℕ) → List ℕ
united_to one two three four mask =
    image 2 1 1 1 (1 ∷ 2 ∷ 0 ∷ 3 ∷ 0 ∷ 0 ∷ 0 ∷ 0 ∷ 0 ∷ []) (domain 0 2 ∷ line 0 2 1 0 0 0 0 one two three four ∷ allow 0 2 1 1 mask ∷ [])

abbrev pub kept_apart : List ℕ
kept_apart =
    image 2 1 1 1 (1 ∷ 2 ∷ 0 ∷ 4 ∷ 0 ∷ 0 ∷ 0 ∷ 0 ∷ 0 ∷ [])
    (domain 0 2 ∷ line 3 2 1 0 0 0 0 1 2 0 0 ∷ line 0 2 1 0 0 0 0 1 0 0 128 ∷ allow 5 2 1 1 3 ∷ allow 0 2 1 1 6 ∷ [])

-- ---- a domain and one more record, or two
abbrev pub domain_and : List ℕ → List (List ℕ) → List ℕ
domain_and hs rs = image 2 1 1 1 hs (domain 0 2 ∷ rs)

-- ---- the records of kinds 1, 5, 6 and 7, and one of them again
abbrev pub repeated_in : (five six seven : ℕ) → List (List ℕ) → List ℕ
repeated_in five six seven rs = image 2 1 1 1 (1 ∷ 0 ∷ 0 ∷ 0 ∷ five ∷ six ∷ seven ∷ 0 ∷ 0 ∷ []) rs

-- ---- flow records alone
abbrev pub flows : List (List ℕ) → List ℕ
flows rs = image 1 1 1 2 (chain_of 3) rs

-- ---- the constraints and nodes, behind the domain and the class: `first` is the first node's number
abbrev pub kept_with : ℕ → List (List ℕ) → List (List ℕ) → List ℕ
kept_with first constraints nodes =
    image 3 1 1 3 (1 ∷ 2 ∷ 0 ∷ 0 ∷ 0 ∷ 0 ∷ 0 ∷ 3 ∷ first ∷ []) (domain 0 2 ∷ permissions 0 1 1 ∷ (constraints ++ nodes))

-- .. as they are but for the three roots, the third one's mask, the left of "not", and the left and the right of "and"
abbrev pub numbered : (root root' root'' mask left left' right : ℕ) → List ℕ
numbered root root' root'' mask left left' right =
    kept_with 6
    (constraint 4 3 1 root ∷ constraint 5 1 0 root' ∷ line 0 8 1 0 0 root'' 0 mask 0 mask 0 ∷ [])
    (node 7 7 2 0 0 ∷ node 8 4 0 0 0 ∷ node 9 1 0 left 0 ∷ node 10 8 3 0 0 ∷ node 11 2 0 left' right ∷ node 12 4 0 0 0 ∷ node 0 5 0 0 0 ∷ [])

-- the constraints by class; those on class 1 as one; without the empty one
abbrev pub sorted_constraints : List ℕ
sorted_constraints =
    kept_with 6
    (constraint 4 1 0 10 ∷ line 5 8 1 0 0 12 0 1 0 1 0 ∷ constraint 0 3 1 8 ∷ [])
    (node 7 7 2 0 0 ∷ node 8 4 0 0 0 ∷ node 9 1 0 7 0 ∷ node 10 8 3 0 0 ∷ node 11 2 0 6 9 ∷ node 12 4 0 0 0 ∷ node 0 5 0 0 0 ∷ [])

abbrev pub fewer_constraints : ℕ → List ℕ
fewer_constraints root =
    kept_with 5
    (constraint 4 3 1 7 ∷ line 0 8 1 0 0 root 0 1 0 1 0 ∷ [])
    (node 6 7 2 0 0 ∷ node 7 4 0 0 0 ∷ node 8 1 0 6 0 ∷ node 9 8 3 0 0 ∷ node 10 2 0 5 8 ∷ node 11 4 0 0 0 ∷ node 0 5 0 0 0 ∷ [])

-- the nodes without the one that no record uses; by operator
abbrev pub unused_dropped : List ℕ
unused_dropped =
    kept_with 6
    (constraint 4 3 1 8 ∷ constraint 5 1 0 10 ∷ line 0 8 1 0 0 11 0 1 0 1 0 ∷ [])
    (node 7 7 2 0 0 ∷ node 8 4 0 0 0 ∷ node 9 1 0 7 0 ∷ node 10 8 3 0 0 ∷ node 11 2 0 6 9 ∷ node 0 5 0 0 0 ∷ [])

abbrev pub sorted_nodes : List ℕ
sorted_nodes =
    kept_with 6
    (constraint 4 3 1 6 ∷ constraint 5 1 0 7 ∷ line 0 8 1 0 0 10 0 1 0 1 0 ∷ [])
    (node 7 1 0 8 0 ∷ node 8 2 0 11 12 ∷ node 9 4 0 0 0 ∷ node 10 4 0 0 0 ∷ node 11 5 0 0 0 ∷ node 12 7 2 0 0 ∷ node 0 8 3 0 0 ∷ [])

-- ---- a header that states n records and has these heads, before the four records of kinds 1, 5, 6 and 7
abbrev pub headed : ℕ → List ℕ → List ℕ
headed n hs = 2 ∷ 1 ∷ 1 ∷ 1 ∷ n ∷ 0 ∷ (heads hs ++ lines (domain 0 2 ∷ role_type 0 1 2 ∷ user_role 0 1 1 ∷ role_change 0 1 1 ∷ []))

pub record CanonicalStandIns : Type 0 where
  -- ---- "records by kind from 1 to 9": as they stood
  pub not_as_it_stood : KeptOut second_engineer second_engineer
  -- "Kinds 1 to 7 are sorted by a, b, c": kinds 1 to 7 in the policy's order; by b before a; by c before a and b; c passed over; falling; allows
  -- alone; classes taken for one key
  pub rightly_sorted : allows_in 2 3 two_one_one two_one_two two_three three_one ≡ allows_written
  pub not_unsorted : KeptOut weir weir
  pub not_b_first : KeptOut allows (allows_in 2 3 two_one_one two_one_two three_one two_three)
  pub not_c_first : KeptOut allows (allows_in 2 3 two_one_one two_three three_one two_one_two)
  pub not_c_passed_over : KeptOut allows (allows_in 2 3 two_one_two two_one_one two_three three_one)
  pub not_falling : KeptOut allows (allows_in 3 2 three_one two_three two_one_two two_one_one)
  pub not_allows_alone : KeptOut allows (allows_in 3 2 two_one_one two_one_two two_three three_one)
  pub not_classes_united : KeptOut allows
      (image 3 1 1 2 (1 ∷ 0 ∷ 0 ∷ 3 ∷ 0 ∷ 0 ∷ 0 ∷ 0 ∷ 0 ∷ []) (domain 2 2 ∷ domain 0 3 ∷ allow 4 2 1 1 3 ∷ allow 5 2 3 1 1 ∷ allow 0 3 1 1 1 ∷ []))
  -- "each kind consecutive and linked in turn": not linked; linked across kinds
  pub rightly_linked : allows_linked 2 0 4 5 6 ≡ allows_written
  pub not_unlinked : KeptOut allows (allows_linked 0 0 0 0 0)
  pub not_linked_across : KeptOut allows (allows_linked 2 3 4 5 6)
  -- ---- "Masks of equal keys are united": kept apart; added; the first alone; the last alone; the bits that all have; the bits that one alone has; the
  -- low byte alone; a key dropped for one of its records
  pub rightly_united : united_to 1 2 0 128 7 ≡ overlapping_written
  pub not_kept_apart : KeptOut overlapping kept_apart
  pub not_added : KeptOut overlapping (united_to 2 2 0 128 9)
  pub not_first_mask : KeptOut overlapping (united_to 1 0 0 128 3)
  pub not_last_mask : KeptOut overlapping (united_to 1 2 0 0 6)
  pub not_common_bits : KeptOut overlapping (united_to 1 0 0 0 2)
  pub not_single_bits : KeptOut overlapping (united_to 0 2 0 128 5)
  pub not_low_byte : KeptOut overlapping (united_to 1 0 0 0 7)
  pub not_dropped_for_one : KeptOut overlapping (domain_and (1 ∷ 2 ∷ 0 ∷ 0 ∷ 0 ∷ 0 ∷ 0 ∷ 0 ∷ 0 ∷ []) (line 0 2 1 0 0 0 0 1 2 0 128 ∷ []))
  -- ---- "records that carry an empty mask dropped (kinds 2, 3, 4)": each of them kept; those of kind 1 dropped as well
  pub not_empty_class : KeptOut emptied (domain_and (1 ∷ 2 ∷ 0 ∷ 0 ∷ 0 ∷ 0 ∷ 0 ∷ 0 ∷ 0 ∷ []) (permissions 0 1 0 ∷ []))
  pub not_empty_flow : KeptOut emptied (domain_and (1 ∷ 0 ∷ 2 ∷ 0 ∷ 0 ∷ 0 ∷ 0 ∷ 0 ∷ 0 ∷ []) (flow 3 1 1 0 ∷ flow 0 1 2 0 ∷ []))
  pub not_empty_allow : KeptOut emptied (domain_and (1 ∷ 0 ∷ 0 ∷ 2 ∷ 0 ∷ 0 ∷ 0 ∷ 0 ∷ 0 ∷ []) (allow 0 2 1 1 0 ∷ []))
  pub not_all_dropped : KeptOut emptied (image 2 1 1 1 no_chain [])
  -- ---- "repeated records of kinds 1, 5, 6 and 7 are written once": each of them twice
  pub not_domain_twice : KeptOut repeated (repeated_in 3 4 5 (domain 2 2 ∷ domain 0 2 ∷ role_type 0 1 2 ∷ user_role 0 1 1 ∷ role_change 0 1 1 ∷ []))
  pub not_role_type_twice : KeptOut repeated (repeated_in 2 4 5 (domain 0 2 ∷ role_type 3 1 2 ∷ role_type 0 1 2 ∷ user_role 0 1 1 ∷ role_change 0 1 1 ∷ []))
  pub not_user_role_twice : KeptOut repeated (repeated_in 2 3 5 (domain 0 2 ∷ role_type 0 1 2 ∷ user_role 4 1 1 ∷ user_role 0 1 1 ∷ role_change 0 1 1 ∷ []))
  pub not_role_change_twice : KeptOut repeated (repeated_in 2 3 4 (domain 0 2 ∷ role_type 0 1 2 ∷ user_role 0 1 1 ∷ role_change 5 1 1 ∷ role_change 0 1 1 ∷ []))
  -- ---- "Flow becomes b = 1 and b = 2 records only.": 3 kept; to 1 alone; to 2 alone; split, and not united; 1 and 2 of one mask put together to 3
  pub not_unsplit : KeptOut both_ways (flows (flow 2 1 1 6 ∷ flow 3 1 3 5 ∷ flow 0 2 3 1 ∷ []))
  pub not_to_1_alone : KeptOut both_ways (flows (flow 2 1 1 7 ∷ flow 0 2 1 1 ∷ []))
  pub not_to_2_alone : KeptOut both_ways (flows (flow 2 1 1 6 ∷ flow 3 1 2 5 ∷ flow 0 2 2 1 ∷ []))
  pub not_split_apart : KeptOut both_ways (flows (flow 2 1 1 5 ∷ flow 3 1 1 6 ∷ flow 4 1 2 5 ∷ flow 5 2 1 1 ∷ flow 0 2 2 1 ∷ []))
  pub not_put_together : KeptOut both_ways (flows (flow 2 1 1 7 ∷ flow 3 1 2 5 ∷ flow 0 2 3 1 ∷ []))
  -- ---- "Self is a key of its own.": written as the type; the type written as self; both united; self sorted as the type that it means, or last
  pub not_self_named : KeptOut by_self by_type
  pub not_type_as_self : KeptOut by_type by_self
  pub not_self_united : KeptOut self_and_type (domain_and (1 ∷ 0 ∷ 0 ∷ 2 ∷ 0 ∷ 0 ∷ 0 ∷ 0 ∷ 0 ∷ []) (allow 3 2 1 1 1 ∷ allow 0 2 2 1 3 ∷ []))
  pub not_self_as_type : KeptOut self_and_type
      (domain_and (1 ∷ 0 ∷ 0 ∷ 2 ∷ 0 ∷ 0 ∷ 0 ∷ 0 ∷ 0 ∷ []) (allow 3 2 1 1 1 ∷ allow 4 2 0 1 2 ∷ allow 0 2 2 1 1 ∷ []))
  pub not_self_last : KeptOut self_and_type
      (domain_and (1 ∷ 0 ∷ 0 ∷ 2 ∷ 0 ∷ 0 ∷ 0 ∷ 0 ∷ 0 ∷ []) (allow 3 2 1 1 1 ∷ allow 4 2 2 1 1 ∷ allow 0 2 0 1 2 ∷ []))
  -- ---- "Kinds 8 and 9 keep their order": constraints sorted, united, or dropped with an empty mask; nodes dropped that no record uses, or sorted
  pub not_sorted_constraints : KeptOut constrained sorted_constraints
  pub not_united_constraints : KeptOut constrained (fewer_constraints 9)
  pub not_empty_constraint_dropped : KeptOut constrained (fewer_constraints 11)
  pub not_unused_dropped : KeptOut constrained unused_dropped
  pub not_sorted_nodes : KeptOut constrained sorted_nodes
  -- "with root, left and right renumbered": as they were; roots alone; left and right alone; left alone; by the places in the list, without the records
  -- before it; by the records that the policy has of the other kinds; in a mask, as if it were left and right
  pub rightly_numbered : numbered 8 10 12 1 7 6 9 ≡ constrained_written
  pub not_unnumbered : KeptOut constrained (numbered 3 8 11 1 2 1 7)
  pub not_roots_alone : KeptOut constrained (numbered 8 10 12 1 2 1 7)
  pub not_children_alone : KeptOut constrained (numbered 3 8 11 1 7 6 9)
  pub not_left_alone : KeptOut constrained (numbered 8 10 12 1 7 6 7)
  pub not_by_place_alone : KeptOut constrained (numbered 3 5 7 1 2 1 4)
  pub not_by_records_read : KeptOut constrained (numbered 9 11 13 1 8 7 10)
  pub not_in_a_mask : KeptOut constrained (numbered 8 10 12 6 7 6 9)
  -- ---- the header: N as the policy has it; heads as it has them; a head where a kind has no record; counts of what is used
  pub not_count_read : KeptOut repeated (headed 8 (1 ∷ 0 ∷ 0 ∷ 0 ∷ 2 ∷ 3 ∷ 4 ∷ 0 ∷ 0 ∷ []))
  pub not_heads_read : KeptOut repeated (headed 4 (1 ∷ 0 ∷ 0 ∷ 0 ∷ 3 ∷ 5 ∷ 7 ∷ 0 ∷ 0 ∷ []))
  pub not_heads_filled : KeptOut repeated (headed 4 (1 ∷ 2 ∷ 2 ∷ 2 ∷ 2 ∷ 3 ∷ 4 ∷ 5 ∷ 5 ∷ []))
  pub not_counts_used : KeptOut roomy (image 1 1 1 1 no_chain [])
  -- ---- "bytes past the image are unchanged": cleared; cut off. And an output left as it was
  pub not_cleared : (w : Result ℕ Refusal) → CanonicalPromise empty (blank_then 7 9) (empty ++ (0 ∷ 0 ∷ [])) w → ⊥
  pub not_cut_off : (w : Result ℕ Refusal) → CanonicalPromise empty (blank_then 7 9) empty w → ⊥
  pub not_unwritten : (w : Result ℕ Refusal) → CanonicalPromise empty (blank 24) (blank 24) w → ⊥
  -- ---- "Refusals write nothing": as much as there is room for, on 16; something on 14, and on 15
  pub not_written_on_16 : (w : Result ℕ Refusal) → CanonicalPromise empty (blank 23) (take 23 empty) w → ⊥
  pub not_written_on_14 : (w : Result ℕ Refusal) → CanonicalPromise leaning (0 ∷ []) (4 ∷ []) w → ⊥
  pub not_written_on_15 : (w : Result ℕ Refusal) → CanonicalPromise (crowded 1 one_flow 4094) (0 ∷ []) (1 ∷ []) w → ⊥
  -- ---- the order of the questions: 15 before the policy's own; 16 before them; 16 before 15
  pub not_15_before_policy : (before after : List ℕ) → CanonicalPromise (crowded 0 one_flow 4094) before after (Err TooManyRecords) → ⊥
  pub not_16_before_policy : (after : List ℕ) → CanonicalPromise leaning [] after (Err OutputSlice) → ⊥
  pub not_16_before_15 : (before after : List ℕ) → CanonicalPromise (crowded 1 one_flow 4094) before after (Err OutputSlice) → ⊥
  -- ---- 15 by the records that the policy has, which are 4,095; by what splitting alone makes; by what is there before empty masks are dropped; at 4,095
  -- already
  pub not_15_by_records : (before after : List ℕ) (n : ℕ) → CanonicalPromise (crowded 1 one_flow 4094) before after (Ok n) → ⊥
  pub not_15_by_splitting : (before after : List ℕ) → CanonicalPromise (crowded 1 one_flow_again 4093) before after (Err TooManyRecords) → ⊥
  pub not_15_by_empty : (before after : List ℕ) → CanonicalPromise (crowded 1 no_flow 4094) before after (Err TooManyRecords) → ⊥
  pub not_15_at_4095 : (before after : List ℕ) → CanonicalPromise (crowded 1 one_flow 4093) before after (Err TooManyRecords) → ⊥
  -- ---- one that refuses all; an output exactly as long refused; a policy written that is not accepted
  pub not_refusing : (after : List ℕ) (r : Refusal) → CanonicalPromise empty (blank 24) after (Err r) → ⊥
  pub not_unaccepted : (before after : List ℕ) (n : ℕ) → CanonicalPromise no_type before after (Ok n) → ⊥
  -- ---- the length: the output's, or any other; for C without the factor 256
  pub not_output_length : (after : List ℕ) (n : ℕ) → CanonicalPromise empty (blank_then 7 9) after (Ok n) → n ≡ 24
  pub not_length_alone : (after : List ℕ) → GivesCanonical empty (blank 24) after 24 → ⊥
