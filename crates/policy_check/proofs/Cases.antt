-- The questions of a policy on named images, from the definitions alone: an image for each number, and for each way to misread a
-- question an image on which the misreading would answer otherwise. An answer is one (`one_answer`), so each theorem here
-- rules out every other answer to its image.
use Prim.Native.Nat.{ℕ, ◌+◌, ◌*◌, ◌≤◌, ◌<◌}
use mathlib.Core.Path.{◌≡◌, refl}
use mathlib.Core.List.{List, [], ◌∷◌, ◌++◌}
use mathlib.Core.Logic.{inl, inr, ⊎_elim}
use native.Mathlib.Omega.{arith}
use lib.ListN.{length}
use Rattle.policy_image.specs.Layout.{PolicyExact, counts_of, record_count, record_of, policy_head, payload_of, decoded}
use Rattle.policy_image.specs.Counts.{CountsInRange}
use Rattle.policy_image.specs.Policy.{policy_of}
use Rattle.policy_links.specs.Chains.{LinksRise}
use Rattle.policy_image.specs.Cases.Written.{image, no_chain, chain_of, line, domain, permissions, flow, allow, role_type, user_role, role_change, constraint, node}
use Rattle.policy_image.specs.Cases.Weir.{weir, weir_allow31, weir_domain3}
use Rattle.policy_expressions.specs.Nodes.{use_of}
use Rattle.policy_check.proofs.Tests.{Refused, Accepted, refused_1, refused_2, refused_3, refused_4, refused_5, refused_6, refused_14, accepted}

-- ---- whole images
-- the weir policy
pub weir_accepted : Accepted weir
unfolding counts_of record_count record_of policy_head payload_of decoded use_of
weir_accepted = accepted refl refl refl refl refl refl refl

-- W10: "24 bytes, N 0, counts 1, heads 0: accepted"
pub w10_empty : Accepted (image 1 1 1 1 no_chain [])
unfolding counts_of record_count record_of policy_head payload_of decoded use_of
w10_empty = accepted refl refl refl refl refl refl refl

-- each count at its greatest
pub largest_counts : Accepted (image 255 15 15 31 no_chain [])
unfolding counts_of record_count record_of policy_head payload_of decoded use_of
largest_counts = accepted refl refl refl refl refl refl refl

-- ---- question 1
-- W10: "23 bytes: 1", whatever they are
pub w10_short : (s : List ℕ) → length s ≡ 23 → Refused s 1
w10_short s h = record { it = inl ((λ e. let w = e.whole in omega arith), refl) }

-- N above 4,095, whatever the length
pub too_many : (s : List ℕ) → 4095 < record_count s → Refused s 1
too_many s h = record { it = inl ((λ e. let f = e.few in omega arith), refl) }

-- a length that does not fit N: a byte too many, a byte too few
pub not_exact : (s : List ℕ) → (length s ≡ 24 + 12 * record_count s → ⊥) → Refused s 1
not_exact s h = record { it = inl ((λ e. h e.exact), refl) }

pub byte_too_many : Refused (image 1 1 1 1 no_chain [] ++ (0 ∷ [])) 1
unfolding counts_of record_count record_of policy_head payload_of decoded use_of
byte_too_many = refused_1 refl

-- ---- question 2: one count out of range, at either end
pub no_type_lem : Refused (image 0 1 1 1 no_chain []) 2
unfolding counts_of record_count record_of policy_head payload_of decoded use_of
no_type_lem = refused_2 refl refl

pub no_role : Refused (image 1 0 1 1 no_chain []) 2
unfolding counts_of record_count record_of policy_head payload_of decoded use_of
no_role = refused_2 refl refl

pub no_user : Refused (image 1 1 0 1 no_chain []) 2
unfolding counts_of record_count record_of policy_head payload_of decoded use_of
no_user = refused_2 refl refl

pub no_class : Refused (image 1 1 1 0 no_chain []) 2
unfolding counts_of record_count record_of policy_head payload_of decoded use_of
no_class = refused_2 refl refl

pub roles_16 : Refused (image 1 16 1 1 no_chain []) 2
unfolding counts_of record_count record_of policy_head payload_of decoded use_of
roles_16 = refused_2 refl refl

pub users_16 : Refused (image 1 1 16 1 no_chain []) 2
unfolding counts_of record_count record_of policy_head payload_of decoded use_of
users_16 = refused_2 refl refl

pub classes_32 : Refused (image 1 1 1 32 no_chain []) 2
unfolding counts_of record_count record_of policy_head payload_of decoded use_of
classes_32 = refused_2 refl refl

-- ---- question 3
-- W11: "a next equal to its own number: 3", in every image that passes 1 and 2, whichever record it is
pub w11 : (s : List ℕ) → PolicyExact s → CountsInRange (counts_of s) → (i : ℕ) → 1 ≤ i → i ≤ record_count s → (record_of s i).next ≡ i → Refused s 3
w11 s e r i a b h =
    let wrong : LinksRise (policy_of s) → ⊥ = λ l. ⊎_elim (λ z. omega arith) (λ g. omega arith) (l.nexts i a b) in
    record { it = inr (e, inr (r, inl (wrong, refl))) }

-- a head above N
pub head_above_n : Refused (image 1 1 1 1 (chain_of 1) []) 3
unfolding counts_of record_count record_of policy_head payload_of decoded use_of
head_above_n = refused_3 refl refl refl

-- a next above N
pub next_above_n : Refused (image 1 1 1 1 (chain_of 1) (domain 2 1 ∷ [])) 3
unfolding counts_of record_count record_of policy_head payload_of decoded use_of
next_above_n = refused_3 refl refl refl

-- a next below its record
pub next_falls : Refused (image 2 1 1 1 (2 ∷ 0 ∷ 0 ∷ 0 ∷ 0 ∷ 0 ∷ 0 ∷ 0 ∷ 0 ∷ []) (domain 0 1 ∷ domain 1 2 ∷ [])) 3
unfolding counts_of record_count record_of policy_head payload_of decoded use_of
next_falls = refused_3 refl refl refl

-- every next is asked, also that of a record on no chain
pub next_of_loose_record : Refused (image 1 1 1 1 no_chain (domain 1 1 ∷ [])) 3
unfolding counts_of record_count record_of policy_head payload_of decoded use_of
next_of_loose_record = refused_3 refl refl refl

-- ---- question 4
-- a record on no chain
pub record_on_no_chain : Refused (image 1 1 1 1 no_chain (domain 0 1 ∷ [])) 4
unfolding counts_of record_count record_of policy_head payload_of decoded use_of
record_on_no_chain = refused_4 refl refl refl refl

-- a chain that begins after its first record
pub record_passed_over : Refused (image 2 1 1 1 (2 ∷ 0 ∷ 0 ∷ 0 ∷ 0 ∷ 0 ∷ 0 ∷ 0 ∷ 0 ∷ []) (domain 0 1 ∷ domain 0 2 ∷ [])) 4
unfolding counts_of record_count record_of policy_head payload_of decoded use_of
record_passed_over = refused_4 refl refl refl refl

-- a record on another kind's chain alone
pub record_on_other_chain : Refused (image 1 1 1 1 (chain_of 2) (domain 0 1 ∷ [])) 4
unfolding counts_of record_count record_of policy_head payload_of decoded use_of
record_on_other_chain = refused_4 refl refl refl refl

-- a record on its own chain and on another kind's
pub record_on_two_chains : Refused (image 1 1 1 1 (1 ∷ 2 ∷ 0 ∷ 0 ∷ 0 ∷ 0 ∷ 0 ∷ 0 ∷ 0 ∷ []) (domain 2 1 ∷ permissions 0 1 1 ∷ [])) 4
unfolding counts_of record_count record_of policy_head payload_of decoded use_of
record_on_two_chains = refused_4 refl refl refl refl

-- a kind that is none of 1 to 9
pub kind_zero : Refused (image 1 1 1 1 no_chain (line 0 0 1 0 0 0 0 0 0 0 0 ∷ [])) 4
unfolding counts_of record_count record_of policy_head payload_of decoded use_of
kind_zero = refused_4 refl refl refl refl

pub kind_ten : Refused (image 1 1 1 1 no_chain (line 0 10 1 0 0 0 0 0 0 0 0 ∷ [])) 4
unfolding counts_of record_count record_of policy_head payload_of decoded use_of
kind_ten = refused_4 refl refl refl refl

-- ---- question 5
-- each kind with a field out of range
pub domain_zero : Refused (image 1 1 1 1 (chain_of 1) (domain 0 0 ∷ [])) 5
unfolding counts_of record_count record_of policy_head payload_of decoded use_of
domain_zero = refused_5 refl refl refl refl refl

pub domain_above : Refused (image 1 1 1 1 (chain_of 1) (domain 0 2 ∷ [])) 5
unfolding counts_of record_count record_of policy_head payload_of decoded use_of
domain_above = refused_5 refl refl refl refl refl

pub flow_way_zero : Refused (image 1 1 1 1 (chain_of 3) (flow 0 1 0 1 ∷ [])) 5
unfolding counts_of record_count record_of policy_head payload_of decoded use_of
flow_way_zero = refused_5 refl refl refl refl refl

pub flow_way_four : Refused (image 1 1 1 1 (chain_of 3) (flow 0 1 4 1 ∷ [])) 5
unfolding counts_of record_count record_of policy_head payload_of decoded use_of
flow_way_four = refused_5 refl refl refl refl refl

-- "b = 1 write-like, 2 read-like, 3 both"
pub flow_way_three : Accepted (image 1 1 1 1 (chain_of 3) (flow 0 1 3 1 ∷ []))
unfolding counts_of record_count record_of policy_head payload_of decoded use_of
flow_way_three = accepted refl refl refl refl refl refl refl

-- "allow's b from 0": self
pub allow_self : Accepted (image 1 1 1 1 (1 ∷ 0 ∷ 0 ∷ 2 ∷ 0 ∷ 0 ∷ 0 ∷ 0 ∷ 0 ∷ []) (domain 0 1 ∷ allow 0 1 0 1 1 ∷ []))
unfolding counts_of record_count record_of policy_head payload_of decoded use_of
allow_self = accepted refl refl refl refl refl refl refl

pub allow_source_zero : Refused (image 1 1 1 1 (chain_of 4) (allow 0 0 1 1 1 ∷ [])) 5
unfolding counts_of record_count record_of policy_head payload_of decoded use_of
allow_source_zero = refused_5 refl refl refl refl refl

pub allow_target_above : Refused (image 1 1 1 1 (chain_of 4) (allow 0 1 2 1 1 ∷ [])) 5
unfolding counts_of record_count record_of policy_head payload_of decoded use_of
allow_target_above = refused_5 refl refl refl refl refl

pub allow_class_zero : Refused (image 1 1 1 1 (chain_of 4) (allow 0 1 1 0 1 ∷ [])) 5
unfolding counts_of record_count record_of policy_head payload_of decoded use_of
allow_class_zero = refused_5 refl refl refl refl refl

-- b is from 0 in an allow alone
pub role_type_zero : Refused (image 1 1 1 1 (chain_of 5) (role_type 0 1 0 ∷ [])) 5
unfolding counts_of record_count record_of policy_head payload_of decoded use_of
role_type_zero = refused_5 refl refl refl refl refl

-- each class, role, type and user by its own count: images with T 3, R 2, U 1, C 2
pub class_2_of_permissions : Accepted (image 3 2 1 2 (chain_of 2) (permissions 0 2 1 ∷ []))
unfolding counts_of record_count record_of policy_head payload_of decoded use_of
class_2_of_permissions = accepted refl refl refl refl refl refl refl

pub class_3_of_permissions : Refused (image 3 2 1 2 (chain_of 2) (permissions 0 3 1 ∷ [])) 5
unfolding counts_of record_count record_of policy_head payload_of decoded use_of
class_3_of_permissions = refused_5 refl refl refl refl refl

pub class_3_of_flow : Refused (image 3 2 1 2 (chain_of 3) (flow 0 3 1 1 ∷ [])) 5
unfolding counts_of record_count record_of policy_head payload_of decoded use_of
class_3_of_flow = refused_5 refl refl refl refl refl

pub class_3_of_allow : Refused (image 3 2 1 2 (chain_of 4) (allow 0 1 1 3 1 ∷ [])) 5
unfolding counts_of record_count record_of policy_head payload_of decoded use_of
class_3_of_allow = refused_5 refl refl refl refl refl

pub role_3_of_role_type : Refused (image 3 2 1 2 (chain_of 5) (role_type 0 3 1 ∷ [])) 5
unfolding counts_of record_count record_of policy_head payload_of decoded use_of
role_3_of_role_type = refused_5 refl refl refl refl refl

pub type_3_of_role_type : Accepted (image 3 2 1 2 (chain_of 5) (role_type 0 2 3 ∷ []))
unfolding counts_of record_count record_of policy_head payload_of decoded use_of
type_3_of_role_type = accepted refl refl refl refl refl refl refl

pub user_2_of_user_role : Refused (image 3 2 1 2 (chain_of 6) (user_role 0 2 1 ∷ [])) 5
unfolding counts_of record_count record_of policy_head payload_of decoded use_of
user_2_of_user_role = refused_5 refl refl refl refl refl

pub role_2_of_user_role : Accepted (image 3 2 1 2 (chain_of 6) (user_role 0 1 2 ∷ []))
unfolding counts_of record_count record_of policy_head payload_of decoded use_of
role_2_of_user_role = accepted refl refl refl refl refl refl refl

pub role_2_of_role_change : Accepted (image 3 2 1 2 (chain_of 7) (role_change 0 2 2 ∷ []))
unfolding counts_of record_count record_of policy_head payload_of decoded use_of
role_2_of_role_change = accepted refl refl refl refl refl refl refl

pub role_3_of_role_change : Refused (image 3 2 1 2 (chain_of 7) (role_change 0 1 3 ∷ [])) 5
unfolding counts_of record_count record_of policy_head payload_of decoded use_of
role_3_of_role_change = refused_5 refl refl refl refl refl

pub class_3_of_constraint : Refused (image 3 2 1 2 (0 ∷ 0 ∷ 0 ∷ 0 ∷ 0 ∷ 0 ∷ 0 ∷ 1 ∷ 2 ∷ []) (constraint 0 3 1 2 ∷ node 0 4 0 0 0 ∷ [])) 5
unfolding counts_of record_count record_of policy_head payload_of decoded use_of
class_3_of_constraint = refused_5 refl refl refl refl refl

pub t1_at_count : Accepted (image 3 2 1 2 (chain_of 9) (node 0 7 3 0 0 ∷ []))
unfolding counts_of record_count record_of policy_head payload_of decoded use_of
t1_at_count = accepted refl refl refl refl refl refl refl

pub t1_above_count : Refused (image 3 2 1 2 (chain_of 9) (node 0 7 4 0 0 ∷ [])) 5
unfolding counts_of record_count record_of policy_head payload_of decoded use_of
t1_above_count = refused_5 refl refl refl refl refl

pub t2_at_count : Accepted (image 3 2 1 2 (chain_of 9) (node 0 8 3 0 0 ∷ []))
unfolding counts_of record_count record_of policy_head payload_of decoded use_of
t2_at_count = accepted refl refl refl refl refl refl refl

pub t2_above_count : Refused (image 3 2 1 2 (chain_of 9) (node 0 8 4 0 0 ∷ [])) 5
unfolding counts_of record_count record_of policy_head payload_of decoded use_of
t2_above_count = refused_5 refl refl refl refl refl

pub r1_at_count : Accepted (image 3 2 1 2 (chain_of 9) (node 0 9 2 0 0 ∷ []))
unfolding counts_of record_count record_of policy_head payload_of decoded use_of
r1_at_count = accepted refl refl refl refl refl refl refl

pub r1_above_count : Refused (image 3 2 1 2 (chain_of 9) (node 0 9 3 0 0 ∷ [])) 5
unfolding counts_of record_count record_of policy_head payload_of decoded use_of
r1_above_count = refused_5 refl refl refl refl refl

pub r2_at_count : Accepted (image 3 2 1 2 (chain_of 9) (node 0 10 2 0 0 ∷ []))
unfolding counts_of record_count record_of policy_head payload_of decoded use_of
r2_at_count = accepted refl refl refl refl refl refl refl

pub r2_above_count : Refused (image 3 2 1 2 (chain_of 9) (node 0 10 3 0 0 ∷ [])) 5
unfolding counts_of record_count record_of policy_head payload_of decoded use_of
r2_above_count = refused_5 refl refl refl refl refl

pub u1_at_count : Accepted (image 3 2 1 2 (chain_of 9) (node 0 11 1 0 0 ∷ []))
unfolding counts_of record_count record_of policy_head payload_of decoded use_of
u1_at_count = accepted refl refl refl refl refl refl refl

pub u1_above_count : Refused (image 3 2 1 2 (chain_of 9) (node 0 11 2 0 0 ∷ [])) 5
unfolding counts_of record_count record_of policy_head payload_of decoded use_of
u1_above_count = refused_5 refl refl refl refl refl

pub u2_at_count : Accepted (image 3 2 1 2 (chain_of 9) (node 0 12 1 0 0 ∷ []))
unfolding counts_of record_count record_of policy_head payload_of decoded use_of
u2_at_count = accepted refl refl refl refl refl refl refl

pub u2_above_count : Refused (image 3 2 1 2 (chain_of 9) (node 0 12 2 0 0 ∷ [])) 5
unfolding counts_of record_count record_of policy_head payload_of decoded use_of
u2_above_count = refused_5 refl refl refl refl refl

-- the operators are 1 to 12
pub operator_zero : Refused (image 1 1 1 1 (chain_of 9) (node 0 0 0 0 0 ∷ [])) 5
unfolding counts_of record_count record_of policy_head payload_of decoded use_of
operator_zero = refused_5 refl refl refl refl refl

pub operator_twelve : Accepted (image 1 1 1 1 (chain_of 9) (node 0 12 1 0 0 ∷ []))
unfolding counts_of record_count record_of policy_head payload_of decoded use_of
operator_twelve = accepted refl refl refl refl refl refl refl

pub operator_thirteen : Refused (image 1 1 1 1 (chain_of 9) (node 0 13 1 0 0 ∷ [])) 5
unfolding counts_of record_count record_of policy_head payload_of decoded use_of
operator_thirteen = refused_5 refl refl refl refl refl

-- "Fields not named below are 0": b of operators 1 to 6, right of `not`, bytes 8 to 11 of operators 4 to 12
pub operand_of_same : Refused (image 1 1 1 1 (chain_of 9) (node 0 4 1 0 0 ∷ [])) 5
unfolding counts_of record_count record_of policy_head payload_of decoded use_of
operand_of_same = refused_5 refl refl refl refl refl

pub not_with_right : Refused (image 1 1 1 1 (chain_of 9) (node 2 4 0 0 0 ∷ node 0 1 0 1 1 ∷ [])) 5
unfolding counts_of record_count record_of policy_head payload_of decoded use_of
not_with_right = refused_5 refl refl refl refl refl

pub same_with_left : Refused (image 1 1 1 1 (chain_of 9) (node 2 4 0 0 0 ∷ node 0 4 0 1 0 ∷ [])) 5
unfolding counts_of record_count record_of policy_head payload_of decoded use_of
same_with_left = refused_5 refl refl refl refl refl

pub domain_with_mask : Refused (image 1 1 1 1 (chain_of 1) (line 0 1 1 0 0 0 0 1 0 0 0 ∷ [])) 5
unfolding counts_of record_count record_of policy_head payload_of decoded use_of
domain_with_mask = refused_5 refl refl refl refl refl

pub allow_with_d : Refused (image 1 1 1 1 (chain_of 4) (line 0 4 1 1 1 1 0 1 0 0 0 ∷ [])) 5
unfolding counts_of record_count record_of policy_head payload_of decoded use_of
allow_with_d = refused_5 refl refl refl refl refl

pub allow_with_e : Refused (image 1 1 1 1 (chain_of 4) (line 0 4 1 1 1 0 1 1 0 0 0 ∷ [])) 5
unfolding counts_of record_count record_of policy_head payload_of decoded use_of
allow_with_e = refused_5 refl refl refl refl refl

-- a mask may be empty, or name what no kind 2 record gives
pub empty_mask : Accepted (image 1 1 1 1 (1 ∷ 0 ∷ 0 ∷ 2 ∷ 0 ∷ 0 ∷ 0 ∷ 0 ∷ 0 ∷ []) (domain 0 1 ∷ allow 0 1 1 1 0 ∷ []))
unfolding counts_of record_count record_of policy_head payload_of decoded use_of
empty_mask = accepted refl refl refl refl refl refl refl

pub operand_of_same_role : Refused (image 1 1 1 1 (chain_of 9) (node 0 5 1 0 0 ∷ [])) 5
unfolding counts_of record_count record_of policy_head payload_of decoded use_of
operand_of_same_role = refused_5 refl refl refl refl refl

pub operand_of_same_user : Refused (image 1 1 1 1 (chain_of 9) (node 0 6 1 0 0 ∷ [])) 5
unfolding counts_of record_count record_of policy_head payload_of decoded use_of
operand_of_same_user = refused_5 refl refl refl refl refl

pub operand_of_or : Refused (image 1 1 1 1 (chain_of 9) (node 2 4 0 0 0 ∷ node 3 4 0 0 0 ∷ node 0 3 1 1 2 ∷ [])) 5
unfolding counts_of record_count record_of policy_head payload_of decoded use_of
operand_of_or = refused_5 refl refl refl refl refl

-- ---- question 6
-- a root, left or right that is no kind 9 record
pub root_zero : Refused (image 1 1 1 1 (chain_of 8) (constraint 0 1 1 0 ∷ [])) 6
unfolding counts_of record_count record_of policy_head payload_of decoded use_of
root_zero = refused_6 refl refl refl refl refl refl

pub root_no_node : Refused (image 1 1 1 1 (1 ∷ 0 ∷ 0 ∷ 0 ∷ 0 ∷ 0 ∷ 0 ∷ 2 ∷ 0 ∷ []) (domain 0 1 ∷ constraint 0 1 1 1 ∷ [])) 6
unfolding counts_of record_count record_of policy_head payload_of decoded use_of
root_no_node = refused_6 refl refl refl refl refl refl

pub root_above_n : Refused (image 1 1 1 1 (chain_of 8) (constraint 0 1 1 2 ∷ [])) 6
unfolding counts_of record_count record_of policy_head payload_of decoded use_of
root_above_n = refused_6 refl refl refl refl refl refl

pub left_zero : Refused (image 1 1 1 1 (chain_of 9) (node 0 1 0 0 0 ∷ [])) 6
unfolding counts_of record_count record_of policy_head payload_of decoded use_of
left_zero = refused_6 refl refl refl refl refl refl

pub right_no_node : Refused (image 1 1 1 1 (1 ∷ 0 ∷ 0 ∷ 0 ∷ 0 ∷ 0 ∷ 0 ∷ 0 ∷ 2 ∷ []) (domain 0 1 ∷ node 3 4 0 0 0 ∷ node 0 2 0 2 1 ∷ [])) 6
unfolding counts_of record_count record_of policy_head payload_of decoded use_of
right_no_node = refused_6 refl refl refl refl refl refl

-- a root need not stand below its constraint ..
pub root_above_constraint : Accepted (image 1 1 1 1 (0 ∷ 0 ∷ 0 ∷ 0 ∷ 0 ∷ 0 ∷ 0 ∷ 1 ∷ 2 ∷ []) (constraint 0 1 1 2 ∷ node 0 4 0 0 0 ∷ []))
unfolding counts_of record_count record_of policy_head payload_of decoded use_of
root_above_constraint = accepted refl refl refl refl refl refl refl

-- .. a child stands below its node
pub child_is_its_node : Refused (image 1 1 1 1 (chain_of 9) (node 0 1 0 1 0 ∷ [])) 6
unfolding counts_of record_count record_of policy_head payload_of decoded use_of
child_is_its_node = refused_6 refl refl refl refl refl refl

pub child_above_its_node : Refused (image 1 1 1 1 (chain_of 9) (node 2 1 0 2 0 ∷ node 0 4 0 0 0 ∷ [])) 6
unfolding counts_of record_count record_of policy_head payload_of decoded use_of
child_above_its_node = refused_6 refl refl refl refl refl refl

-- "A node is used at most once, as a root or a child"
pub two_roots : Refused (image 1 1 1 1 (0 ∷ 0 ∷ 0 ∷ 0 ∷ 0 ∷ 0 ∷ 0 ∷ 1 ∷ 3 ∷ []) (constraint 2 1 1 3 ∷ constraint 0 1 1 3 ∷ node 0 4 0 0 0 ∷ [])) 6
unfolding counts_of record_count record_of policy_head payload_of decoded use_of
two_roots = refused_6 refl refl refl refl refl refl

pub root_and_child : Refused (image 1 1 1 1 (0 ∷ 0 ∷ 0 ∷ 0 ∷ 0 ∷ 0 ∷ 0 ∷ 1 ∷ 2 ∷ []) (constraint 0 1 1 2 ∷ node 3 4 0 0 0 ∷ node 0 1 0 2 0 ∷ [])) 6
unfolding counts_of record_count record_of policy_head payload_of decoded use_of
root_and_child = refused_6 refl refl refl refl refl refl

pub left_and_right : Refused (image 1 1 1 1 (chain_of 9) (node 2 4 0 0 0 ∷ node 0 2 0 1 1 ∷ [])) 6
unfolding counts_of record_count record_of policy_head payload_of decoded use_of
left_and_right = refused_6 refl refl refl refl refl refl

-- two nodes below an operator of two; no constraint uses it
pub two_leaves : Accepted (image 1 1 1 1 (chain_of 9) (node 2 4 0 0 0 ∷ node 3 5 0 0 0 ∷ node 0 2 0 1 2 ∷ []))
unfolding counts_of record_count record_of policy_head payload_of decoded use_of
two_leaves = accepted refl refl refl refl refl refl refl

-- `not` uses its left alone, `or` both
pub not_of_left : Accepted (image 1 1 1 1 (chain_of 9) (node 2 4 0 0 0 ∷ node 0 1 0 1 0 ∷ []))
unfolding counts_of record_count record_of policy_head payload_of decoded use_of
not_of_left = accepted refl refl refl refl refl refl refl

pub or_of_two : Accepted (image 1 1 1 1 (chain_of 9) (node 2 4 0 0 0 ∷ node 3 5 0 0 0 ∷ node 0 3 0 1 2 ∷ []))
unfolding counts_of record_count record_of policy_head payload_of decoded use_of
or_of_two = accepted refl refl refl refl refl refl refl

pub or_of_one : Refused (image 1 1 1 1 (chain_of 9) (node 2 4 0 0 0 ∷ node 0 3 0 1 0 ∷ [])) 6
unfolding counts_of record_count record_of policy_head payload_of decoded use_of
or_of_one = refused_6 refl refl refl refl refl refl

pub or_without_left : Refused (image 1 1 1 1 (chain_of 9) (node 2 4 0 0 0 ∷ node 0 3 0 0 1 ∷ [])) 6
unfolding counts_of record_count record_of policy_head payload_of decoded use_of
or_without_left = refused_6 refl refl refl refl refl refl

-- ---- question 14
-- W9, as paper 02, b, has it: "Case W9 turns from 'authorizes nothing' into a refusal"; its allow record is the last of four
pub w9_refused : Refused weir_allow31 14
unfolding counts_of record_count record_of policy_head payload_of decoded use_of
w9_refused = refused_14 refl refl refl refl refl refl refl

-- with its source a domain it passes, though the record that says so stands after the allow record
pub w9_domain_accepted : Accepted weir_domain3
unfolding counts_of record_count record_of policy_head payload_of decoded use_of
w9_domain_accepted = accepted refl refl refl refl refl refl refl

pub domain_after_allow : Accepted (image 1 1 1 1 (2 ∷ 0 ∷ 0 ∷ 1 ∷ 0 ∷ 0 ∷ 0 ∷ 0 ∷ 0 ∷ []) (allow 0 1 0 1 1 ∷ domain 0 1 ∷ []))
unfolding counts_of record_count record_of policy_head payload_of decoded use_of
domain_after_allow = accepted refl refl refl refl refl refl refl

-- the first of two allow records is asked too
pub first_source_no_domain : Refused (image 2 1 1 1 (3 ∷ 0 ∷ 0 ∷ 1 ∷ 0 ∷ 0 ∷ 0 ∷ 0 ∷ 0 ∷ []) (allow 2 1 2 1 1 ∷ allow 0 2 1 1 1 ∷ domain 0 2 ∷ [])) 14
unfolding counts_of record_count record_of policy_head payload_of decoded use_of
first_source_no_domain = refused_14 refl refl refl refl refl refl refl

-- the source is asked, and not the target
pub target_no_domain : Accepted (image 2 1 1 1 (1 ∷ 0 ∷ 0 ∷ 2 ∷ 0 ∷ 0 ∷ 0 ∷ 0 ∷ 0 ∷ []) (domain 0 1 ∷ allow 0 1 2 1 1 ∷ []))
unfolding counts_of record_count record_of policy_head payload_of decoded use_of
target_no_domain = accepted refl refl refl refl refl refl refl

pub target_domain_alone : Refused (image 2 1 1 1 (1 ∷ 0 ∷ 0 ∷ 2 ∷ 0 ∷ 0 ∷ 0 ∷ 0 ∷ 0 ∷ []) (domain 0 2 ∷ allow 0 1 2 1 1 ∷ [])) 14
unfolding counts_of record_count record_of policy_head payload_of decoded use_of
target_domain_alone = refused_14 refl refl refl refl refl refl refl

-- self is asked like any other target
pub self_no_domain : Refused (image 1 1 1 1 (chain_of 4) (allow 0 1 0 1 1 ∷ [])) 14
unfolding counts_of record_count record_of policy_head payload_of decoded use_of
self_no_domain = refused_14 refl refl refl refl refl refl refl

-- a record with an empty mask is asked like any other
pub empty_mask_no_domain : Refused (image 1 1 1 1 (chain_of 4) (allow 0 1 1 1 0 ∷ [])) 14
unfolding counts_of record_count record_of policy_head payload_of decoded use_of
empty_mask_no_domain = refused_14 refl refl refl refl refl refl refl

-- a role that holds the source makes it no domain
pub held_no_domain : Refused (image 1 1 1 1 (0 ∷ 0 ∷ 0 ∷ 1 ∷ 2 ∷ 0 ∷ 0 ∷ 0 ∷ 0 ∷ []) (allow 0 1 1 1 1 ∷ role_type 0 1 1 ∷ [])) 14
unfolding counts_of record_count record_of policy_head payload_of decoded use_of
held_no_domain = refused_14 refl refl refl refl refl refl refl

-- ---- the order: of two faults the earlier question gives the number, whichever record has it
pub length_before_counts : Refused (image 0 1 1 1 no_chain [] ++ (0 ∷ [])) 1
unfolding counts_of record_count record_of policy_head payload_of decoded use_of
length_before_counts = refused_1 refl

pub counts_before_links : Refused (image 0 1 1 1 (chain_of 1) []) 2
unfolding counts_of record_count record_of policy_head payload_of decoded use_of
counts_before_links = refused_2 refl refl

pub links_before_chains : Refused (image 1 1 1 1 no_chain (domain 2 1 ∷ [])) 3
unfolding counts_of record_count record_of policy_head payload_of decoded use_of
links_before_chains = refused_3 refl refl refl

pub chains_before_fields : Refused (image 1 1 1 1 no_chain (domain 0 2 ∷ [])) 4
unfolding counts_of record_count record_of policy_head payload_of decoded use_of
chains_before_fields = refused_4 refl refl refl refl

pub fields_before_nodes : Refused (image 1 1 1 1 (2 ∷ 0 ∷ 0 ∷ 0 ∷ 0 ∷ 0 ∷ 0 ∷ 1 ∷ 0 ∷ []) (constraint 0 1 1 0 ∷ domain 0 2 ∷ [])) 5
unfolding counts_of record_count record_of policy_head payload_of decoded use_of
fields_before_nodes = refused_5 refl refl refl refl refl

pub nodes_before_sources : Refused (image 1 1 1 1 (0 ∷ 0 ∷ 0 ∷ 1 ∷ 0 ∷ 0 ∷ 0 ∷ 2 ∷ 0 ∷ []) (allow 0 1 1 1 1 ∷ constraint 0 1 1 0 ∷ [])) 6
unfolding counts_of record_count record_of policy_head payload_of decoded use_of
nodes_before_sources = refused_6 refl refl refl refl refl refl
