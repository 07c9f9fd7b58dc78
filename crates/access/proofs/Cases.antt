-- Authorization and flow on named policies, from the definitions alone: for each clause of the formula an action that it
-- lets pass and a near one that it alone forbids, so that each misreading named is one that a theorem here rejects.
use mathlib.Core.Bool.{true, false}
use mathlib.Core.Path.{◌≡◌, refl}
use Rattle.base.specs.Bits.{bit}
use Rattle.policy_image.specs.Layout.{counts_of, record_count, record_of, policy_head, payload_of, decoded}
use Rattle.policy_image.specs.Policy.{policy_of}
use Rattle.policy_image.specs.OfKind.{some, every}
use Rattle.policy_image.specs.Cases.Weir.{weir, weir_allow31}
use Rattle.policy_expressions.specs.Nodes.{use_of}
use Rattle.policy_check.proofs.Tests.{Accepted, accepted}
use Rattle.context.specs.Codes.{context_at as at, event_at as event}
use Rattle.policy_sources.specs.Sources.{domain}
use Rattle.relations.specs.Relations.{Γ, write_like, read_like, allowed, α, ρ, μ, role_change}
use Rattle.constraints.specs.Eval.{eval_at, eval_node}
use Rattle.constraints.specs.Constraints.{constraints_hold}
use Rattle.access.specs.Authorization.{χ, role_rule, authorized, flow}
use Rattle.access.specs.Cases.Gate.{gate}
use Rattle.access.specs.Cases.Readers.{readers}

pub readers_accepted : Accepted readers
unfolding counts_of record_count record_of policy_head payload_of decoded use_of
readers_accepted = accepted refl refl refl refl refl refl refl

pub gate_accepted : Accepted gate
unfolding counts_of record_count record_of policy_head payload_of decoded use_of
gate_accepted = accepted refl refl refl refl refl refl refl

-- ---- the weir policy: who may do what
pub weir_2_reads_1 : authorized (policy_of weir) (event 2 0) (at 2 2 1) (at 1 1 1) ≡ true
unfolding authorized flow χ role_rule constraints_hold eval_node eval_at domain Γ write_like read_like allowed α ρ μ role_change some every bit counts_of record_count record_of policy_head payload_of decoded
weir_2_reads_1 = refl

pub weir_2_writes_3 : authorized (policy_of weir) (event 2 1) (at 2 2 1) (at 3 1 1) ≡ true
unfolding authorized flow χ role_rule constraints_hold eval_node eval_at domain Γ write_like read_like allowed α ρ μ role_change some every bit counts_of record_count record_of policy_head payload_of decoded
weir_2_writes_3 = refl

pub weir_4_reads_3 : authorized (policy_of weir) (event 2 0) (at 4 2 1) (at 3 1 1) ≡ true
unfolding authorized flow χ role_rule constraints_hold eval_node eval_at domain Γ write_like read_like allowed α ρ μ role_change some every bit counts_of record_count record_of policy_head payload_of decoded
weir_4_reads_3 = refl

pub weir_2_writes_no_1 : authorized (policy_of weir) (event 2 1) (at 2 2 1) (at 1 1 1) ≡ false
unfolding authorized flow χ role_rule constraints_hold eval_node eval_at domain Γ write_like read_like allowed α ρ μ role_change some every bit counts_of record_count record_of policy_head payload_of decoded
weir_2_writes_no_1 = refl

pub weir_4_reads_no_1 : authorized (policy_of weir) (event 2 0) (at 4 2 1) (at 1 1 1) ≡ false
unfolding authorized flow χ role_rule constraints_hold eval_node eval_at domain Γ write_like read_like allowed α ρ μ role_change some every bit counts_of record_count record_of policy_head payload_of decoded
weir_4_reads_no_1 = refl

-- a read flows from the file to the process, and not back
pub weir_read_flows_in : flow (policy_of weir) (event 2 0) (at 1 1 1) (at 2 2 1) ≡ true
unfolding authorized flow χ role_rule constraints_hold eval_node eval_at domain Γ write_like read_like allowed α ρ μ role_change some every bit counts_of record_count record_of policy_head payload_of decoded
weir_read_flows_in = refl

pub weir_read_no_flow_out : flow (policy_of weir) (event 2 0) (at 2 2 1) (at 1 1 1) ≡ false
unfolding authorized flow χ role_rule constraints_hold eval_node eval_at domain Γ write_like read_like allowed α ρ μ role_change some every bit counts_of record_count record_of policy_head payload_of decoded
weir_read_no_flow_out = refl

-- a write flows from the process to the file, and not back
pub weir_write_flows_out : flow (policy_of weir) (event 2 1) (at 2 2 1) (at 3 1 1) ≡ true
unfolding authorized flow χ role_rule constraints_hold eval_node eval_at domain Γ write_like read_like allowed α ρ μ role_change some every bit counts_of record_count record_of policy_head payload_of decoded
weir_write_flows_out = refl

pub weir_write_no_flow_in : flow (policy_of weir) (event 2 1) (at 3 1 1) (at 2 2 1) ≡ false
unfolding authorized flow χ role_rule constraints_hold eval_node eval_at domain Γ write_like read_like allowed α ρ μ role_change some every bit counts_of record_count record_of policy_head payload_of decoded
weir_write_no_flow_in = refl

-- ---- α
pub write_by_domain : authorized (policy_of gate) (event 2 1) (at 2 2 1) (at 1 1 1) ≡ true
unfolding authorized flow χ role_rule constraints_hold eval_node eval_at domain Γ write_like read_like allowed α ρ μ role_change some every bit counts_of record_count record_of policy_head payload_of decoded
write_by_domain = refl

-- an allow whose source is no domain: of the formula alone, since question 14 refuses such a policy
pub source_no_domain : authorized (policy_of weir_allow31) (event 2 0) (at 3 1 1) (at 1 1 1) ≡ false
unfolding authorized flow χ role_rule constraints_hold eval_node eval_at domain Γ write_like read_like allowed α ρ μ role_change some every bit counts_of record_count record_of policy_head payload_of decoded
source_no_domain = refl

-- an allow of a permission that is not in Γ
pub append_not_in_gamma : authorized (policy_of gate) (event 2 2) (at 2 2 1) (at 1 1 1) ≡ false
unfolding authorized flow χ role_rule constraints_hold eval_node eval_at domain Γ write_like read_like allowed α ρ μ role_change some every bit counts_of record_count record_of policy_head payload_of decoded
append_not_in_gamma = refl

-- and the kind 3 record that says that it flows gives no flow
pub append_no_flow_out : flow (policy_of gate) (event 2 2) (at 2 2 1) (at 1 1 1) ≡ false
unfolding authorized flow χ role_rule constraints_hold eval_node eval_at domain Γ write_like read_like allowed α ρ μ role_change some every bit counts_of record_count record_of policy_head payload_of decoded
append_no_flow_out = refl

pub append_no_flow_in : flow (policy_of gate) (event 2 2) (at 1 1 1) (at 2 2 1) ≡ false
unfolding authorized flow χ role_rule constraints_hold eval_node eval_at domain Γ write_like read_like allowed α ρ μ role_change some every bit counts_of record_count record_of policy_head payload_of decoded
append_no_flow_in = refl

-- self is the source type itself ..
pub signal_self : authorized (policy_of gate) (event 1 1) (at 2 2 1) (at 2 2 1) ≡ true
unfolding authorized flow χ role_rule constraints_hold eval_node eval_at domain Γ write_like read_like allowed α ρ μ role_change some every bit counts_of record_count record_of policy_head payload_of decoded
signal_self = refl

-- .. and no other type
pub signal_other : authorized (policy_of gate) (event 1 1) (at 2 2 1) (at 3 2 1) ≡ false
unfolding authorized flow χ role_rule constraints_hold eval_node eval_at domain Γ write_like read_like allowed α ρ μ role_change some every bit counts_of record_count record_of policy_head payload_of decoded
signal_other = refl

-- no allow record gives it
pub read_not_allowed : authorized (policy_of gate) (event 2 0) (at 3 2 1) (at 1 1 1) ≡ false
unfolding authorized flow χ role_rule constraints_hold eval_node eval_at domain Γ write_like read_like allowed α ρ μ role_change some every bit counts_of record_count record_of policy_head payload_of decoded
read_not_allowed = refl

-- an allow is of its class: the one of signal, permission 1 of class 1, gives no write, permission 1 of class 2
pub signal_self_class : authorized (policy_of gate) (event 2 1) (at 2 2 1) (at 2 2 1) ≡ false
unfolding authorized flow χ role_rule constraints_hold eval_node eval_at domain Γ write_like read_like allowed α ρ μ role_change some every bit counts_of record_count record_of policy_head payload_of decoded
signal_self_class = refl

-- flow from a context to itself counts
pub signal_self_flows : flow (policy_of gate) (event 1 1) (at 2 2 1) (at 2 2 1) ≡ true
unfolding authorized flow χ role_rule constraints_hold eval_node eval_at domain Γ write_like read_like allowed α ρ μ role_change some every bit counts_of record_count record_of policy_head payload_of decoded
signal_self_flows = refl

-- a kind 3 record is of its class: that permission 0 of class 1 is write-like says nothing of class 2
pub gate_read_no_flow_out : flow (policy_of gate) (event 2 0) (at 2 2 1) (at 1 1 1) ≡ false
unfolding authorized flow χ role_rule constraints_hold eval_node eval_at domain Γ write_like read_like allowed α ρ μ role_change some every bit counts_of record_count record_of policy_head payload_of decoded
gate_read_no_flow_out = refl

-- ---- ρ
pub source_role_2 : authorized (policy_of gate) (event 2 0) (at 2 2 1) (at 1 1 1) ≡ true
unfolding authorized flow χ role_rule constraints_hold eval_node eval_at domain Γ write_like read_like allowed α ρ μ role_change some every bit counts_of record_count record_of policy_head payload_of decoded
source_role_2 = refl

-- of the source: role 3 does not hold type 2
pub source_role_3 : authorized (policy_of gate) (event 2 0) (at 2 3 1) (at 1 1 1) ≡ false
unfolding authorized flow χ role_rule constraints_hold eval_node eval_at domain Γ write_like read_like allowed α ρ μ role_change some every bit counts_of record_count record_of policy_head payload_of decoded
source_role_3 = refl

-- of the target: role 3 does not hold type 1, which role 1 holds as it is no domain
pub target_role_3 : authorized (policy_of gate) (event 2 0) (at 2 2 1) (at 1 3 1) ≡ false
unfolding authorized flow χ role_rule constraints_hold eval_node eval_at domain Γ write_like read_like allowed α ρ μ role_change some every bit counts_of record_count record_of policy_head payload_of decoded
target_role_3 = refl

-- role 1 holds a domain where a record says so ..
pub role_1_domain_held : authorized (policy_of gate) (event 2 0) (at 5 1 1) (at 1 1 1) ≡ true
unfolding authorized flow χ role_rule constraints_hold eval_node eval_at domain Γ write_like read_like allowed α ρ μ role_change some every bit counts_of record_count record_of policy_head payload_of decoded
role_1_domain_held = refl

-- .. and no other
pub role_1_domain_not_held : authorized (policy_of gate) (event 1 1) (at 2 1 1) (at 2 1 1) ≡ false
unfolding authorized flow χ role_rule constraints_hold eval_node eval_at domain Γ write_like read_like allowed α ρ μ role_change some every bit counts_of record_count record_of policy_head payload_of decoded
role_1_domain_not_held = refl

-- ---- μ
pub source_user_1 : authorized (policy_of gate) (event 2 0) (at 3 3 1) (at 4 1 1) ≡ true
unfolding authorized flow χ role_rule constraints_hold eval_node eval_at domain Γ write_like read_like allowed α ρ μ role_change some every bit counts_of record_count record_of policy_head payload_of decoded
source_user_1 = refl

-- of the source: user 2 does not hold role 3
pub source_user_2 : authorized (policy_of gate) (event 2 0) (at 3 3 2) (at 4 1 1) ≡ false
unfolding authorized flow χ role_rule constraints_hold eval_node eval_at domain Γ write_like read_like allowed α ρ μ role_change some every bit counts_of record_count record_of policy_head payload_of decoded
source_user_2 = refl

pub target_user_1 : authorized (policy_of gate) (event 1 0) (at 2 2 1) (at 3 3 1) ≡ true
unfolding authorized flow χ role_rule constraints_hold eval_node eval_at domain Γ write_like read_like allowed α ρ μ role_change some every bit counts_of record_count record_of policy_head payload_of decoded
target_user_1 = refl

-- of the target
pub target_user_2 : authorized (policy_of gate) (event 1 0) (at 2 2 1) (at 3 3 2) ≡ false
unfolding authorized flow χ role_rule constraints_hold eval_node eval_at domain Γ write_like read_like allowed α ρ μ role_change some every bit counts_of record_count record_of policy_head payload_of decoded
target_user_2 = refl

-- role 1 is held by every user, with no record
pub role_1_any_user : authorized (policy_of gate) (event 2 0) (at 2 2 1) (at 1 1 2) ≡ true
unfolding authorized flow χ role_rule constraints_hold eval_node eval_at domain Γ write_like read_like allowed α ρ μ role_change some every bit counts_of record_count record_of policy_head payload_of decoded
role_1_any_user = refl

-- ---- χ
pub both_constraints : authorized (policy_of gate) (event 2 1) (at 2 2 1) (at 1 1 1) ≡ true
unfolding authorized flow χ role_rule constraints_hold eval_node eval_at domain Γ write_like read_like allowed α ρ μ role_change some every bit counts_of record_count record_of policy_head payload_of decoded
both_constraints = refl

-- the first constraint holds, as the users are the same; the second does not
pub second_constraint_fails : authorized (policy_of gate) (event 2 1) (at 2 2 2) (at 1 1 2) ≡ false
unfolding authorized flow χ role_rule constraints_hold eval_node eval_at domain Γ write_like read_like allowed α ρ μ role_change some every bit counts_of record_count record_of policy_head payload_of decoded
second_constraint_fails = refl

-- the second holds; the first does not
pub first_constraint_fails : authorized (policy_of gate) (event 2 1) (at 2 2 1) (at 1 1 2) ≡ false
unfolding authorized flow χ role_rule constraints_hold eval_node eval_at domain Γ write_like read_like allowed α ρ μ role_change some every bit counts_of record_count record_of policy_head payload_of decoded
first_constraint_fails = refl

-- the users differ, but t1 = 3 and not r2 = 2: suffix 1 is the context that acts
pub nested_operators : authorized (policy_of gate) (event 2 1) (at 3 2 1) (at 4 1 2) ≡ true
unfolding authorized flow χ role_rule constraints_hold eval_node eval_at domain Γ write_like read_like allowed α ρ μ role_change some every bit counts_of record_count record_of policy_head payload_of decoded
nested_operators = refl

-- no constraint is on read
pub constraint_of_write_alone : authorized (policy_of gate) (event 2 0) (at 2 2 2) (at 1 1 2) ≡ true
unfolding authorized flow χ role_rule constraints_hold eval_node eval_at domain Γ write_like read_like allowed α ρ μ role_change some every bit counts_of record_count record_of policy_head payload_of decoded
constraint_of_write_alone = refl

-- .. nor on signal, permission 1 of another class
pub constraint_of_class_alone : authorized (policy_of gate) (event 1 1) (at 2 2 2) (at 2 2 2) ≡ true
unfolding authorized flow χ role_rule constraints_hold eval_node eval_at domain Γ write_like read_like allowed α ρ μ role_change some every bit counts_of record_count record_of policy_head payload_of decoded
constraint_of_class_alone = refl

-- χ is empty outside Γ
pub chi_outside_gamma : χ (policy_of gate) (event 2 2) (at 2 2 1) (at 1 1 1) ≡ false
unfolding authorized flow χ role_rule constraints_hold eval_node eval_at domain Γ write_like read_like allowed α ρ μ role_change some every bit counts_of record_count record_of policy_head payload_of decoded
chi_outside_gamma = refl

-- ---- the role rule
-- process transition with a kind 7 record
pub transition_2_to_3 : authorized (policy_of gate) (event 1 0) (at 2 2 1) (at 3 3 1) ≡ true
unfolding authorized flow χ role_rule constraints_hold eval_node eval_at domain Γ write_like read_like allowed α ρ μ role_change some every bit counts_of record_count record_of policy_head payload_of decoded
transition_2_to_3 = refl

-- with equal roles it needs none (paper 02, f)
pub transition_2_to_2 : authorized (policy_of gate) (event 1 0) (at 2 2 1) (at 3 2 1) ≡ true
unfolding authorized flow χ role_rule constraints_hold eval_node eval_at domain Γ write_like read_like allowed α ρ μ role_change some every bit counts_of record_count record_of policy_head payload_of decoded
transition_2_to_2 = refl

-- nor does another event, whatever the roles are (RoleCases `signal_different`)
pub signal_without_rule : authorized (policy_of gate) (event 1 1) (at 2 2 1) (at 2 2 1) ≡ true
unfolding authorized flow χ role_rule constraints_hold eval_node eval_at domain Γ write_like read_like allowed α ρ μ role_change some every bit counts_of record_count record_of policy_head payload_of decoded
signal_without_rule = refl

pub transition_flows : flow (policy_of gate) (event 1 0) (at 2 2 1) (at 3 3 1) ≡ true
unfolding authorized flow χ role_rule constraints_hold eval_node eval_at domain Γ write_like read_like allowed α ρ μ role_change some every bit counts_of record_count record_of policy_head payload_of decoded
transition_flows = refl

-- ---- who acts where flow is read-like: the flow's target
-- 1 reads 2: flow goes from 2 to 1, and suffix 1 of its constraint is 1
pub read_flow_suffix_1 : flow (policy_of readers) (event 1 1) (at 2 3 1) (at 1 2 1) ≡ true
unfolding authorized flow χ role_rule constraints_hold eval_node eval_at domain Γ write_like read_like allowed α ρ μ role_change some every bit counts_of record_count record_of policy_head payload_of decoded
read_flow_suffix_1 = refl

pub read_flow_no_back : flow (policy_of readers) (event 1 1) (at 1 2 1) (at 2 3 1) ≡ false
unfolding authorized flow χ role_rule constraints_hold eval_node eval_at domain Γ write_like read_like allowed α ρ μ role_change some every bit counts_of record_count record_of policy_head payload_of decoded
read_flow_no_back = refl

-- 1 makes a transition to 2: flow goes from 2 to 1, and the roles asked are those of 1 and of 2, in this order
pub read_like_transition : flow (policy_of readers) (event 1 0) (at 2 3 1) (at 1 2 1) ≡ true
unfolding authorized flow χ role_rule constraints_hold eval_node eval_at domain Γ write_like read_like allowed α ρ μ role_change some every bit counts_of record_count record_of policy_head payload_of decoded
read_like_transition = refl
