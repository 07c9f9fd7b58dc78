-- The role rule on a policy of our own (specs/Cases/Roles.antt), from the definitions alone: a transition with equal roles and no kind 7 record, and near
-- cases in which one clause alone forbids it; then each misreading, on an action of which it says something else.
use mathlib.Core.Bool.{true, false, not}
use mathlib.Core.Path.{◌≡◌, refl}
use Rattle.base.specs.Bits.{bit}
use Rattle.policy_image.specs.Layout.{counts_of, record_count, record_of, policy_head, payload_of, decoded}
use Rattle.policy_image.specs.Policy.{policy_of}
use Rattle.policy_image.specs.OfKind.{some, every}
use Rattle.policy_expressions.specs.Nodes.{use_of}
use Rattle.policy_check.proofs.Tests.{Accepted, accepted}
use Rattle.context.specs.Codes.{context_at as at, event_at as event}
use Rattle.policy_sources.specs.Sources.{domain}
use Rattle.relations.specs.Relations.{Γ, write_like, read_like, allowed, α, ρ, μ, role_change}
use Rattle.constraints.specs.Eval.{eval_at, eval_node}
use Rattle.constraints.specs.Constraints.{constraints_hold}
use Rattle.access.specs.Authorization.{χ, role_rule, authorized, flow}
use Rattle.access.specs.Cases.RoleRules.{authorized_under, flow_under, source_rule, equal_types, equal_users, never_asked, equal_alone, every_event, role_one_alone, either_way, turned}
use Rattle.access.specs.Cases.Roles.{roles, Otherwise}

pub roles_accepted : Accepted roles
unfolding counts_of record_count record_of policy_head payload_of decoded use_of
roles_accepted = accepted refl refl refl refl refl refl refl

-- all that authorization is computed with: what unfolds this unfolds them
unfoldable computed : Unit {0}
unfolding authorized authorized_under flow flow_under χ role_rule constraints_hold eval_node eval_at domain Γ write_like read_like allowed α ρ μ role_change some every bit counts_of record_count record_of policy_head payload_of decoded
computed = tt

-- ---- "a process transition with r1 = r2 needs no kind 7 record": kind 7 has (2,3) alone
pub equal_roles : authorized (policy_of roles) (event 1 0) (at 1 2 1) (at 2 2 1) ≡ true
unfolding computed
equal_roles = refl

-- of two users
pub equal_roles_two_users : authorized (policy_of roles) (event 1 0) (at 1 3 1) (at 2 3 2) ≡ true
unfolding computed
equal_roles_two_users = refl

-- a context to itself
pub equal_roles_itself : authorized (policy_of roles) (event 1 0) (at 1 3 1) (at 1 3 1) ≡ true
unfolding computed
equal_roles_itself = refl

-- ---- "with different roles it does, as before"
pub different_with_record : authorized (policy_of roles) (event 1 0) (at 1 2 1) (at 2 3 1) ≡ true
unfolding computed
different_with_record = refl

-- .. and one has a direction
pub different_without : authorized (policy_of roles) (event 1 0) (at 1 3 1) (at 2 2 1) ≡ false
unfolding computed
different_without = refl

-- .. also where types and users are equal
pub different_itself : authorized (policy_of roles) (event 1 0) (at 1 3 1) (at 1 2 1) ≡ false
unfolding computed
different_itself = refl

-- no other event is asked
pub signal_different : authorized (policy_of roles) (event 1 1) (at 1 3 1) (at 2 2 1) ≡ true
unfolding computed
signal_different = refl

-- ---- equal roles stand for no other clause: each time it alone is false
-- α: 2 may not act on 1
pub equal_but_alpha : authorized (policy_of roles) (event 1 0) (at 2 2 1) (at 1 2 1) ≡ false
unfolding computed
equal_but_alpha = refl

-- ρ: role 4 does not hold type 1, and role 1 does not hold type 2
pub equal_but_rho1 : authorized (policy_of roles) (event 1 0) (at 1 4 1) (at 2 4 1) ≡ false
unfolding computed
equal_but_rho1 = refl

pub equal_but_rho2 : authorized (policy_of roles) (event 1 0) (at 1 1 1) (at 2 1 1) ≡ false
unfolding computed
equal_but_rho2 = refl

-- μ: user 3 does not hold role 2
pub equal_but_mu1 : authorized (policy_of roles) (event 1 0) (at 1 2 3) (at 2 2 1) ≡ false
unfolding computed
equal_but_mu1 = refl

pub equal_but_mu2 : authorized (policy_of roles) (event 1 0) (at 1 2 1) (at 2 2 3) ≡ false
unfolding computed
equal_but_mu2 = refl

-- χ: not u1 = 2
pub equal_but_chi : authorized (policy_of roles) (event 1 0) (at 1 3 2) (at 2 3 2) ≡ false
unfolding computed
equal_but_chi = refl

-- ---- a transition that is read-like: 1 acts, and what flows goes from 2 to 1
pub read_like_equal : flow (policy_of roles) (event 1 0) (at 2 2 1) (at 1 2 1) ≡ true
unfolding computed
read_like_equal = refl

pub read_like_equal_back : flow (policy_of roles) (event 1 0) (at 1 2 1) (at 2 2 1) ≡ false
unfolding computed
read_like_equal_back = refl

-- the record is of the acting context's role and the other's, that is of the flow's target and its source
pub read_like_record : flow (policy_of roles) (event 1 0) (at 2 3 1) (at 1 2 1) ≡ true
unfolding computed
read_like_record = refl

pub read_like_no_record : flow (policy_of roles) (event 1 0) (at 2 2 1) (at 1 3 1) ≡ false
unfolding computed
read_like_no_record = refl

-- ---- misreadings: each says something else
-- the rule as it was
pub not_as_before : Otherwise source_rule (event 1 0) (at 1 2 1) (at 2 2 1)
unfolding computed
not_as_before = refl

-- equal types, which authorizes more here and less there
pub not_equal_types : Otherwise equal_types (event 1 0) (at 1 3 1) (at 1 2 1)
unfolding computed
not_equal_types = refl

pub not_equal_types_alone : Otherwise equal_types (event 1 0) (at 1 2 1) (at 2 2 1)
unfolding computed
not_equal_types_alone = refl

-- equal users
pub not_equal_users : Otherwise equal_users (event 1 0) (at 1 3 1) (at 2 2 1)
unfolding computed
not_equal_users = refl

pub not_equal_users_alone : Otherwise equal_users (event 1 0) (at 1 3 1) (at 2 3 2)
unfolding computed
not_equal_users_alone = refl

-- no transition is asked
pub not_dropped : Otherwise never_asked (event 1 0) (at 1 3 1) (at 2 2 1)
unfolding computed
not_dropped = refl

-- a record no longer helps
pub not_equal_alone : Otherwise equal_alone (event 1 0) (at 1 2 1) (at 2 3 1)
unfolding computed
not_equal_alone = refl

-- every event is asked
pub not_every_event : Otherwise every_event (event 1 1) (at 1 3 1) (at 2 2 1)
unfolding computed
not_every_event = refl

-- role 1 alone is let off
pub not_role_1_alone : Otherwise role_one_alone (event 1 0) (at 1 2 1) (at 2 2 1)
unfolding computed
not_role_1_alone = refl

-- a record serves both ways
pub not_either_way : Otherwise either_way (event 1 0) (at 1 3 1) (at 2 2 1)
unfolding computed
not_either_way = refl

-- of a read-like transition, the flow's source before its target
pub not_flow_order : flow_under turned (policy_of roles) (event 1 0) (at 2 2 1) (at 1 3 1) ≡ not (flow (policy_of roles) (event 1 0) (at 2 2 1) (at 1 3 1))
unfolding computed
not_flow_order = refl
