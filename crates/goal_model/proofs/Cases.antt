-- Answers on named images, from the definitions alone: the model's own part, that is which contexts and events the images' bytes
-- stand for. What the path definitions say of a model is shown case by case in crate paths.
use mathlib.Core.Bool.{not}
use mathlib.Core.List.{List, [], ◌∷◌}
use mathlib.Core.Path.{refl}
use Prim.Native.Nat.{ℕ}
use lib.Dec.{T}
use Rattle.base.specs.Bits.{bit}
use Rattle.policy_image.specs.Layout.{counts_of, record_count, record_of, policy_head, payload_of, decoded}
use Rattle.policy_image.specs.Policy.{policy_of}
use Rattle.policy_image.specs.OfKind.{some, every}
use Rattle.policy_image.specs.Cases.Weir.{weir}
use Rattle.policy_expressions.specs.Nodes.{use_of}
use Rattle.policy_check.proofs.Tests.{Accepted, accepted}
use Rattle.policy_sources.specs.Sources.{domain}
use Rattle.relations.specs.Relations.{Γ, write_like, read_like, allowed, α, ρ, μ, role_change}
use Rattle.constraints.specs.Constraints.{constraints_hold}
use Rattle.access.specs.Authorization.{χ, role_rule, authorized, flow}
use Rattle.goal_image.specs.Layout.{legs_of, flags_of, goal_count, goal_head, next_of, context_record_of, event_record_of}
use Rattle.goal_image.specs.Goal.{goal_of}
use Rattle.goal_image.specs.Sets.{context_in, event_in}
use Rattle.goal_image.specs.Cases.WeirGoal.{goal_g}
use Rattle.paths.specs.Paths.{Holds, EventsAt}
use Rattle.paths.proofs.Decide.{holds_by, events_by}
use Rattle.goal_model.specs.Images.{in_range, meetsρμ, model}
use Rattle.goal_model.specs.Cases.OwnGoals.{write_only, any_class, role_two, role_one, users, user_two, user_one}
use Rattle.goal_model.proofs.Cover.{Step, uncovered, finite}

abbrev pub step : ℕ → ℕ → ℕ → Step
step x e y = record { x = x; e = e; y = y }

-- the weir policy's steps: 1 to 2 by read, 2 to 3 by write, 3 to 4 by read
abbrev pub steps : List Step
steps = step 273 64 545 ∷ step 545 65 785 ∷ step 785 64 1057 ∷ []

pub covers : T (not (uncovered (policy_of weir) steps))
unfolding uncovered in_range flow authorized χ role_rule constraints_hold domain Γ write_like read_like allowed α ρ μ role_change some every bit counts_of record_count record_of payload_of decoded
covers = tt

-- G holds
pub goal_g_lem : Holds (model weir goal_g)
unfolding in_range meetsρμ flow authorized χ role_rule constraints_hold domain Γ write_like read_like allowed α ρ μ role_change some every bit counts_of record_count record_of payload_of decoded legs_of flags_of goal_count goal_head next_of context_record_of event_record_of context_in event_in
goal_g_lem = holds_by (model weir goal_g) (finite (policy_of weir) steps covers (goal_of goal_g)) 4 tt

-- "0 in a field means any": with 0 read as no number, σ0 to σ2 would be empty, and the goal would hold
pub zero_is_any : EventsAt (model weir write_only) 3
unfolding in_range meetsρμ flow authorized χ role_rule constraints_hold domain Γ write_like read_like allowed α ρ μ role_change some every bit counts_of record_count record_of payload_of decoded legs_of flags_of goal_count goal_head next_of context_record_of event_record_of context_in event_in
zero_is_any = events_by (model weir write_only) (finite (policy_of weir) steps covers (goal_of write_only)) 3 tt

-- a class of 0 is any class, and fields that are not 0 are held to the number
pub any_class_lem : Holds (model weir any_class)
unfolding in_range meetsρμ flow authorized χ role_rule constraints_hold domain Γ write_like read_like allowed α ρ μ role_change some every bit counts_of record_count record_of payload_of decoded legs_of flags_of goal_count goal_head next_of context_record_of event_record_of context_in event_in
any_class_lem = holds_by (model weir any_class) (finite (policy_of weir) steps covers (goal_of any_class)) 4 tt

-- "x0 .. meets ρ": role 2 does not hold type 1, so no path starts there. With ρ not asked: events 0
pub start_fails_rho : Holds (model weir role_two)
unfolding in_range meetsρμ flow authorized χ role_rule constraints_hold domain Γ write_like read_like allowed α ρ μ role_change some every bit counts_of record_count record_of payload_of decoded legs_of flags_of goal_count goal_head next_of context_record_of event_record_of context_in event_in
start_fails_rho = holds_by (model weir role_two) (finite (policy_of weir) steps covers (goal_of role_two)) 0 tt

-- .. and role 1 does
pub start_meets_rho : EventsAt (model weir role_one) 0
unfolding in_range meetsρμ flow authorized χ role_rule constraints_hold domain Γ write_like read_like allowed α ρ μ role_change some every bit counts_of record_count record_of payload_of decoded legs_of flags_of goal_count goal_head next_of context_record_of event_record_of context_in event_in
start_meets_rho = events_by (model weir role_one) (finite (policy_of weir) steps covers (goal_of role_one)) 0 tt

pub users_accepted : Accepted users
unfolding counts_of record_count record_of policy_head payload_of decoded use_of
users_accepted = accepted refl refl refl refl refl refl refl

covers_users : T (not (uncovered (policy_of users) []))
unfolding uncovered in_range flow authorized χ role_rule constraints_hold domain Γ write_like read_like allowed α ρ μ role_change some every bit counts_of record_count record_of payload_of decoded
covers_users = tt

-- "x0 .. meets .. μ": user 2 does not hold role 2. With μ not asked: events 0
pub start_fails_mu : Holds (model users user_two)
unfolding in_range meetsρμ flow authorized χ role_rule constraints_hold domain Γ write_like read_like allowed α ρ μ role_change some every bit counts_of record_count record_of payload_of decoded legs_of flags_of goal_count goal_head next_of context_record_of event_record_of context_in event_in
start_fails_mu = holds_by (model users user_two) (finite (policy_of users) [] covers_users (goal_of user_two)) 0 tt

-- .. and user 1 does
pub start_meets_mu : EventsAt (model users user_one) 0
unfolding in_range meetsρμ flow authorized χ role_rule constraints_hold domain Γ write_like read_like allowed α ρ μ role_change some every bit counts_of record_count record_of payload_of decoded legs_of flags_of goal_count goal_head next_of context_record_of event_record_of context_in event_in
start_meets_mu = events_by (model users user_one) (finite (policy_of users) [] covers_users (goal_of user_one)) 0 tt
