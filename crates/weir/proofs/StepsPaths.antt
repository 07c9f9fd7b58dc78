-- Least steps from the definitions: each policy's steps are listed, the list is shown to leave none out, and the rest is computed.
use mathlib.Core.Bool.{not, ◌||◌}
use mathlib.Core.List.{List, [], ◌∷◌}
use mathlib.Core.Logic.{◌⊎◌, inl, inr}
use mathlib.Core.Path.{◌≡◌, refl}
use Prim.Native.Nat.{ℕ}
use native.Mathlib.Omega.{arith}
use lib.Dec.{T, eqb, eqb→eq}
use Rattle.base.specs.Bits.{bit}
use Rattle.policy_image.specs.Layout.{counts_of, record_count, record_of, payload_of, decoded}
use Rattle.policy_image.specs.Policy.{Policy, policy_of}
use Rattle.policy_image.specs.OfKind.{some, every}
use Rattle.policy_image.specs.Cases.Weir.{weir}
use Rattle.context.specs.declared.Context.{Context}
use Rattle.context.specs.Codes.{context_at as at}
use Rattle.policy_sources.specs.Sources.{domain}
use Rattle.relations.specs.Relations.{Γ, write_like, read_like, allowed, α, ρ, μ, role_change}
use Rattle.constraints.specs.Eval.{eval_at, eval_node}
use Rattle.constraints.specs.Constraints.{constraints_hold}
use Rattle.access.specs.Authorization.{χ, role_rule, authorized, flow}
use Rattle.access.specs.Cases.Readers.{readers}
use Rattle.paths.specs.Slice.{Shows}
use Rattle.paths.proofs.Any.{or_cases}
use Rattle.goal_model.specs.Images.{in_range, meetsρμ}
use Rattle.goal_model.proofs.Cover.{Step, uncovered, every_step}
use Rattle.goal_model.proofs.Cases.{step, steps, covers}
use Rattle.least_steps.specs.LeastSteps.{FlowPath, NoFlowPath, NoneShorter}
use Rattle.weir.specs.Cases.Goals.{weir_allow41}
use Rattle.weir.specs.Cases.Clauses.{short, long, from_three}
use Rattle.weir.specs.Cases.StepsPolicies.{two_users, weir_constrained, weir_apart}
use Rattle.weir.specs.Cases.Steps.{ThreeSteps}
use Rattle.weir.proofs.Answers.{steps41, covers41, weir_walk}
use Rattle.weir.proofs.Walks.{none_unheld, starts_at, ends_at, shows_flow_by, none_shorter_by, none_by}

-- all that the flow of a policy is computed with: what unfolds this unfolds them
unfoldable pub computed : Unit {0}
unfolding uncovered in_range meetsρμ flow authorized χ role_rule constraints_hold eval_node eval_at domain Γ write_like read_like allowed α ρ μ role_change some every bit counts_of record_count record_of payload_of decoded
computed = tt

-- ---- the weir policy: from type 1 to type 4, to itself, and back
pub three_shown : Shows (FlowPath (policy_of weir) (at 1 1 1) (at 4 2 1)) 3 long long
unfolding computed
three_shown = shows_flow_by (policy_of weir) (at 1 1 1) (at 4 2 1) 3 long (omega arith) refl refl tt

pub three_least : NoneShorter (policy_of weir) (at 1 1 1) (at 4 2 1) 3
unfolding computed
three_least = none_shorter_by (policy_of weir) steps covers (at 1 1 1) (at 4 2 1) 3 tt

-- whatever path of 3 steps there is, it is this one
pub three_path : (c e : ℕ → ℕ) → FlowPath (policy_of weir) (at 1 1 1) (at 4 2 1) 3 c e → ThreeSteps c e
three_path c e P = weir_walk c e P.contexts P.flows

pub itself_shown : Shows (FlowPath (policy_of weir) (at 1 1 1) (at 1 1 1)) 0 (273 ∷ []) (273 ∷ [])
unfolding computed
itself_shown = shows_flow_by (policy_of weir) (at 1 1 1) (at 1 1 1) 0 (273 ∷ []) (omega arith) refl refl tt

pub itself_path : (c e : ℕ → ℕ) → FlowPath (policy_of weir) (at 1 1 1) (at 1 1 1) 0 c e → c 0 ≡ 273
itself_path c e P = starts_at (policy_of weir) (at 1 1 1) (at 1 1 1) P

pub none_below_0 : (p : Policy) (x y : Context) → NoneShorter p x y 0
none_below_0 p x y k h = absurd (omega arith)

pub back_none : NoFlowPath (policy_of weir) (at 4 2 1) (at 1 1 1)
unfolding computed
back_none = none_by (policy_of weir) steps covers (at 4 2 1) (at 1 1 1) 0 tt

pub read_in_shown : Shows (FlowPath (policy_of weir) (at 1 1 1) (at 2 2 1)) 1 (273 ∷ 64 ∷ 545 ∷ []) (273 ∷ 64 ∷ 545 ∷ [])
unfolding computed
read_in_shown = shows_flow_by (policy_of weir) (at 1 1 1) (at 2 2 1) 1 (273 ∷ 64 ∷ 545 ∷ []) (omega arith) refl refl tt

pub read_in_least : NoneShorter (policy_of weir) (at 1 1 1) (at 2 2 1) 1
unfolding computed
read_in_least = none_shorter_by (policy_of weir) steps covers (at 1 1 1) (at 2 2 1) 1 tt

pub read_out_none : NoFlowPath (policy_of weir) (at 2 2 1) (at 1 1 1)
unfolding computed
read_out_none = none_by (policy_of weir) steps covers (at 2 2 1) (at 1 1 1) 2 tt

-- ---- the policy of readers: two steps, from 2 to 1 by transition and by read
abbrev readers_steps : List Step
readers_steps = step 561 32 289 ∷ step 561 33 289 ∷ []

readers_covers : T (not (uncovered (policy_of readers) readers_steps))
unfolding computed
readers_covers = tt

pub readers_shown : Shows (FlowPath (policy_of readers) (at 2 3 1) (at 1 2 1)) 1 (561 ∷ 33 ∷ 289 ∷ []) (561 ∷ 33 ∷ 289 ∷ [])
unfolding computed
readers_shown = shows_flow_by (policy_of readers) (at 2 3 1) (at 1 2 1) 1 (561 ∷ 33 ∷ 289 ∷ []) (omega arith) refl refl tt

pub readers_least : NoneShorter (policy_of readers) (at 2 3 1) (at 1 2 1) 1
unfolding computed
readers_least = none_shorter_by (policy_of readers) readers_steps readers_covers (at 2 3 1) (at 1 2 1) 1 tt

pub readers_path : (c e : ℕ → ℕ) → FlowPath (policy_of readers) (at 2 3 1) (at 1 2 1) 1 c e → (c 0 ≡ 561) × ((e 0 ≡ 32) ⊎ (e 0 ≡ 33)) × (c 1 ≡ 289)
readers_path c e P = (starts_at (policy_of readers) (at 2 3 1) (at 1 2 1) P, go (or_cases (eqb (e 0) 32) (eqb (e 0) 33) by_either), ends_at (policy_of readers) (at 2 3 1) (at 1 2 1) P)
  where
    by_either : T (eqb (e 0) 32 || eqb (e 0) 33)
    by_either =
        every_step (policy_of readers) readers_steps readers_covers (λ x e y. eqb e 32 || eqb e 33) tt (c 0) (e 0) (c 1) (P.contexts 0 (omega arith)) (P.contexts 1 (omega arith)) (P.flows 0 (omega arith))

    go : T (eqb (e 0) 32) ⊎ T (eqb (e 0) 33) → (e 0 ≡ 32) ⊎ (e 0 ≡ 33)
    go (inl t) = inl (eqb→eq (e 0) 32 t)
    go (inr t) = inr (eqb→eq (e 0) 33 t)

pub readers_none : NoFlowPath (policy_of readers) (at 1 2 1) (at 2 3 1)
unfolding computed
readers_none = none_by (policy_of readers) readers_steps readers_covers (at 1 2 1) (at 2 3 1) 0 tt

-- ---- role 2 does not hold type 3
rho_failed : T (not (meetsρμ (policy_of weir) (at 3 2 1)))
unfolding computed
rho_failed = tt

pub rho_from_none : (y : Context) → NoFlowPath (policy_of weir) (at 3 2 1) y
rho_from_none y = none_unheld (policy_of weir) (at 3 2 1) y rho_failed

pub rho_to_none : NoFlowPath (policy_of weir) (at 2 2 1) (at 3 2 1)
unfolding computed
rho_to_none = none_by (policy_of weir) steps covers (at 2 2 1) (at 3 2 1) 2 tt

pub rho_from_shown : Shows (FlowPath (policy_of weir) (at 3 1 1) (at 4 2 1)) 1 from_three from_three
unfolding computed
rho_from_shown = shows_flow_by (policy_of weir) (at 3 1 1) (at 4 2 1) 1 from_three (omega arith) refl refl tt

pub rho_from_least : NoneShorter (policy_of weir) (at 3 1 1) (at 4 2 1) 1
unfolding computed
rho_from_least = none_shorter_by (policy_of weir) steps covers (at 3 1 1) (at 4 2 1) 1 tt

pub rho_to_shown : Shows (FlowPath (policy_of weir) (at 2 2 1) (at 3 1 1)) 1 (545 ∷ 65 ∷ 785 ∷ []) (545 ∷ 65 ∷ 785 ∷ [])
unfolding computed
rho_to_shown = shows_flow_by (policy_of weir) (at 2 2 1) (at 3 1 1) 1 (545 ∷ 65 ∷ 785 ∷ []) (omega arith) refl refl tt

pub rho_to_least : NoneShorter (policy_of weir) (at 2 2 1) (at 3 1 1) 1
unfolding computed
rho_to_least = none_shorter_by (policy_of weir) steps covers (at 2 2 1) (at 3 1 1) 1 tt

-- ---- user 2 does not hold role 2: 2 reads and writes the files of both users
abbrev users_steps : List Step
users_steps = step 273 33 545 ∷ step 274 33 545 ∷ step 545 34 273 ∷ step 545 34 274 ∷ []

users_covers : T (not (uncovered (policy_of two_users) users_steps))
unfolding computed
users_covers = tt

mu_failed : T (not (meetsρμ (policy_of two_users) (at 2 2 2)))
unfolding computed
mu_failed = tt

pub mu_from_none : (y : Context) → NoFlowPath (policy_of two_users) (at 2 2 2) y
mu_from_none y = none_unheld (policy_of two_users) (at 2 2 2) y mu_failed

pub mu_to_none : NoFlowPath (policy_of two_users) (at 1 1 2) (at 2 2 2)
unfolding computed
mu_to_none = none_by (policy_of two_users) users_steps users_covers (at 1 1 2) (at 2 2 2) 2 tt

pub mu_from_shown : Shows (FlowPath (policy_of two_users) (at 2 2 1) (at 1 1 1)) 1 (545 ∷ 34 ∷ 273 ∷ []) (545 ∷ 34 ∷ 273 ∷ [])
unfolding computed
mu_from_shown = shows_flow_by (policy_of two_users) (at 2 2 1) (at 1 1 1) 1 (545 ∷ 34 ∷ 273 ∷ []) (omega arith) refl refl tt

pub mu_from_least : NoneShorter (policy_of two_users) (at 2 2 1) (at 1 1 1) 1
unfolding computed
mu_from_least = none_shorter_by (policy_of two_users) users_steps users_covers (at 2 2 1) (at 1 1 1) 1 tt

pub mu_to_shown : Shows (FlowPath (policy_of two_users) (at 1 1 2) (at 2 2 1)) 1 (274 ∷ 33 ∷ 545 ∷ []) (274 ∷ 33 ∷ 545 ∷ [])
unfolding computed
mu_to_shown = shows_flow_by (policy_of two_users) (at 1 1 2) (at 2 2 1) 1 (274 ∷ 33 ∷ 545 ∷ []) (omega arith) refl refl tt

pub mu_to_least : NoneShorter (policy_of two_users) (at 1 1 2) (at 2 2 1) 1
unfolding computed
mu_to_least = none_shorter_by (policy_of two_users) users_steps users_covers (at 1 1 2) (at 2 2 1) 1 tt

-- ---- the step from 1 to 4: W5's policy has it, and with the constraint the steps are the weir policy's
pub one_shown : Shows (FlowPath (policy_of weir_allow41) (at 1 1 1) (at 4 2 1)) 1 short short
unfolding computed
one_shown = shows_flow_by (policy_of weir_allow41) (at 1 1 1) (at 4 2 1) 1 short (omega arith) refl refl tt

pub one_least : NoneShorter (policy_of weir_allow41) (at 1 1 1) (at 4 2 1) 1
unfolding computed
one_least = none_shorter_by (policy_of weir_allow41) steps41 covers41 (at 1 1 1) (at 4 2 1) 1 tt

pub longer_shown : Shows (FlowPath (policy_of weir_allow41) (at 1 1 1) (at 4 2 1)) 3 long long
unfolding computed
longer_shown = shows_flow_by (policy_of weir_allow41) (at 1 1 1) (at 4 2 1) 3 long (omega arith) refl refl tt

covers_constrained : T (not (uncovered (policy_of weir_constrained) steps))
unfolding computed
covers_constrained = tt

pub constrained_shown : Shows (FlowPath (policy_of weir_constrained) (at 1 1 1) (at 4 2 1)) 3 long long
unfolding computed
constrained_shown = shows_flow_by (policy_of weir_constrained) (at 1 1 1) (at 4 2 1) 3 long (omega arith) refl refl tt

pub constrained_least : NoneShorter (policy_of weir_constrained) (at 1 1 1) (at 4 2 1) 3
unfolding computed
constrained_least = none_shorter_by (policy_of weir_constrained) steps covers_constrained (at 1 1 1) (at 4 2 1) 3 tt

-- ---- the steps of the weir policy but that by write
abbrev apart_steps : List Step
apart_steps = step 273 64 545 ∷ step 785 64 1057 ∷ []

apart_covers : T (not (uncovered (policy_of weir_apart) apart_steps))
unfolding computed
apart_covers = tt

pub apart_none : NoFlowPath (policy_of weir_apart) (at 1 1 1) (at 4 2 1)
unfolding computed
apart_none = none_by (policy_of weir_apart) apart_steps apart_covers (at 1 1 1) (at 4 2 1) 1 tt
