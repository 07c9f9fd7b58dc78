-- Unchanged roles at a transition (paper 02, f): authorization and flow on a policy of our own, the source's formula for every policy, and a goal and
-- least steps that move. Each is told where it is proved: access/proofs/RoleCases and Amended, and proofs/Roles.
use Rattle.std.specs.Prelude.{ℕ, suc, ◌≤◌, ◌<◌, true, false, not, List, ◌≡◌, T, length, get_or}
use Rattle.base.specs.Questions.{AllYes}
use Rattle.policy_image.specs.Policy.{Policy, policy_of}
use Rattle.policy_check.specs.Questions.{policy_questions}
use Rattle.context.specs.declared.Context.{Context}
use Rattle.context.specs.declared.Event.{Event}
use Rattle.context.specs.Codes.{context_of, event_of, context_at as at, event_at as event, is_transition}
use Rattle.access.specs.Authorization.{authorized, flow}
use Rattle.access.specs.Cases.RoleRules.{Rule, authorized_under, flow_under, source_rule, equal_types, equal_users, never_asked, equal_alone, every_event, role_one_alone, either_way, turned}
use Rattle.access.specs.Cases.Roles.{roles, Otherwise}
use Rattle.goal_image.specs.Cases.WeirGoal.{goal_g}
use Rattle.paths.specs.Model.{Model}
use Rattle.paths.specs.Paths.{IsPath, Holds, EventsAt}
use Rattle.goal_model.specs.Images.{in_range, meetsρμ, model}
use Rattle.least_steps.specs.LeastSteps.{FlowPath}
use Rattle.weir.specs.Cases.RolePolicies.{weir_same_role, weir_other_role, weir_changed_role}
use Rattle.weir.specs.Cases.Called.{Gives, SaysHolds, SaysBroken}
use Rattle.weir.specs.Cases.Steps.{StepsAre, NoSteps, GivesSteps, SaysNone, SaysSteps}

-- ---- goals and least steps over flow with the rule w: `model` and `FlowPath` with another flow
abbrev pub model_under : Rule → List ℕ → List ℕ → Model
model_under w s g =
    record {
      flow_by = λ x e y. flow_under w (policy_of s) (event_of e) (context_of x) (context_of y);
      context = (model s g).context;
      held = (model s g).held;
      legs = (model s g).legs;
      σ = (model s g).σ;
      γ = (model s g).γ;
      repeated = (model s g).repeated;
      σe = (model s g).σe;
      γe = (model s g).γe;
    }

pub record FlowPathUnder (w : Rule) (p : Policy) (x y : Context) (m : ℕ) (c e : ℕ → ℕ) : Type 0 where
  pub contexts : (j : ℕ) → j ≤ m → T (in_range p.counts (context_of (c j)))
  pub flows : (j : ℕ) → j < m → T (flow_under w p (event_of (e j)) (context_of (c j)) (context_of (c (suc j))))
  pub from : context_of (c 0) ≡ x
  pub to : context_of (c m) ≡ y
  pub meets : T (meetsρμ p x)

-- 1 1 1, 2 0, 2 2 1, 1 0, 4 2 1 by their codes: the transition is the second step
abbrev pub TwoSteps : (ℕ → ℕ) → (ℕ → ℕ) → Type 0
TwoSteps c e = (c 0 ≡ 273) × (e 0 ≡ 64) × (c 1 ≡ 545) × (e 1 ≡ 32) × (c 2 ≡ 1057)

-- the path slice that shows them
pub record PrintsTwo (before after : List ℕ) : Type 0 where
  pub whole : length after ≡ length before
  pub x0 : get_or after 0 0 ≡ 273
  pub e0 : get_or after 1 0 ≡ 64
  pub x1 : get_or after 2 0 ≡ 545
  pub e1 : get_or after 3 0 ≡ 32
  pub x2 : get_or after 4 0 ≡ 1057
  pub rest : (i : ℕ) → 5 ≤ i → get_or after i 0 ≡ get_or before i 0

pub record RoleCases : Type 0 where
  -- ---- "a process transition with r1 = r2 needs no kind 7 record": kind 7 has (2,3) alone
  pub roles_accepted : AllYes (policy_questions roles)
  pub equal_roles : authorized (policy_of roles) (event 1 0) (at 1 2 1) (at 2 2 1) ≡ true
  pub equal_roles_two_users : authorized (policy_of roles) (event 1 0) (at 1 3 1) (at 2 3 2) ≡ true
  pub equal_roles_itself : authorized (policy_of roles) (event 1 0) (at 1 3 1) (at 1 3 1) ≡ true
  -- "with different roles it does, as before"; no other event is asked
  pub different_with_record : authorized (policy_of roles) (event 1 0) (at 1 2 1) (at 2 3 1) ≡ true
  pub different_without : authorized (policy_of roles) (event 1 0) (at 1 3 1) (at 2 2 1) ≡ false
  pub different_itself : authorized (policy_of roles) (event 1 0) (at 1 3 1) (at 1 2 1) ≡ false
  pub signal_different : authorized (policy_of roles) (event 1 1) (at 1 3 1) (at 2 2 1) ≡ true
  -- equal roles stand for no other clause: each time it alone is false
  pub equal_but_alpha : authorized (policy_of roles) (event 1 0) (at 2 2 1) (at 1 2 1) ≡ false
  pub equal_but_rho1 : authorized (policy_of roles) (event 1 0) (at 1 4 1) (at 2 4 1) ≡ false
  pub equal_but_rho2 : authorized (policy_of roles) (event 1 0) (at 1 1 1) (at 2 1 1) ≡ false
  pub equal_but_mu1 : authorized (policy_of roles) (event 1 0) (at 1 2 3) (at 2 2 1) ≡ false
  pub equal_but_mu2 : authorized (policy_of roles) (event 1 0) (at 1 2 1) (at 2 2 3) ≡ false
  pub equal_but_chi : authorized (policy_of roles) (event 1 0) (at 1 3 2) (at 2 3 2) ≡ false
  -- a transition that is read-like: 1 acts, and what flows goes from 2 to 1
  pub read_like_equal : flow (policy_of roles) (event 1 0) (at 2 2 1) (at 1 2 1) ≡ true
  pub read_like_equal_back : flow (policy_of roles) (event 1 0) (at 1 2 1) (at 2 2 1) ≡ false
  pub read_like_record : flow (policy_of roles) (event 1 0) (at 2 3 1) (at 1 2 1) ≡ true
  pub read_like_no_record : flow (policy_of roles) (event 1 0) (at 2 2 1) (at 1 3 1) ≡ false
  -- ---- misreadings: each says something else
  pub not_as_before : Otherwise source_rule (event 1 0) (at 1 2 1) (at 2 2 1)
  pub not_equal_types : Otherwise equal_types (event 1 0) (at 1 3 1) (at 1 2 1)
  pub not_equal_types_alone : Otherwise equal_types (event 1 0) (at 1 2 1) (at 2 2 1)
  pub not_equal_users : Otherwise equal_users (event 1 0) (at 1 3 1) (at 2 2 1)
  pub not_equal_users_alone : Otherwise equal_users (event 1 0) (at 1 3 1) (at 2 3 2)
  pub not_dropped : Otherwise never_asked (event 1 0) (at 1 3 1) (at 2 2 1)
  pub not_equal_alone : Otherwise equal_alone (event 1 0) (at 1 2 1) (at 2 3 1)
  pub not_every_event : Otherwise every_event (event 1 1) (at 1 3 1) (at 2 2 1)
  pub not_role_1_alone : Otherwise role_one_alone (event 1 0) (at 1 2 1) (at 2 2 1)
  pub not_either_way : Otherwise either_way (event 1 0) (at 1 3 1) (at 2 2 1)
  pub not_flow_order : flow_under turned (policy_of roles) (event 1 0) (at 2 2 1) (at 1 3 1) ≡ not (flow (policy_of roles) (event 1 0) (at 2 2 1) (at 1 3 1))
  -- ---- "compared with the source's formula so amended": for every policy, event and pair of contexts
  pub authorized_more : (p : Policy) (e : Event) (x y : Context) → authorized_under source_rule p e x y ≡ true → authorized p e x y ≡ true
  pub authorized_equal : (p : Policy) (e : Event) (x y : Context) → x.role ≡ y.role → authorized p e x y ≡ authorized_under never_asked p e x y
  pub authorized_different : (p : Policy) (e : Event) (x y : Context) → (x.role ≡ y.role → ⊥) → authorized p e x y ≡ authorized_under source_rule p e x y
  pub authorized_other : (p : Policy) (e : Event) (x y : Context) → is_transition e ≡ false → authorized p e x y ≡ authorized_under source_rule p e x y
  pub flow_more : (p : Policy) (e : Event) (x y : Context) → flow_under source_rule p e x y ≡ true → flow p e x y ≡ true
  pub flow_different : (p : Policy) (e : Event) (x y : Context) → (x.role ≡ y.role → ⊥) → flow p e x y ≡ flow_under source_rule p e x y
  pub flow_other : (p : Policy) (e : Event) (x y : Context) → is_transition e ≡ false → flow p e x y ≡ flow_under source_rule p e x y
  -- so no path is lost: a goal that holds held before, and least steps have become no more
  pub goal_more : (s g : List ℕ) → Holds (model s g) → Holds (model_under source_rule s g)
  pub steps_more : (p : Policy) (x y : Context) (m : ℕ) (c e : ℕ → ℕ) → FlowPathUnder source_rule p x y m c e → FlowPath p x y m c e
  -- ---- "and goals with paths over that flow": a goal that held for want of a record, and is broken now, with its one path
  pub same_before : Holds (model_under source_rule weir_same_role goal_g)
  pub same_now : EventsAt (model weir_same_role goal_g) 2
  pub same_path : (x e : ℕ → ℕ) → IsPath (model weir_same_role goal_g) 2 x e → TwoSteps x e
  pub same_called : SaysBroken weir_same_role goal_g 2 2
  pub same_printed : (before after : List ℕ) (n : ℕ) → 5 ≤ length before → Gives weir_same_role goal_g 32 32 before after n → PrintsTwo before after
  -- with different roles it holds as before, and a record breaks it
  pub other_now : Holds (model weir_other_role goal_g)
  pub other_called : SaysHolds weir_other_role goal_g
  pub changed_now : EventsAt (model weir_changed_role goal_g) 2
  pub changed_called : SaysBroken weir_changed_role goal_g 2 2
  -- ---- least steps likewise: none before, and 2 now
  pub steps_before : (m : ℕ) (c e : ℕ → ℕ) → FlowPathUnder source_rule (policy_of weir_same_role) (at 1 1 1) (at 4 2 1) m c e → ⊥
  pub steps_now : StepsAre weir_same_role (at 1 1 1) (at 4 2 1) 8 2
  pub steps_path : (c e : ℕ → ℕ) → FlowPath (policy_of weir_same_role) (at 1 1 1) (at 4 2 1) 2 c e → TwoSteps c e
  pub steps_called : SaysSteps weir_same_role (at 1 1 1) (at 4 2 1) 8 2
  pub steps_printed : (before after : List ℕ) (n : ℕ) → 5 ≤ length before → GivesSteps weir_same_role (at 1 1 1) (at 4 2 1) 8 8 before after n → PrintsTwo before after
  pub steps_other : NoSteps weir_other_role (at 1 1 1) (at 4 1 1) 8
  pub steps_other_called : SaysNone weir_other_role (at 1 1 1) (at 4 1 1) 8
  pub steps_changed : StepsAre weir_changed_role (at 1 1 1) (at 4 1 1) 8 2
  pub steps_changed_called : SaysSteps weir_changed_role (at 1 1 1) (at 4 1 1) 8 2
