-- Unchanged roles at a transition: the source's formula for every policy and goal, and a goal and least steps that move, by computing. Each policy's
-- steps are listed, and the list is shown to leave none out.
use mathlib.Core.Bool.{Bool, not, ◌&&◌, ◌||◌}
use mathlib.Core.List.{List, [], ◌∷◌}
use mathlib.Core.Logic.{◌⊎◌, inl, inr}
use mathlib.Core.Path.{◌≡◌, refl, sym, ap, subst, subst₃, ◌∙◌}
use Prim.Native.Nat.{ℕ, zero, suc, ◌≤◌, ◌<◌}
use native.Mathlib.Omega.{arith}
use lib.Dec.{T, eqb, eqb→eq, T_not}
use lib.ListN.{length}
use Rattle.base.specs.Bits.{bit}
use Rattle.base.specs.Questions.{AllYes}
use Rattle.base.proofs.BoolLaws.{to_true, of_true}
use Rattle.policy_image.specs.Layout.{counts_of, record_count, record_of, policy_head, payload_of, decoded}
use Rattle.policy_image.specs.Policy.{Policy, policy_of}
use Rattle.policy_expressions.specs.Nodes.{use_of}
use Rattle.policy_check.proofs.Tests.{Accepted, accepted}
use Rattle.context.specs.declared.Context.{Context}
use Rattle.context.specs.Codes.{context_of, event_of, context_at as at}
use Rattle.access.specs.Cases.RoleRules.{authorized_under, flow_under, source_rule}
use Rattle.access.proofs.RoleCases as access
use Rattle.access.proofs.Amended as amended
use Rattle.goal_image.specs.Layout.{legs_of, flags_of, goal_count, goal_head, next_of, context_record_of, event_record_of}
use Rattle.goal_image.specs.Goal.{goal_of}
use Rattle.goal_image.specs.Sets.{context_in, event_in}
use Rattle.goal_image.specs.Cases.WeirGoal.{goal_g}
use Rattle.goal_image.proofs.Tests.{accepted as goal_accepted}
use Rattle.paths.specs.Paths.{IsPath, BreaksOrder, FollowsEvents, Holds, EventsAt}
use Rattle.paths.specs.Slice.{contexts_in, events_in, Shows}
use Rattle.paths.proofs.Any.{or_cases, and_T}
use Rattle.paths.proofs.Decide.{holds_by, events_by}
use Rattle.goal_model.specs.Images.{model}
use Rattle.goal_model.proofs.Cover.{Step, context, step as flows_by, uncovered, finite, every_step, all_in, any_context, context_back}
use Rattle.goal_model.proofs.Cases.{step}
use Rattle.std.specs.Prelude.{Result}
use Rattle.witness.specs.declared.unanswered.Unanswered.{Unanswered}
use Rattle.goal_question.specs.declared.goal.Outcome.{Outcome}
use Rattle.goal_question.specs.GoalQuestion.{all_questions, GoalPromise}
use Rattle.least_steps.specs.LeastSteps.{FlowPath, NoFlowPath, NoneShorter}
use Rattle.weir.specs.Cases.RolePolicies.{weir_same_role, weir_other_role, weir_changed_role}
use Rattle.weir.specs.Cases.Called.{Gives}
use Rattle.weir.specs.Cases.Steps.{StepsAre, NoSteps, GivesSteps}
use Rattle.weir.specs.Cases.Roles.{model_under, FlowPathUnder, TwoSteps, PrintsTwo, RoleCases}
use Rattle.weir.proofs.Accepted.{enough}
use Rattle.weir.proofs.Called.{events_only, says_holds, says_events}
use Rattle.weir.proofs.Walks.{ends_at, shows_flow_by, none_shorter_by, none_by}
use Rattle.weir.proofs.StepsPaths.{computed}
use Rattle.weir.proofs.Steps.{are, none, says_none, says_steps}

-- ---- for every policy and goal: what flows by the source's formula flows
module _ (s g : List ℕ) where
  path_now : {m : ℕ} {x e : ℕ → ℕ} → IsPath (model_under source_rule s g) m x e → IsPath (model s g) m x e
  path_now {m} {x} {e} P =
      record {
        contexts = P.contexts;
        flows = λ j h. of_true _ (amended.flow_more (policy_of s) (event_of (e j)) (context_of (x j)) (context_of (x (suc j))) (to_true _ (P.flows j h)));
        starts = P.starts;
        meets = P.meets;
        arrives = P.arrives;
        first = P.first;
        free = P.free;
        free_e = P.free_e;
      }

  order_now : {m : ℕ} {x : ℕ → ℕ} → BreaksOrder (model_under source_rule s g) m x → BreaksOrder (model s g) m x
  order_now B = record { i = B.i; j = B.j; above = B.above; below = B.below; within = B.within; reached = B.reached; unreleased = B.unreleased }

  events_before : {m : ℕ} {x e : ℕ → ℕ} → FollowsEvents (model s g) m x e → FollowsEvents (model_under source_rule s g) m x e
  events_before F = record { p = F.p; from = F.from; rises = F.rises; upto = F.upto; stands = F.stands; steps = F.steps; single = F.single }

  goal_more : Holds (model s g) → Holds (model_under source_rule s g)
  goal_more H m = (
    λ S. (H m).0 (record { x = S.x; e = S.e; path = path_now S.path; breaks = order_now S.breaks }),
    λ S. (H m).1 (record { x = S.x; e = S.e; path = path_now S.path; breaks = λ F. S.breaks (events_before F) }),
  )

steps_more : (p : Policy) (x y : Context) (m : ℕ) (c e : ℕ → ℕ) → FlowPathUnder source_rule p x y m c e → FlowPath p x y m c e
steps_more p x y m c e P =
    record {
      contexts = P.contexts;
      flows = λ j h. of_true _ (amended.flow_more p (event_of (e j)) (context_of (c j)) (context_of (c (suc j))) (to_true _ (P.flows j h)));
      from = P.from;
      to = P.to;
      meets = P.meets;
    }

-- ---- the three policies
same_accepted : Accepted weir_same_role
unfolding counts_of record_count record_of policy_head payload_of decoded use_of
same_accepted = accepted refl refl refl refl refl refl refl

other_accepted : Accepted weir_other_role
unfolding counts_of record_count record_of policy_head payload_of decoded use_of
other_accepted = accepted refl refl refl refl refl refl refl

changed_accepted : Accepted weir_changed_role
unfolding counts_of record_count record_of policy_head payload_of decoded use_of
changed_accepted = accepted refl refl refl refl refl refl refl

same_enough : AllYes (all_questions weir_same_role goal_g 32 32)
unfolding counts_of record_count legs_of flags_of goal_count goal_head next_of context_record_of event_record_of bit
same_enough = enough weir_same_role goal_g same_accepted (goal_accepted refl refl refl refl) (omega arith)

other_enough : AllYes (all_questions weir_other_role goal_g 32 32)
unfolding counts_of record_count legs_of flags_of goal_count goal_head next_of context_record_of event_record_of bit
other_enough = enough weir_other_role goal_g other_accepted (goal_accepted refl refl refl refl) (omega arith)

changed_enough : AllYes (all_questions weir_changed_role goal_g 32 32)
unfolding counts_of record_count legs_of flags_of goal_count goal_head next_of context_record_of event_record_of bit
changed_enough = enough weir_changed_role goal_g changed_accepted (goal_accepted refl refl refl refl) (omega arith)

-- 1 to 2 by read, 2 to 3 by write; then 2 to 4 by transition, in the same role, not at all, or in role 1
abbrev same_steps : List Step
same_steps = step 273 64 545 ∷ step 545 65 785 ∷ step 545 32 1057 ∷ []

abbrev other_steps : List Step
other_steps = step 273 64 545 ∷ step 545 65 785 ∷ []

abbrev changed_steps : List Step
changed_steps = step 273 64 545 ∷ step 545 65 785 ∷ step 545 32 1041 ∷ []

same_covers : T (not (uncovered (policy_of weir_same_role) same_steps))
unfolding computed
same_covers = tt

other_covers : T (not (uncovered (policy_of weir_other_role) other_steps))
unfolding computed
other_covers = tt

changed_covers : T (not (uncovered (policy_of weir_changed_role) changed_steps))
unfolding computed
changed_covers = tt

-- ---- G, by the answer
same_now : EventsAt (model weir_same_role goal_g) 2
unfolding computed legs_of flags_of goal_count goal_head next_of context_record_of event_record_of context_in event_in
same_now = events_by (model weir_same_role goal_g) (finite (policy_of weir_same_role) same_steps same_covers (goal_of goal_g)) 2 tt

other_now : Holds (model weir_other_role goal_g)
unfolding computed legs_of flags_of goal_count goal_head next_of context_record_of event_record_of context_in event_in
other_now = holds_by (model weir_other_role goal_g) (finite (policy_of weir_other_role) other_steps other_covers (goal_of goal_g)) 3 tt

changed_now : EventsAt (model weir_changed_role goal_g) 2
unfolding computed legs_of flags_of goal_count goal_head next_of context_record_of event_record_of context_in event_in
changed_now = events_by (model weir_changed_role goal_g) (finite (policy_of weir_changed_role) changed_steps changed_covers (goal_of goal_g)) 2 tt

-- ---- the one path
starts : ℕ → Bool
starts x = context_in (goal_of goal_g) 0 (context_of x)

ends : ℕ → Bool
ends y = context_in (goal_of goal_g) 2 (context_of y)

-- the step from a to c by b
abbrev is : ℕ → ℕ → ℕ → ℕ → ℕ → ℕ → Bool
is a b c x e y = eqb x a && (eqb e b && eqb y c)

is_eq : {a b c x e y : ℕ} → T (is a b c x e y) → (x ≡ a) × (e ≡ b) × (y ≡ c)
is_eq {a} {b} {c} {x} {e} {y} t = let (p, (q, r)) = simp and_T at t in (eqb→eq x a p, eqb→eq e b q, eqb→eq y c r)

-- what leads to σ2 is the transition, and what leads to where it starts is the read
abbrev last : ℕ → ℕ → ℕ → Bool
last x e y = not (ends y) || is 545 32 1057 x e y

abbrev before_last : ℕ → ℕ → ℕ → Bool
before_last x e y = not (eqb y 545) || is 273 64 545 x e y

all_last : T (all_in same_steps (λ s. last s.x s.e s.y))
unfolding ends bit goal_count goal_head next_of context_record_of context_in
all_last = tt

end_there : T (ends 1057)
unfolding ends bit goal_count goal_head next_of context_record_of context_in
end_there = tt

implied : (a b : Bool) → T (not a || b) → T a → T b
implied a b t u = go (or_cases (not a) b t)
  where
    go : T (not a) ⊎ T b → T b
    go (inl n) = absurd (T_not a n u)
    go (inr v) = v

abbrev p : Policy
p = policy_of weir_same_role

module _ (x e y : ℕ) (cx : T (context p x)) (cy : T (context p y)) (w : T (flows_by p x e y)) where
  into_end : T (ends y) → (x ≡ 545) × (e ≡ 32) × (y ≡ 1057)
  into_end a = is_eq (implied (ends y) (is 545 32 1057 x e y) (every_step p same_steps same_covers last all_last x e y cx cy w) a)

  into_start : y ≡ 545 → (x ≡ 273) × (e ≡ 64) × (y ≡ 545)
  into_start q = is_eq (implied (eqb y 545) (is 273 64 545 x e y) (every_step p same_steps same_covers before_last tt x e y cx cy w) (subst (λ (k : ℕ). T (eqb k 545)) (sym q) tt))

two_walk : (x e : ℕ → ℕ) → ((j : ℕ) → j ≤ 2 → T (context p (x j))) → ((j : ℕ) → j < 2 → T (flows_by p (x j) (e j) (x (suc j)))) → T (ends (x 2)) → TwoSteps x e
two_walk x e C W a =
    let b = into_end (x 1) (e 1) (x 2) (C 1 (omega arith)) (C 2 (omega arith)) (W 1 (omega arith)) a in
    let c = into_start (x 0) (e 0) (x 1) (C 0 (omega arith)) (C 1 (omega arith)) (W 0 (omega arith)) b.0 in
    (c.0, c.1, c.2, b.1, b.2)

same_path : (x e : ℕ → ℕ) → IsPath (model weir_same_role goal_g) 2 x e → TwoSteps x e
unfolding ends legs_of
same_path x e P = two_walk x e P.contexts P.flows P.arrives

steps_path : (c e : ℕ → ℕ) → FlowPath p (at 1 1 1) (at 4 2 1) 2 c e → TwoSteps c e
steps_path c e P = two_walk c e P.contexts P.flows (subst (λ (k : ℕ). T (ends k)) (sym (ends_at p (at 1 1 1) (at 4 2 1) P)) end_there)

-- ---- by the source's formula nothing leads to σ2
not_before : ¬ T (flow_under source_rule p (event_of 32) (context_of 545) (context_of 1057))
unfolding computed flow_under authorized_under
not_before t = t

none_into_end : (x e y : ℕ) → T (context p x) → T (context p y) → T (ends y) → ¬ T (flow_under source_rule p (event_of e) (context_of x) (context_of y))
none_into_end x e y cx cy a t =
    let q = into_end x e y cx cy (of_true _ (amended.flow_more p (event_of e) (context_of x) (context_of y) (to_true _ t))) a in
    not_before (subst₃ (λ (x e y : ℕ). T (flow_under source_rule p (event_of e) (context_of x) (context_of y))) q.0 q.1 q.2 t)

-- no context is in σ0 and in σ2
no_both : T (not (any_context p (λ x. starts x && ends x)))
unfolding computed starts ends goal_count goal_head next_of context_record_of context_in
no_both = tt

no_path_before : (m : ℕ) (x e : ℕ → ℕ) → IsPath (model_under source_rule weir_same_role goal_g) m x e → ⊥
unfolding starts ends legs_of
no_path_before zero x e P =
    T_not (any_context p (λ x. starts x && ends x)) no_both
    (context_back p (λ x. starts x && ends x) (x 0) (P.contexts 0 (omega arith)) ((and_T (starts (x 0)) (ends (x 0))).1 (P.starts, P.arrives)))
no_path_before (suc m) x e P = none_into_end (x m) (e m) (x (suc m)) (P.contexts m (omega arith)) (P.contexts (suc m) (omega arith)) P.arrives (P.flows m (omega arith))

same_before : Holds (model_under source_rule weir_same_role goal_g)
same_before m = (λ S. no_path_before m S.x S.e S.path, λ S. no_path_before m S.x S.e S.path)

steps_before : (m : ℕ) (c e : ℕ → ℕ) → FlowPathUnder source_rule p (at 1 1 1) (at 4 2 1) m c e → ⊥
steps_before zero c e P = let z : ◌≡◌ {A = ℕ} 1 4 = ap (λ (x : Context). x.ty) (sym P.from ∙ P.to) in omega arith
steps_before (suc m) c e P =
    none_into_end (c m) (e m) (c (suc m)) (P.contexts m (omega arith)) (P.contexts (suc m) (omega arith))
    (subst (λ (k : ℕ). T (ends k)) (sym (ends_at p (at 1 1 1) (at 4 2 1) (steps_more p (at 1 1 1) (at 4 2 1) (suc m) c e P))) end_there) (P.flows m (omega arith))

-- ---- least steps
same_shown : Shows (FlowPath p (at 1 1 1) (at 4 2 1)) 2 (273 ∷ 64 ∷ 545 ∷ 32 ∷ 1057 ∷ []) (273 ∷ 64 ∷ 545 ∷ 32 ∷ 1057 ∷ [])
unfolding computed
same_shown = shows_flow_by p (at 1 1 1) (at 4 2 1) 2 (273 ∷ 64 ∷ 545 ∷ 32 ∷ 1057 ∷ []) (omega arith) refl refl tt

same_least : NoneShorter p (at 1 1 1) (at 4 2 1) 2
unfolding computed
same_least = none_shorter_by p same_steps same_covers (at 1 1 1) (at 4 2 1) 2 tt

other_none : NoFlowPath (policy_of weir_other_role) (at 1 1 1) (at 4 1 1)
unfolding computed
other_none = none_by (policy_of weir_other_role) other_steps other_covers (at 1 1 1) (at 4 1 1) 2 tt

changed_shown : Shows (FlowPath (policy_of weir_changed_role) (at 1 1 1) (at 4 1 1)) 2 (273 ∷ 64 ∷ 545 ∷ 32 ∷ 1041 ∷ []) (273 ∷ 64 ∷ 545 ∷ 32 ∷ 1041 ∷ [])
unfolding computed
changed_shown = shows_flow_by (policy_of weir_changed_role) (at 1 1 1) (at 4 1 1) 2 (273 ∷ 64 ∷ 545 ∷ 32 ∷ 1041 ∷ []) (omega arith) refl refl tt

changed_least : NoneShorter (policy_of weir_changed_role) (at 1 1 1) (at 4 1 1) 2
unfolding computed
changed_least = none_shorter_by (policy_of weir_changed_role) changed_steps changed_covers (at 1 1 1) (at 4 1 1) 2 tt

steps_now : StepsAre weir_same_role (at 1 1 1) (at 4 2 1) 8 2
unfolding counts_of record_count
steps_now = are same_accepted (omega arith) (at 1 1 1) (at 4 2 1) (omega arith) same_shown same_least

steps_other : NoSteps weir_other_role (at 1 1 1) (at 4 1 1) 8
unfolding counts_of record_count
steps_other = none other_accepted (omega arith) (at 1 1 1) (at 4 1 1) (omega arith) other_none

steps_changed : StepsAre weir_changed_role (at 1 1 1) (at 4 1 1) 8 2
unfolding counts_of record_count
steps_changed = are changed_accepted (omega arith) (at 1 1 1) (at 4 1 1) (omega arith) changed_shown changed_least

-- ---- the path slices
same_printed : (before after : List ℕ) (n : ℕ) → 5 ≤ length before → Gives weir_same_role goal_g 32 32 before after n → PrintsTwo before after
same_printed before after n room G =
    let r = events_only weir_same_role goal_g 32 32 same_enough {m = 2} before after G.answer same_now room G.promised in
    let h = (subst (λ (o : Result Outcome Unanswered). GoalPromise weir_same_role goal_g 32 32 before after o) r G.promised).1 in
    let q = same_path (contexts_in after) (events_in after) h.path in
    record { whole = h.whole; x0 = q.0; e0 = q.1; x1 = q.2; e1 = q.3; x2 = q.4; rest = h.rest }

steps_printed : (before after : List ℕ) (n : ℕ) → 5 ≤ length before → GivesSteps weir_same_role (at 1 1 1) (at 4 2 1) 8 8 before after n → PrintsTwo before after
steps_printed before after n room G =
    let h = ((says_steps steps_now).room before after n room G).1 in
    let q = steps_path (contexts_in after) (events_in after) h.path in
    record { whole = h.whole; x0 = q.0; e0 = q.1; x1 = q.2; e1 = q.3; x2 = q.4; rest = h.rest }

-- THE ELEVENTH THEOREM: unchanged roles at a transition
pub role_cases : RoleCases
role_cases =
    record {
      roles_accepted = (access.roles_accepted).it;
      equal_roles = access.equal_roles;
      equal_roles_two_users = access.equal_roles_two_users;
      equal_roles_itself = access.equal_roles_itself;
      different_with_record = access.different_with_record;
      different_without = access.different_without;
      different_itself = access.different_itself;
      signal_different = access.signal_different;
      equal_but_alpha = access.equal_but_alpha;
      equal_but_rho1 = access.equal_but_rho1;
      equal_but_rho2 = access.equal_but_rho2;
      equal_but_mu1 = access.equal_but_mu1;
      equal_but_mu2 = access.equal_but_mu2;
      equal_but_chi = access.equal_but_chi;
      read_like_equal = access.read_like_equal;
      read_like_equal_back = access.read_like_equal_back;
      read_like_record = access.read_like_record;
      read_like_no_record = access.read_like_no_record;
      not_as_before = access.not_as_before;
      not_equal_types = access.not_equal_types;
      not_equal_types_alone = access.not_equal_types_alone;
      not_equal_users = access.not_equal_users;
      not_equal_users_alone = access.not_equal_users_alone;
      not_dropped = access.not_dropped;
      not_equal_alone = access.not_equal_alone;
      not_every_event = access.not_every_event;
      not_role_1_alone = access.not_role_1_alone;
      not_either_way = access.not_either_way;
      not_flow_order = access.not_flow_order;
      authorized_more = amended.authorized_more;
      authorized_equal = amended.authorized_equal;
      authorized_different = amended.authorized_different;
      authorized_other = amended.authorized_other;
      flow_more = amended.flow_more;
      flow_different = amended.flow_different;
      flow_other = amended.flow_other;
      goal_more = goal_more;
      steps_more = steps_more;
      same_before = same_before;
      same_now = same_now;
      same_path = same_path;
      same_called = says_events weir_same_role goal_g same_enough same_now;
      same_printed = same_printed;
      other_now = other_now;
      other_called = says_holds weir_other_role goal_g other_enough other_now;
      changed_now = changed_now;
      changed_called = says_events weir_changed_role goal_g changed_enough changed_now;
      steps_before = steps_before;
      steps_now = steps_now;
      steps_path = steps_path;
      steps_called = says_steps steps_now;
      steps_printed = steps_printed;
      steps_other = steps_other;
      steps_other_called = says_none steps_other;
      steps_changed = steps_changed;
      steps_changed_called = says_steps steps_changed;
    }
