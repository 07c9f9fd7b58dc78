-- The model of a plan and the model of two images agree where the plan is made of them: what is said of paths of the one holds of the other.
use mathlib.Core.List.{List}
use mathlib.Core.Path.{◌≡◌, refl, ap, ◌∙◌}
use Prim.Native.Nat.{ℕ, ◌+◌, ◌≤◌, ◌<◌}
use native.Mathlib.Omega.{arith}
use borrow.Author.Tests.{lt-ltb, le-leb}
use lib.Dec.{T}
use Rattle.base.specs.Bits.{bit}
use Rattle.policy_image.specs.declared.counts.Counts.{Counts}
use Rattle.policy_image.specs.Layout.{counts_of}
use Rattle.policy_image.specs.Policy.{Policy, policy_of}
use Rattle.context.specs.declared.Context.{Context}
use Rattle.context.specs.declared.Event.{Event}
use Rattle.context.specs.Codes.{context_of, event_of}
use Rattle.goal_image.specs.declared.check.Legs.{Legs}
use Rattle.goal_image.specs.Goal.{Goal, goal_of}
use Rattle.goal_image.specs.Sets.{context_in, event_in}
use Rattle.goal_image.specs.Inner.Answer.{legs_in}
use Rattle.base.proofs.BoolLaws.{to_true}
use Rattle.goal_image.specs.Inner.Memberships.{ContextSets, EventSets}
use Rattle.paths.specs.Model.{Model}
use Rattle.paths.specs.Inner.Agree.{Agree}
use Rattle.access.specs.Authorization.{flow}
use Rattle.goal_model.specs.Images.{meetsρμ, model}
use Rattle.plan.specs.Inner.Entries.{event_sets_at, counted_at}
use Rattle.plan.specs.Inner.Plan.{Ready, PlanCounts, GoalPlan, ruled}
use Rattle.plan.specs.Inner.Sets.{sets_of}
use Rattle.plan.proofs.SetLaws.{goal_sets}
use Rattle.search_steps.proofs.FlowLaws.{flow_class}
use Rattle.search_graph.specs.Inner.Model.{plan_model}
use Rattle.search_graph.proofs.ModelLaws.{range_of}

-- the bits of sets
in_set : {g : Goal} {x : Context} {into : ℕ} → ContextSets g x into → (i : ℕ) → i ≤ 6 → bit into i ≡ context_in g i x
in_set {g} {x} S i h = let k : i < 7 = omega arith in S.at i ∙ rw (lt-ltb i 7 k)

by_set : {g : Goal} {e : Event} {by : ℕ} → EventSets g e by → (i : ℕ) → i < 6 → bit by (7 + i) ≡ event_in g (7 + i) e
by_set {g} {e} S i h =
    let k : 7 + i < 13 = omega arith in
    let k' : 7 ≤ 7 + i = omega arith in
    S.at (7 + i) ∙ rw (lt-ltb (7 + i) 13 k, le-leb 7 (7 + i) k')

module _ {s g plan : List ℕ} {n : Counts} {l : Legs} (R : Ready s n) (C : PlanCounts n) (G : GoalPlan g n plan) (E : ruled s plan ≡ policy_of s) (q : l ≡ legs_in (goal_of g)) where
  abbrev M : Model
  M = plan_model s plan n l

  few : l.count ≤ 6
  few = rw q G.sound.legs.legs.high

  sets : (x : ℕ) → T (M.context x) → ContextSets (goal_of g) (context_of x) (sets_of n plan (context_of x))
  sets x c = goal_sets C G (range_of R x c)

  events : (x e y : ℕ) → T (M.flow_by x e y) → EventSets (goal_of g) (event_of e) (event_sets_at plan e)
  events x e y f =
      let w = flow_class {s = s} (counted_at plan) (event_of e) (context_of x) (context_of y) R.sound (to_true (M.flow_by x e y) f) in
      let a = w.low in
      let b = w.high in
      let c : n.classes ≡ (counts_of s).classes = ap (λ (k : Counts). k.classes) R.same in
      G.events e (omega arith) (omega arith)

  pub same_model : Agree M (model s g)
  same_model =
      record {
        legs = ap (λ (k : Legs). k.count) q;
        flows = λ x e y. ap (λ (p : Policy). flow p (event_of e) (context_of x) (context_of y)) E;
        contexts = λ x. refl;
        held = λ x. ap (λ (p : Policy). meetsρμ p (context_of x)) E;
        repeated = λ i h. ap (λ (k : Legs). bit k.repeated i) q;
        σ = λ i x h c. in_set (sets x c) i (let z = few in omega arith);
        σe = λ x c. (sets x c).at 13;
        γ = λ i x e y h f. by_set (events x e y f) i (let z = few in omega arith);
        γe = λ x e y f. (events x e y f).at 14;
      }
