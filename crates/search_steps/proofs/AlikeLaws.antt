-- Events that a search cannot tell apart flow between the same contexts, as far as types let them.
use Prim.Native.Nat.{ℕ}
use mathlib.Core.Bool.{Bool, not, ◌&&◌, ◌||◌}
use mathlib.Core.List.{List}
use mathlib.Core.Path.{◌≡◌, sym, ap, ap₂, ◌∙◌}
use Rattle.base.proofs.BoolLaws.{same_truth}
use Rattle.policy_image.specs.declared.records.Record.{Record}
use Rattle.policy_image.specs.Layout.{root_of}
use Rattle.policy_image.specs.Policy.{Policy}
use Rattle.policy_image.specs.OfKind.{some, every}
use Rattle.policy_links.proofs.KindLaws.{OfKind, some_yes, some_record, every_yes, every_record}
use Rattle.context.specs.declared.Context.{Context}
use Rattle.context.specs.declared.Event.{Event}
use Rattle.context.specs.Codes.{event_of}
use Rattle.constraints.specs.Constraints.{constrains, constraints_hold}
use Rattle.constraints.specs.Eval.{eval_node}
use Rattle.access.proofs.RoleLaws.{rule_same}
use Rattle.plan.specs.Inner.Plan.{special, Alike}
use Rattle.search_steps.proofs.FlowLaws.{conditions}

-- tests that agree on every record of a kind
module _ (p : Policy) (k : ℕ) (f g : Record → Bool) (same : (i : ℕ) → OfKind p k i → f (p.rec i) ≡ g (p.rec i)) where
  some_same : some p k f ≡ some p k g
  some_same =
      same_truth (some p k f) (some p k g)
      (λ t. let r = some_record p k f t in some_yes p k g r.0 r.1 (sym (same r.0 r.1) ∙ r.2))
      (λ t. let r = some_record p k g t in some_yes p k f r.0 r.1 (same r.0 r.1 ∙ r.2))

  every_same : every p k f ≡ every p k g
  every_same =
      same_truth (every p k f) (every p k g)
      (λ t. every_yes p k g (λ i o. sym (same i o) ∙ every_record p k f t i o))
      (λ t. every_yes p k f (λ i o. same i o ∙ every_record p k g t i o))

-- events on which the same constraints are
pub constraints_alike : (p : Policy) (e f : Event) → ((i : ℕ) → OfKind p 8 i → constrains (p.rec i) e ≡ constrains (p.rec i) f) → (x y : Context)
    → constraints_hold p e x y ≡ constraints_hold p f x y
unfolding constraints_hold
constraints_alike p e f both x y =
    every_same p 8 (λ r. not (constrains r e) || eval_node p x y (root_of r)) (λ r. not (constrains r f) || eval_node p x y (root_of r))
    (λ i o. ap (λ (b : Bool). not b || eval_node p x y (root_of (p.rec i))) (both i o))

module _ {p : Policy} {plan : List ℕ} {e f : ℕ} (A : Alike p plan e f) where
  on_both : (i : ℕ) → OfKind p 8 i → constrains (p.rec i) (event_of e) ≡ constrains (p.rec i) (event_of f)
  on_both i o = A.constrained i o.low o.high o.kind

  pub special_same : special p (event_of e) ≡ special p (event_of f)
  unfolding special
  special_same = ap₂ ◌||◌ (some_same p 8 (λ r. constrains r (event_of e)) (λ r. constrains r (event_of f)) on_both) A.transition

  pub conditions_same : (x y : Context) → conditions p (event_of e) x y ≡ conditions p (event_of f) x y
  conditions_same x y = ap₂ ◌&&◌ (constraints_alike p (event_of e) (event_of f) on_both x y) (rule_same p (event_of e) x y (event_of f) A.transition)
