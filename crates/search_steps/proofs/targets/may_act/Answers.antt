use Prim.Native.Nat.{ℕ}
use mathlib.Core.Bool.{not}
use mathlib.Core.List.{List}
use mathlib.Core.Path.{◌≡◌, sym, ap, ◌∙◌}
use Rattle.context.specs.declared.Context.{Context}
use Rattle.context.specs.declared.Event.{Event}
use Rattle.constraints.specs.Constraints.{constraints_hold}
use Rattle.constraints.proofs.CountedLaws.{constraints_counted}
use Rattle.policy_image.specs.Policy.{policy_of}
use Rattle.plan.specs.Inner.Plan.{ruled}
use Rattle.plan.specs.Inner.Entries.{counted_at}
use Rattle.search_steps.proofs.OfferLaws.{not_held, no_rule, by_rule}
use Rattle.search_steps.proofs.targets.may_act.Goals.{then-may, else-may}
use Rattle.search_steps.proofs.targets.may_act.Goals as goal

-- which allow records count is nothing to a constraint
held : (s plan : List ℕ) (x y : Context) (e : Event) → constraints_hold (policy_of s) e x y ≡ constraints_hold (ruled s plan) e x y
held s plan x y e = sym (constraints_counted (counted_at plan) (policy_of s) x y e)

pub returns-then-not-is_transition : goal.returns-then-not-is_transition
returns-then-not-is_transition c =
    elim c.if-may.branch [
      | then-may w ↦ ap not c.if-not-is_transition.true
          ∙ no_rule _ c.args.x c.args.y _ _ c.decode-e.ensures w.if-may.true _ (w.constraints_hold.ensures ∙ held c.args.policy.now c.args.plan.now c.args.x c.args.y _) (sym w.value-is ∙ c.if-constraints_hold.true) _ c.is_transition.ensures c.if-not-is_transition.true
      | else-may w ↦ cc
    ]

pub returns-else-not-is_transition : goal.returns-else-not-is_transition
returns-else-not-is_transition c =
    elim c.if-may.branch [
      | then-may w ↦ by_rule _ c.args.x c.args.y _ _ c.decode-e.ensures w.if-may.true _ (w.constraints_hold.ensures ∙ held c.args.policy.now c.args.plan.now c.args.x c.args.y _) (sym w.value-is ∙ c.if-constraints_hold.true) _ c.is_transition.ensures c.if-not-is_transition.false (c.has_bit.ensures ∙ c.requires.1.tables.change c.args.x.role c.args.y.role c.requires.3)
      | else-may w ↦ cc
    ]

pub returns-else-constraints_hold : goal.returns-else-constraints_hold
returns-else-constraints_hold c =
    elim c.if-may.branch [
      | then-may w ↦ c.if-constraints_hold.false ∙ not_held _ c.args.x c.args.y _ _ c.decode-e.ensures w.if-may.true _ (w.constraints_hold.ensures ∙ held c.args.policy.now c.args.plan.now c.args.x c.args.y _) (sym w.value-is ∙ c.if-constraints_hold.false)
      | else-may w ↦ rw (c.if-constraints_hold.false, w.if-may.false)
    ]
