use mathlib.Core.Path.{sym, ◌∙◌}
use Rattle.std.proofs.Common.{eq-eqb}
use Rattle.access.proofs.RoleLaws.{rule_free, rule_equal, rule_needed}
use Rattle.access.proofs.role_rule.Goals as goal

pub returns-then-not-is_transition : goal.returns-then-not-is_transition
returns-then-not-is_transition c = sym (rule_free _ _ _ _ (sym c.is_transition.ensures ∙ c.if-not-is_transition.true))

pub returns-then-x-y : goal.returns-then-x-y
returns-then-x-y c = eq-eqb _ _ c.if-x-y.true ∙ sym (rule_equal _ _ _ _ c.if-x-y.true)

pub returns-else-x-y : goal.returns-else-x-y
returns-else-x-y c =
    let asked = c.is_transition in
    c.role_change.ensures ∙ sym (rule_needed _ _ _ _ (sym asked.ensures ∙ c.if-not-is_transition.false) c.if-x-y.false)
