-- The role rule: what it asks of process transition, and of no other event. Whoever rests on these need not know how it is said.
use mathlib.Core.Bool.{Bool, true, false, not, ◌||◌}
use mathlib.Core.Path.{◌≡◌, ap, ◌∙◌}
use borrow.Author.Tests.{eq-eqb, ne_eqb}
use lib.Dec.{eqb}
use Rattle.base.proofs.BoolLaws.{or_true, or_left}
use Rattle.policy_image.specs.Policy.{Policy}
use Rattle.context.specs.declared.Context.{Context}
use Rattle.context.specs.declared.Event.{Event}
use Rattle.context.specs.Codes.{is_transition}
use Rattle.relations.specs.Relations.{role_change}
use Rattle.access.specs.Authorization.{role_rule}

-- the roles are equal, or the one may change to the other
abbrev pub may_become : Policy → Context → Context → Bool
may_become p x y = eqb x.role y.role || role_change p x.role y.role

module _ (p : Policy) (e : Event) (x y : Context) where
  pub rule_free : is_transition e ≡ false → role_rule p e x y ≡ true
  unfolding role_rule
  rule_free h = ap (λ (b : Bool). not b || may_become p x y) h

  pub rule_asked : is_transition e ≡ true → role_rule p e x y ≡ may_become p x y
  unfolding role_rule
  rule_asked h = ap (λ (b : Bool). not b || may_become p x y) h

  -- events of which both or neither are process transition
  pub rule_same : (f : Event) → is_transition e ≡ is_transition f → role_rule p e x y ≡ role_rule p f x y
  unfolding role_rule
  rule_same f h = ap (λ (b : Bool). not b || may_become p x y) h

  -- "r1 = r2 needs no kind 7 record", whatever the event is
  pub rule_equal : x.role ≡ y.role → role_rule p e x y ≡ true
  unfolding role_rule
  rule_equal q =
      or_true (not (is_transition e)) (may_become p x y) (or_left (eqb x.role y.role) (role_change p x.role y.role) (eq-eqb x.role y.role q))

  -- "with different roles it does, as before": the source's formula is what is left
  pub rule_different : (x.role ≡ y.role → ⊥) → role_rule p e x y ≡ (not (is_transition e) || role_change p x.role y.role)
  unfolding role_rule
  rule_different n = ap (λ (b : Bool). not (is_transition e) || (b || role_change p x.role y.role)) (ne_eqb x.role y.role n)

  pub rule_needed : is_transition e ≡ true → (x.role ≡ y.role → ⊥) → role_rule p e x y ≡ role_change p x.role y.role
  rule_needed h n = rule_different n ∙ ap (λ (b : Bool). not b || role_change p x.role y.role) h
