-- Authorization and flow against the source's formula, which paper 02, f, amends: for every policy, event and pair of contexts.
use mathlib.Core.Bool.{Bool, true, false, not, ◌&&◌, ◌||◌}
use mathlib.Core.Logic.{⊎_elim}
use mathlib.Core.Path.{◌≡◌, refl, sym, ap, ap₂, ◌∙◌}
use lib.Dec.{eqb}
use Rattle.base.proofs.BoolLaws.{or_true, or_left, or_cases}
use Rattle.policy_image.specs.Policy.{Policy}
use Rattle.context.specs.declared.Context.{Context}
use Rattle.context.specs.declared.Event.{Event}
use Rattle.context.specs.Codes.{is_transition}
use Rattle.relations.specs.Relations.{role_change, write_like, read_like}
use Rattle.access.specs.Authorization.{clauses_of, all_hold, role_rule, authorized, flow}
use Rattle.access.specs.Cases.RoleRules.{Rule, ruled, authorized_under, flow_under, source_rule, never_asked}
use Rattle.access.proofs.RoleLaws.{may_become, rule_free, rule_equal, rule_different}

and_more : (a b c : Bool) → (b ≡ true → c ≡ true) → (a && b) ≡ true → (a && c) ≡ true
and_more true b c h t = h t
and_more false b c h t = t

or_more : (a b c d : Bool) → (a ≡ true → c ≡ true) → (b ≡ true → d ≡ true) → (a || b) ≡ true → (c || d) ≡ true
or_more a b c d h k t = ⊎_elim (λ u. or_left c d (h u)) (λ u. or_true c d (k u)) (or_cases a b t)

module _ (p : Policy) (e : Event) where
  module _ (x y : Context) where
    -- ours is the source's formula but for the rule
    pub authorized_ours : authorized p e x y ≡ authorized_under role_rule p e x y
    unfolding authorized authorized_under
    authorized_ours = refl

    -- a rule that says the same of the action authorizes the same
    by_same : (w : Rule) → role_rule p e x y ≡ w p e x y → authorized p e x y ≡ authorized_under w p e x y
    unfolding authorized authorized_under
    by_same w h = ap (λ (b : Bool). all_hold (ruled (clauses_of p e x y) b)) h

    rule_more : source_rule p e x y ≡ true → role_rule p e x y ≡ true
    unfolding role_rule
    rule_more h =
        or_more (not (is_transition e)) (role_change p x.role y.role) (not (is_transition e)) (may_become p x y) (λ t. t)
        (or_true (eqb x.role y.role) (role_change p x.role y.role)) h

    -- all that the source's formula authorizes is authorized
    pub authorized_more : authorized_under source_rule p e x y ≡ true → authorized p e x y ≡ true
    unfolding authorized authorized_under
    authorized_more =
        let k = clauses_of p e x y in
        and_more k.alpha _ _ (and_more k.rho1 _ _ (and_more k.rho2 _ _ (and_more k.mu1 _ _ (and_more k.mu2 _ _ (and_more k.chi _ _ rule_more)))))

    -- "a process transition with r1 = r2 needs no kind 7 record": the other clauses decide
    pub authorized_equal : x.role ≡ y.role → authorized p e x y ≡ authorized_under never_asked p e x y
    authorized_equal q = by_same never_asked (rule_equal p e x y q)

    -- "with different roles it does, as before": the source's formula
    pub authorized_different : (x.role ≡ y.role → ⊥) → authorized p e x y ≡ authorized_under source_rule p e x y
    authorized_different n = by_same source_rule (rule_different p e x y n)

    -- of any other event the source's formula too
    pub authorized_other : is_transition e ≡ false → authorized p e x y ≡ authorized_under source_rule p e x y
    authorized_other h = by_same source_rule (rule_free p e x y h ∙ sym (ap (λ (b : Bool). not b || role_change p x.role y.role) h))

  module _ (x y : Context) where
    pub flow_ours : flow p e x y ≡ flow_under role_rule p e x y
    unfolding flow flow_under
    flow_ours = ap₂ (λ (a b : Bool). (write_like p e && a) || (read_like p e && b)) (authorized_ours x y) (authorized_ours y x)

    pub flow_more : flow_under source_rule p e x y ≡ true → flow p e x y ≡ true
    unfolding flow flow_under
    flow_more = or_more _ _ _ _ (and_more (write_like p e) _ _ (authorized_more x y)) (and_more (read_like p e) _ _ (authorized_more y x))

    -- whichever way the flow goes, the roles are those of the two contexts
    pub flow_different : (x.role ≡ y.role → ⊥) → flow p e x y ≡ flow_under source_rule p e x y
    unfolding flow flow_under
    flow_different n =
        ap₂ (λ (a b : Bool). (write_like p e && a) || (read_like p e && b)) (authorized_different x y n) (authorized_different y x (λ q. n (sym q)))

    pub flow_other : is_transition e ≡ false → flow p e x y ≡ flow_under source_rule p e x y
    unfolding flow flow_under
    flow_other h = ap₂ (λ (a b : Bool). (write_like p e && a) || (read_like p e && b)) (authorized_other x y h) (authorized_other y x h)
