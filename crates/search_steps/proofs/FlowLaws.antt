-- Flow, from what a plan says: by which types and events, and what is left to ask of contexts that meet ρ and μ.
use Prim.Native.Nat.{ℕ, ◌<◌}
use mathlib.Core.Bool.{Bool, true, false, not, ◌&&◌, ◌||◌}
use mathlib.Core.List.{List}
use mathlib.Core.Logic.{◌⊎◌, inl, inr, ⊎_elim}
use mathlib.Core.Path.{◌≡◌, refl, sym, ap, ap₂, subst, ◌∙◌}
use native.Mathlib.Omega.{arith}
use borrow.Author.Tests.{eqb-true}
use lib.Dec.{eqb}
use Rattle.base.specs.Bits.{bit}
use Rattle.base.specs.Ranges.{Within}
use Rattle.base.proofs.BoolLaws.{or_cases, or_left, or_true, and_true, and_first, and_second, true_or_false, clash}
use Rattle.policy_image.specs.Layout.{root_of}
use Rattle.policy_image.specs.Policy.{Policy, policy_of}
use Rattle.policy_image.specs.Inner.Counting.{counting}
use Rattle.relations.proofs.CountedLaws.{gamma_counted}
use Rattle.policy_image.specs.OfKind.{some}
use Rattle.policy_fields.specs.Fields.{WithinLimits, limits_of, FieldsInRange}
use Rattle.policy_links.proofs.KindLaws.{some_yes, some_record, every_yes}
use Rattle.policy_check.specs.Inner.Sound.{Sound}
use Rattle.context.specs.declared.Context.{Context}
use Rattle.context.specs.declared.Event.{Event}
use Rattle.context.specs.Codes.{event_of, is_transition}
use Rattle.policy_sources.specs.Sources.{domain}
use Rattle.relations.specs.Relations.{Γ, α, ρ, μ, allowed, write_like, read_like}
use Rattle.constraints.specs.Constraints.{constrains, constraints_hold}
use Rattle.constraints.specs.Eval.{eval_node}
use Rattle.access.specs.Authorization.{χ, role_rule, authorized, flow}
use Rattle.access.proofs.RoleLaws.{rule_free}
use Rattle.goal_model.specs.Images.{meetsρμ}
use Rattle.plan.specs.Inner.Plan.{special}

module _ (p : Policy) (e : Event) where
  pub alpha_defined : (t o : ℕ) → α p t o e ≡ true → Γ p e ≡ true
  unfolding α
  alpha_defined t o a = and_first (Γ p e) (allowed p t o e) (and_second (domain p t) (Γ p e && allowed p t o e) a)

  pub defined_class : FieldsInRange p → Γ p e ≡ true → Within 1 p.counts.classes e.class
  unfolding Γ
  defined_class F t =
      let r = some_record p 2 (λ r. eqb r.a e.class && bit r.mask e.perm) t in
      let i : ℕ = r.0 in
      let a : (p.rec i).a ≡ e.class = eqb-true (p.rec i).a e.class (and_first (eqb (p.rec i).a e.class) (bit (p.rec i).mask e.perm) r.2) in
      let m = subst (λ (k : ℕ). WithinLimits (limits_of p.counts k (p.rec i).a) (p.rec i)) r.1.kind (F.each i r.1.low r.1.high) in
      subst (Within 1 p.counts.classes) a m.a

  module _ (x y : Context) where
    authorized_alpha : authorized p e x y ≡ true → α p x.ty y.ty e ≡ true
    unfolding authorized
    authorized_alpha t = and_first (α p x.ty y.ty e) _ t

    -- both contexts of an action meet ρ and μ
    authorized_held : authorized p e x y ≡ true → (meetsρμ p x ≡ true) × (meetsρμ p y ≡ true)
    unfolding authorized meetsρμ
    authorized_held t =
        let a = and_second (α p x.ty y.ty e) _ t in
        let b = and_second (ρ p x.role x.ty) _ a in
        let c = and_second (ρ p y.role y.ty) _ b in
        let d = and_second (μ p x.user x.role) _ c in (
          rw (and_first (ρ p x.role x.ty) _ a) (and_first (μ p x.user x.role) _ c),
          rw (and_first (ρ p y.role y.ty) _ b) (and_first (μ p y.user y.role) _ d),
        )

    -- the constraints on the event, and the role rule
    abbrev pub conditions : Bool
    conditions = constraints_hold p e x y && role_rule p e x y

    without_gamma : (a g c r : Bool) → (a ≡ true → g ≡ true) → (a && ((g && c) && r)) ≡ (a && (c && r))
    without_gamma true g c r h = rw (h refl)
    without_gamma false g c r h = refl

    authorized_by : meetsρμ p x ≡ true → meetsρμ p y ≡ true → authorized p e x y ≡ (α p x.ty y.ty e && conditions)
    unfolding authorized χ meetsρμ
    authorized_by hx hy =
        let a = and_first (ρ p x.role x.ty) (μ p x.user x.role) hx in
        let b = and_second (ρ p x.role x.ty) (μ p x.user x.role) hx in
        let c = and_first (ρ p y.role y.ty) (μ p y.user y.role) hy in
        let d = and_second (ρ p y.role y.ty) (μ p y.user y.role) hy in
        simp (a, b, c, d) (without_gamma (α p x.ty y.ty e) (Γ p e) (constraints_hold p e x y) (role_rule p e x y) (alpha_defined x.ty y.ty))

  -- flow is by α, one way or the other
  pub flow_alpha : (x y : Context) → flow p e x y ≡ true
      → ((α p x.ty y.ty e ≡ true) × (write_like p e ≡ true)) ⊎ ((α p y.ty x.ty e ≡ true) × (read_like p e ≡ true))
  unfolding flow
  flow_alpha x y t =
      ⊎_elim (λ a. inl (authorized_alpha x y (and_second (write_like p e) (authorized p e x y) a), and_first (write_like p e) (authorized p e x y) a))
      (λ a. inr (authorized_alpha y x (and_second (read_like p e) (authorized p e y x) a), and_first (read_like p e) (authorized p e y x) a))
      (or_cases (write_like p e && authorized p e x y) (read_like p e && authorized p e y x) t)

  pub flow_defined : (x y : Context) → flow p e x y ≡ true → Γ p e ≡ true
  flow_defined x y t = ⊎_elim (λ w. alpha_defined x.ty y.ty w.0) (λ w. alpha_defined y.ty x.ty w.0) (flow_alpha x y t)

  -- both contexts of a flow meet ρ and μ
  pub flow_held : (x y : Context) → flow p e x y ≡ true → (meetsρμ p x ≡ true) × (meetsρμ p y ≡ true)
  unfolding flow
  flow_held x y t =
      ⊎_elim (λ a. authorized_held x y (and_second (write_like p e) (authorized p e x y) a))
      (λ a. let h = authorized_held y x (and_second (read_like p e) (authorized p e y x) a) in (h.1, h.0))
      (or_cases (write_like p e && authorized p e x y) (read_like p e && authorized p e y x) t)

  pub no_flow_lem : (x y : Context) → meetsρμ p y ≡ false → flow p e x y ≡ false
  no_flow_lem x y h = ⊎_elim (λ t. absurd (clash (flow_held x y t).1 h)) (λ f. f) (true_or_false (flow p e x y))

  turned : (w a c : Bool) → (w && (a && c)) ≡ ((a && w) && c)
  turned true true c = refl
  turned true false c = refl
  turned false true c = refl
  turned false false c = refl

  -- what is left to ask of contexts that meet ρ and μ
  pub flow_by_lem : (x y : Context) → meetsρμ p x ≡ true → meetsρμ p y ≡ true
      → flow p e x y
      ≡ (((α p x.ty y.ty e && write_like p e) && conditions x y) || ((α p y.ty x.ty e && read_like p e) && conditions y x))
  unfolding flow
  flow_by_lem x y hx hy =
      ap₂ ◌||◌ (ap (λ (b : Bool). write_like p e && b) (authorized_by x y hx hy) ∙ turned (write_like p e) (α p x.ty y.ty e) (conditions x y))
      (ap (λ (b : Bool). read_like p e && b) (authorized_by y x hy hx) ∙ turned (read_like p e) (α p y.ty x.ty e) (conditions y x))

  -- an event that is not special has no conditions
  or_both : (a b : Bool) → (a || b) ≡ false → (a ≡ false) × (b ≡ false)
  or_both true b h = absurd (clash {b = true} refl h)
  or_both false b h = (refl, h)

  free : (x y : Context) → some p 8 (λ r. constrains r e) ≡ false → constraints_hold p e x y ≡ true
  unfolding constraints_hold
  free x y n =
      every_yes p 8 (λ r. not (constrains r e) || eval_node p x y (root_of r))
      (λ i o.
      ⊎_elim (λ h. absurd (clash (some_yes p 8 (λ r. constrains r e) i o h) n))
      (λ h. or_left (not (constrains (p.rec i) e)) (eval_node p x y (root_of (p.rec i))) (ap not h))
      (true_or_false (constrains (p.rec i) e)))

  pub plain_conditions : special p e ≡ false → (x y : Context) → conditions x y ≡ true
  unfolding special
  plain_conditions h x y =
      let n = or_both (some p 8 (λ r. constrains r e)) (is_transition e) h in
      ap₂ ◌&&◌ (free x y n.0) (rule_free p e x y n.1)

  -- by an event that is not special, what flows from x flows from every context of its type that meets ρ and μ
  pub plain_same : (x x' y : Context) → special p e ≡ false → x.ty ≡ x'.ty → meetsρμ p x' ≡ true → flow p e x y ≡ true → flow p e x' y ≡ true
  plain_same x x' y n q h t =
      flow_by_lem x' y h (flow_held x y t).1
      ∙ ⊎_elim
      (λ w. or_left (writes && conditions x' y) (reads && conditions y x')
      (and_true writes (conditions x' y) (and_true (α p x'.ty y.ty e) (write_like p e) (ap (λ (k : ℕ). α p k y.ty e) (sym q) ∙ w.0) w.1) (plain_conditions n x' y)))
      (λ w. or_true (writes && conditions x' y) (reads && conditions y x')
      (and_true reads (conditions y x') (and_true (α p y.ty x'.ty e) (read_like p e) (ap (λ (k : ℕ). α p y.ty k e) (sym q) ∙ w.0) w.1) (plain_conditions n y x')))
      (flow_alpha x y t)
    where
      writes : Bool
      writes = α p x'.ty y.ty e && write_like p e

      reads : Bool
      reads = α p y.ty x'.ty e && read_like p e

-- the class of an event that flows
pub flow_class : {s : List ℕ} (f : ℕ → Bool) (e : Event) (x y : Context) → Sound s → flow (counting f (policy_of s)) e x y ≡ true → Within 1 (policy_of s).counts.classes e.class
flow_class {s} f e x y S t = defined_class (policy_of s) e S.fields (sym (gamma_counted f (policy_of s) e) ∙ flow_defined (counting f (policy_of s)) e x y t)

-- .. whose code is below 1024, then
pub flow_code : {s : List ℕ} (f : ℕ → Bool) (e : ℕ) (x y : Context) → Sound s → flow (counting f (policy_of s)) (event_of e) x y ≡ true → e < 1024
flow_code {s} f e x y S t =
    let w = flow_class {s = s} f (event_of e) x y S t in
    let h = w.high in
    let c = S.range.classes.high in
    omega arith
