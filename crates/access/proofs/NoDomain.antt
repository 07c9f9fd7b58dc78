-- W9: "an added allow 3 on 1 read authorizes nothing": the formulas authorize no action of type 3, and say every other thing as without the
-- record, for all contexts and events. They speak of every policy, also of those that question 14 refuses, as it does this one
-- (policy_check/proofs/Cases `w9_refused`).
use Prim.Native.Nat.{ℕ}
use mathlib.Core.Bool.{false, or-false}
use mathlib.Core.Logic.{⊎_elim}
use mathlib.Core.Path.{◌≡◌, refl, sym, subst, ◌∙◌}
use borrow.Author.Tests.{ne_eqb}
use Rattle.base.proofs.Numbers.{split_eq}
use Rattle.policy_image.specs.Layout.{record_count, record_of, payload_of, decoded}
use Rattle.policy_image.specs.Policy.{policy_of}
use Rattle.policy_image.specs.OfKind.{some, every}
use Rattle.policy_image.specs.Cases.Weir.{weir, weir_allow31}
use Rattle.context.specs.declared.Context.{Context}
use Rattle.context.specs.declared.Event.{Event}
use Rattle.policy_sources.specs.Sources.{domain}
use Rattle.relations.specs.Relations.{Γ, write_like, read_like, allowed, α, ρ, μ, role_change}
use Rattle.constraints.specs.Constraints.{constraints_hold}
use Rattle.access.specs.Authorization.{χ, role_rule, authorized, flow}

-- no action from type 3
pub w9_nothing : (e : Event) (x y : Context) → x.ty ≡ 3 → authorized (policy_of weir_allow31) e x y ≡ false
unfolding authorized α domain some record_count record_of payload_of decoded
w9_nothing e x y h = subst (λ (t : ℕ). authorized (policy_of weir_allow31) e (record { ty = t; role = x.role; user = x.user }) y ≡ false) (sym h) refl

-- ---- each relation is as without the record
w9_domain : (t : ℕ) → domain (policy_of weir_allow31) t ≡ domain (policy_of weir) t
unfolding domain some record_count record_of payload_of decoded
w9_domain t = simp or-false

w9_gamma : (e : Event) → Γ (policy_of weir_allow31) e ≡ Γ (policy_of weir) e
unfolding Γ some record_count record_of payload_of decoded
w9_gamma e = simp or-false

w9_rho : (r t : ℕ) → ρ (policy_of weir_allow31) r t ≡ ρ (policy_of weir) r t
unfolding ρ domain some record_count record_of payload_of decoded
w9_rho r t = simp or-false

w9_mu : (u r : ℕ) → μ (policy_of weir_allow31) u r ≡ μ (policy_of weir) u r
unfolding μ some record_count record_of payload_of decoded
w9_mu u r = refl

w9_chi : (e : Event) (x y : Context) → χ (policy_of weir_allow31) e x y ≡ χ (policy_of weir) e x y
unfolding χ Γ constraints_hold some every record_count record_of payload_of decoded
w9_chi e x y = simp or-false

w9_rule : (e : Event) (x y : Context) → role_rule (policy_of weir_allow31) e x y ≡ role_rule (policy_of weir) e x y
unfolding role_rule role_change some record_count record_of payload_of decoded
w9_rule e x y = simp or-false

w9_allowed : (t1 t2 : ℕ) (e : Event) → (3 ≡ t1 → ⊥) → allowed (policy_of weir_allow31) t1 t2 e ≡ allowed (policy_of weir) t1 t2 e
unfolding allowed some record_count record_of payload_of decoded
w9_allowed t1 t2 e n = simp (ne_eqb 3 t1 n, or-false)

weir_nothing : (e : Event) (x y : Context) → x.ty ≡ 3 → authorized (policy_of weir) e x y ≡ false
unfolding authorized α domain some record_count record_of payload_of decoded
weir_nothing e x y h = subst (λ (t : ℕ). authorized (policy_of weir) e (record { ty = t; role = x.role; user = x.user }) y ≡ false) (sym h) refl

w9_other : (e : Event) (x y : Context) → (3 ≡ x.ty → ⊥) → authorized (policy_of weir_allow31) e x y ≡ authorized (policy_of weir) e x y
unfolding authorized α
w9_other e x y n =
    rw (w9_domain x.ty, w9_gamma e, w9_allowed x.ty y.ty e n, w9_rho x.role x.ty, w9_rho y.role y.ty, w9_mu x.user x.role, w9_mu y.user y.role, w9_chi e x y, w9_rule e x y)

-- every authorization is as without the record ..
pub w9_authorized : (e : Event) (x y : Context) → authorized (policy_of weir_allow31) e x y ≡ authorized (policy_of weir) e x y
w9_authorized e x y =
    ⊎_elim (λ h. w9_nothing e x y (sym h) ∙ sym (weir_nothing e x y (sym h))) (w9_other e x y) (split_eq 3 x.ty)

-- .. and so is every flow
pub w9_flow : (e : Event) (x y : Context) → flow (policy_of weir_allow31) e x y ≡ flow (policy_of weir) e x y
unfolding flow write_like read_like some record_count record_of payload_of decoded
w9_flow e x y = simp (w9_authorized e x y, w9_authorized e y x, or-false)
