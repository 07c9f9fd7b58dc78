-- Authorization and flow rest on the relations alone: where those of a policy are those of two others taken together, so are these.
use Prim.Native.Nat.{ℕ, ◌≤◌}
use mathlib.Core.Path.{◌≡◌, refl, sym, ap, ap₂, ◌∙◌}
use mathlib.Core.Bool.{Bool, not, ◌&&◌, ◌||◌}
use native.Mathlib.Omega.{arith}
use lib.Dec.{eqb}
use Rattle.base.specs.Bits.{bit}
use Rattle.policy_image.specs.declared.records.Record.{Record}
use Rattle.policy_image.specs.Policy.{Policy}
use Rattle.policy_image.specs.OfKind.{some}
use Rattle.policy_sources.specs.Sources.{domain}
use Rattle.policy_lists.specs.Inner.Tests.{IgnoresNext}
use Rattle.context.specs.declared.Context.{Context}
use Rattle.context.specs.declared.Event.{Event}
use Rattle.context.specs.Codes.{is_transition}
use Rattle.relations.proofs.CountedLaws.{AllCount, allowed_all}
use Rattle.relations.specs.Relations.{Γ, flows_as, write_like, read_like, target_of, allowed, α, ρ, μ, role_change}
use Rattle.constraints.specs.Constraints.{constraints_hold}
use Rattle.access.specs.Authorization.{χ, role_rule, authorized, flow}
use Rattle.join_laws.specs.Cases.Both.{domain_both, ΓBoth, allowed_both, constraints_both, pairs, role_holds_both, user_holds_both, role_change_both, write_like_both, read_like_both, TakenTogether, αBoth, ρBoth, μBoth, χBoth, role_rule_both, authorized_both, flow_both}

-- some record of a kind passes a test in r where one does in p or in q, and all constraints of both apply: tests do not look at the next, by
-- which the lists differ
abbrev pub Adds : Policy → Policy → Policy → Type 0
Adds r p q = (k : ℕ) (f : Record → Bool) → 1 ≤ k → k ≤ 7 → IgnoresNext f → some r k f ≡ (some p k f || some q k f)

abbrev pub AllApply : Policy → Policy → Policy → Type 0
AllApply r p q = (e : Event) (x y : Context) → constraints_hold r e x y ≡ (constraints_hold p e x y && constraints_hold q e x y)

-- ---- the relations, each of the records of one kind
module _ (r p q : Policy) (A : Adds r p q) (cr : AllCount r) (cp : AllCount p) (cq : AllCount q) where
  adds_domains : (t : ℕ) → domain r t ≡ domain_both p q t
  unfolding domain domain_both
  adds_domains t = A 1 (λ r. eqb r.a t) (omega arith) (omega arith) (λ n r. refl)

  adds_gamma : (e : Event) → Γ r e ≡ ΓBoth p q e
  unfolding Γ ΓBoth
  adds_gamma e = A 2 (λ r. eqb r.a e.class && bit r.mask e.perm) (omega arith) (omega arith) (λ n r. refl)

  adds_ways : (way : ℕ) (e : Event) → flows_as r way e ≡ (flows_as p way e || flows_as q way e)
  adds_ways way e =
      A 3 (λ r. (eqb r.a e.class && (eqb r.b way || eqb r.b 3)) && bit r.mask e.perm)
      (omega arith) (omega arith) (λ n r. refl)

  adds_writes : (e : Event) → write_like r e ≡ write_like_both p q e
  unfolding write_like write_like_both
  adds_writes e = adds_ways 1 e

  adds_reads : (e : Event) → read_like r e ≡ read_like_both p q e
  unfolding read_like read_like_both
  adds_reads e = adds_ways 2 e

  adds_allows : (t1 t2 : ℕ) (e : Event) → allowed r t1 t2 e ≡ allowed_both p q t1 t2 e
  unfolding allowed_both
  adds_allows t1 t2 e =
      allowed_all r cr t1 t2 e
      ∙ A 4 (λ r. (eqb r.a t1 && (eqb (target_of r) t2 && eqb r.c e.class)) && bit r.mask e.perm) (omega arith) (omega arith) (λ n r. refl)
      ∙ sym (ap₂ ◌||◌ (allowed_all p cp t1 t2 e) (allowed_all q cq t1 t2 e))

  adds_roles : (role t : ℕ) → some r 5 (pairs role t) ≡ role_holds_both p q role t
  unfolding role_holds_both
  adds_roles role t = A 5 (pairs role t) (omega arith) (omega arith) (λ n r. refl)

  adds_users : (u role : ℕ) → some r 6 (pairs u role) ≡ user_holds_both p q u role
  unfolding user_holds_both
  adds_users u role = A 6 (pairs u role) (omega arith) (omega arith) (λ n r. refl)

  adds_changes : (r1 r2 : ℕ) → role_change r r1 r2 ≡ role_change_both p q r1 r2
  unfolding role_change role_change_both
  adds_changes r1 r2 = A 7 (pairs r1 r2) (omega arith) (omega arith) (λ n r. refl)

  pub together : AllApply r p q → TakenTogether r p q
  unfolding constraints_both
  together C =
      record {
        domains = adds_domains;
        gamma = adds_gamma;
        allows = adds_allows;
        constraints = C;
        roles = adds_roles;
        users = adds_users;
        changes = adds_changes;
        writes = adds_writes;
        reads = adds_reads;
      }

-- ---- the clauses, authorization and flow over them
module _ (r p q : Policy) (T : TakenTogether r p q) where
  pub together_alpha : (t1 t2 : ℕ) (e : Event) → α r t1 t2 e ≡ αBoth p q t1 t2 e
  unfolding α αBoth
  together_alpha t1 t2 e = ap₂ ◌&&◌ (T.domains t1) (ap₂ ◌&&◌ (T.gamma e) (T.allows t1 t2 e))

  pub together_rho : (role t : ℕ) → ρ r role t ≡ ρBoth p q role t
  unfolding ρ ρBoth
  together_rho role t = ap₂ ◌||◌ (T.roles role t) (ap (λ (b : Bool). eqb role 1 && not b) (T.domains t))

  pub together_mu : (u role : ℕ) → μ r u role ≡ μBoth p q u role
  unfolding μ μBoth
  together_mu u role = ap (λ (b : Bool). b || eqb role 1) (T.users u role)

  module _ (e : Event) where
    pub together_chi : (x y : Context) → χ r e x y ≡ χBoth p q e x y
    unfolding χ χBoth
    together_chi x y = ap₂ ◌&&◌ (T.gamma e) (T.constraints e x y)

    pub together_rule : (x y : Context) → role_rule r e x y ≡ role_rule_both p q e x y
    unfolding role_rule role_rule_both
    together_rule x y = ap (λ (b : Bool). not (is_transition e) || (eqb x.role y.role || b)) (T.changes x.role y.role)

    pub together_authorized : (x y : Context) → authorized r e x y ≡ authorized_both p q e x y
    unfolding authorized authorized_both
    together_authorized x y =
        ap₂ ◌&&◌ (together_alpha x.ty y.ty e)
        (ap₂ ◌&&◌ (together_rho x.role x.ty)
        (ap₂ ◌&&◌ (together_rho y.role y.ty)
        (ap₂ ◌&&◌ (together_mu x.user x.role)
        (ap₂ ◌&&◌ (together_mu y.user y.role) (ap₂ ◌&&◌ (together_chi x y) (together_rule x y))))))

    pub together_flow : (x y : Context) → flow r e x y ≡ flow_both p q e x y
    unfolding flow flow_both
    together_flow x y =
        ap₂ ◌||◌ (ap₂ ◌&&◌ (T.writes e) (together_authorized x y)) (ap₂ ◌&&◌ (T.reads e) (together_authorized y x))
