-- Policies with the same facts, whose constraints say the same, have the same relations; authorization and flow rest on these alone.
use Prim.Native.Nat.{ℕ}
use mathlib.Core.Path.{◌≡◌, refl, sym, ◌∙◌}
use mathlib.Core.Bool.{not, ◌&&◌, ◌||◌}
use mathlib.Core.Logic.{inl, inr}
use native.Mathlib.Omega.{arith}
use lib.Dec.{eqb}
use Rattle.policy_image.specs.Policy.{Policy}
use Rattle.policy_facts.proofs.RelationLaws.{SameFacts, domain_same, class_same, flow_same, allow_same, pair_same}
use Rattle.context.specs.declared.Context.{Context}
use Rattle.context.specs.declared.Event.{Event}
use Rattle.context.specs.Codes.{is_transition}
use Rattle.relations.proofs.CountedLaws.{AllCount, allowed_all}
use Rattle.relations.specs.Relations.{Γ, write_like, read_like, allowed, α, ρ, μ, role_change}
use Rattle.constraints.specs.Constraints.{constraints_hold}
use Rattle.access.specs.Authorization.{χ, role_rule, all_hold, authorized, flow}
use Rattle.canonical_laws.specs.Cases.Theorems.{SameRelations}

module _ {p q : Policy} (S : SameFacts p q) (cp : AllCount p) (cq : AllCount q) where
  -- ---- the relations, each of the records of one kind
  same_gamma : (e : Event) → Γ p e ≡ Γ q e
  unfolding Γ
  same_gamma e = class_same S e.class e.perm

  same_writes : (e : Event) → write_like p e ≡ write_like q e
  unfolding write_like
  same_writes e = flow_same S e.class 1 e.perm (inl refl)

  same_reads : (e : Event) → read_like p e ≡ read_like q e
  unfolding read_like
  same_reads e = flow_same S e.class 2 e.perm (inr refl)

  same_allows : (t1 t2 : ℕ) (e : Event) → allowed p t1 t2 e ≡ allowed q t1 t2 e
  same_allows t1 t2 e = allowed_all p cp t1 t2 e ∙ allow_same S t1 t2 e.class e.perm ∙ sym (allowed_all q cq t1 t2 e)

  same_changes : (r1 r2 : ℕ) → role_change p r1 r2 ≡ role_change q r1 r2
  unfolding role_change
  same_changes r1 r2 = pair_same S 7 (record { low = omega arith; high = omega arith }) r1 r2

  -- ---- the clauses over them
  same_alpha : (t1 t2 : ℕ) (e : Event) → α p t1 t2 e ≡ α q t1 t2 e
  unfolding α
  same_alpha t1 t2 e = λ j. domain_same S t1 j && (same_gamma e j && same_allows t1 t2 e j)

  same_rho : (role t : ℕ) → ρ p role t ≡ ρ q role t
  unfolding ρ
  same_rho role t = λ j. pair_same S 5 (record { low = omega arith; high = omega arith }) role t j || (eqb role 1 && not (domain_same S t j))

  same_mu : (u role : ℕ) → μ p u role ≡ μ q u role
  unfolding μ
  same_mu u role = λ j. pair_same S 6 (record { low = omega arith; high = omega arith }) u role j || eqb role 1

  module _ (C : (e : Event) (x y : Context) → constraints_hold p e x y ≡ constraints_hold q e x y) where
    same_chi : (e : Event) (x y : Context) → χ p e x y ≡ χ q e x y
    unfolding χ
    same_chi e x y = λ j. same_gamma e j && C e x y j

    same_rule : (e : Event) (x y : Context) → role_rule p e x y ≡ role_rule q e x y
    unfolding role_rule
    same_rule e x y = λ j. not (is_transition e) || (eqb x.role y.role || same_changes x.role y.role j)

    -- ---- authorization and flow
    same_authorized : (e : Event) (x y : Context) → authorized p e x y ≡ authorized q e x y
    unfolding authorized
    same_authorized e x y =
        λ j.
        all_hold
        (record {
          alpha = same_alpha x.ty y.ty e j;
          rho1 = same_rho x.role x.ty j;
          rho2 = same_rho y.role y.ty j;
          mu1 = same_mu x.user x.role j;
          mu2 = same_mu y.user y.role j;
          chi = same_chi e x y j;
          rule = same_rule e x y j;
        })

    same_flow : (e : Event) (x y : Context) → flow p e x y ≡ flow q e x y
    unfolding flow
    same_flow e x y = λ j. (same_writes e j && same_authorized e x y j) || (same_reads e j && same_authorized e y x j)

    pub same_relations : SameRelations p q
    same_relations =
        record {
          domains = domain_same S;
          gamma = same_gamma;
          writes = same_writes;
          reads = same_reads;
          allows = same_allows;
          alpha = same_alpha;
          rho = same_rho;
          mu = same_mu;
          changes = same_changes;
          constraints = C;
          chi = same_chi;
          rule = same_rule;
          authorizes = same_authorized;
          flows = same_flow;
        }
