-- Which allow records count is nothing to a relation that asks no allow record.
use Prim.Native.Nat.{ℕ}
use mathlib.Core.Path.{◌≡◌, refl}
use mathlib.Core.Bool.{Bool, true, ◌&&◌}
use lib.Dec.{eqb}
use Rattle.base.specs.Bits.{bit}
use Rattle.policy_image.specs.Policy.{Policy}
use Rattle.policy_image.specs.Inner.Counting.{counting}
use Rattle.policy_image.specs.OfKind.{some, every}
use Rattle.policy_links.proofs.KindLaws.{counted_all}
use Rattle.policy_sources.specs.Sources.{domain, AllowsFromDomains}
use Rattle.context.specs.declared.Event.{Event}
use Rattle.relations.specs.Relations.{Γ, write_like, read_like, target_of, allowed, ρ, μ, role_change}

module _ (f : ℕ → Bool) (p : Policy) where
  pub domain_counted : (t : ℕ) → domain (counting f p) t ≡ domain p t
  unfolding domain some
  domain_counted t = refl

  pub sources_counted : AllowsFromDomains p → AllowsFromDomains (counting f p)
  unfolding domain some every
  sources_counted a = a

  pub gamma_counted : (e : Event) → Γ (counting f p) e ≡ Γ p e
  unfolding Γ some
  gamma_counted e = refl

  pub writes_counted : (e : Event) → write_like (counting f p) e ≡ write_like p e
  unfolding write_like some
  writes_counted e = refl

  pub reads_counted : (e : Event) → read_like (counting f p) e ≡ read_like p e
  unfolding read_like some
  reads_counted e = refl

  pub rho_counted : (role t : ℕ) → ρ (counting f p) role t ≡ ρ p role t
  unfolding ρ domain some
  rho_counted role t = refl

  pub mu_counted : (u role : ℕ) → μ (counting f p) u role ≡ μ p u role
  unfolding μ some
  mu_counted u role = refl

  pub change_counted : (r1 r2 : ℕ) → role_change (counting f p) r1 r2 ≡ role_change p r1 r2
  unfolding role_change some
  change_counted r1 r2 = refl

-- every allow record counts, as in the policy of an image and in that of a list: then `allowed` asks nothing else of a record than its fields
abbrev pub AllCount : Policy → Type 0
AllCount p = (i : ℕ) → p.counted i ≡ true

pub allowed_all : (p : Policy) → AllCount p → (t1 t2 : ℕ) (e : Event)
    → allowed p t1 t2 e ≡ some p 4 (λ r. (eqb r.a t1 && (eqb (target_of r) t2 && eqb r.c e.class)) && bit r.mask e.perm)
unfolding allowed
allowed_all p all t1 t2 e = counted_all p 4 (λ r. (eqb r.a t1 && (eqb (target_of r) t2 && eqb r.c e.class)) && bit r.mask e.perm) all
