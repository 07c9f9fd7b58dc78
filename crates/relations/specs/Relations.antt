-- The relations that the records of a policy state (paper 01, "The policy image" and "Authorization and flow"; source 003,
-- Table 2). Types, roles and users are their numbers.
use Rattle.std.specs.Prelude.{ℕ, Bool, not, cond, ◌&&◌, ◌||◌, eqb}
use Rattle.base.specs.Bits.{bit}
use Rattle.policy_image.specs.declared.records.Record.{Record}
use Rattle.policy_image.specs.Policy.{Policy}
use Rattle.policy_image.specs.OfKind.{some, some_counted}
use Rattle.policy_sources.specs.Sources.{domain}
use Rattle.context.specs.declared.Event.{Event}

-- "2: class a has the permissions in mask." "Γ holds (c,p) when a kind 2 record gives it."
unfoldable pub Γ : Policy → Event → Bool
Γ p e = some p 2 (λ r. eqb r.a e.class && bit r.mask e.perm)

-- "3: class a, permissions in mask: b = 1 write-like, 2 read-like, 3 both."
abbrev pub flows_as : Policy → ℕ → Event → Bool
flows_as p way e = some p 3 (λ r. (eqb r.a e.class && (eqb r.b way || eqb r.b 3)) && bit r.mask e.perm)

unfoldable pub write_like : Policy → Event → Bool
write_like p e = flows_as p 1 e

unfoldable pub read_like : Policy → Event → Bool
read_like p e = flows_as p 2 e

-- the target of an allow record: "b = 0 means the source type itself (self)"
abbrev pub target_of : Record → ℕ
target_of r = cond (eqb r.b 0) r.a r.b

-- "4: source type a may act on target type b in class c with mask", by an allow record that counts
unfoldable pub allowed : Policy → ℕ → ℕ → Event → Bool
allowed p t1 t2 e = some_counted p 4 (λ r. (eqb r.a t1 && (eqb (target_of r) t2 && eqb r.c e.class)) && bit r.mask e.perm)

-- "α(t1,t2,c,p): t1 is a domain, (c,p) is in Γ, and an allow record gives it."
unfoldable pub α : Policy → ℕ → ℕ → Event → Bool
α p t1 t2 e = domain p t1 && (Γ p e && allowed p t1 t2 e)

-- "5: role a may hold type b." "ρ(r,t): a kind 5 record, or r = 1 and t is not a domain."
unfoldable pub ρ : Policy → ℕ → ℕ → Bool
ρ p role t = some p 5 (λ r. eqb r.a role && eqb r.b t) || (eqb role 1 && not (domain p t))

-- "6: user a may hold role b." "μ(u,r): a kind 6 record, or r = 1."
unfoldable pub μ : Policy → ℕ → ℕ → Bool
μ p u role = some p 6 (λ r. eqb r.a u && eqb r.b role) || eqb role 1

-- "7: role a may change to role b.": the source's role transition relation
unfoldable pub role_change : Policy → ℕ → ℕ → Bool
role_change p r1 r2 = some p 7 (λ r. eqb r.a r1 && eqb r.b r2)
