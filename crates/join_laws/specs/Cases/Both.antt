-- "One policy from maker and board" (paper 02, c): what the joined list means, from both lists as they stand, with nothing renumbered. "Its
-- relations are those of both record lists taken together: allows add, constraints all apply, and a type that either calls a domain is one."
-- The formulas are those of paper 01, "Authorization and flow", in its order. p is the maker's policy and q the board's; x is the context
-- that acts, y the one acted on.
use Rattle.std.specs.Prelude.{ℕ, ◌≡◌, Bool, not, ◌&&◌, ◌||◌, eqb}
use Rattle.policy_image.specs.declared.records.Record.{Record}
use Rattle.policy_image.specs.Policy.{Policy}
use Rattle.policy_image.specs.OfKind.{some}
use Rattle.policy_sources.specs.Sources.{domain}
use Rattle.context.specs.declared.Context.{Context}
use Rattle.context.specs.declared.Event.{Event}
use Rattle.context.specs.Codes.{is_transition}
use Rattle.relations.specs.Relations.{Γ, allowed, role_change, write_like, read_like}
use Rattle.constraints.specs.Constraints.{constraints_hold}
use Rattle.access.specs.declared.Clauses.{Clauses}
use Rattle.access.specs.Authorization.{all_hold}

-- ---- "Its relations are those of both record lists taken together"
-- "a type that either calls a domain is one"
unfoldable pub domain_both : Policy → Policy → ℕ → Bool
domain_both p q t = domain p t || domain q t

-- "Γ holds (c,p) when a kind 2 record gives it" (paper 01): one of either list
unfoldable pub ΓBoth : Policy → Policy → Event → Bool
ΓBoth p q e = Γ p e || Γ q e

-- "allows add": "an allow record gives it" (paper 01), one of either list
unfoldable pub allowed_both : Policy → Policy → ℕ → ℕ → Event → Bool
allowed_both p q t1 t2 e = allowed p t1 t2 e || allowed q t1 t2 e

-- "constraints all apply"
unfoldable pub constraints_both : Policy → Policy → Event → Context → Context → Bool
constraints_both p q e x y = constraints_hold p e x y && constraints_hold q e x y

-- a record whose a is n and whose b is m
abbrev pub pairs : ℕ → ℕ → Record → Bool
pairs n m r = eqb r.a n && eqb r.b m

-- "5: role a may hold type b." "6: user a may hold role b." "7: role a may change to role b." (paper 01): a record of either list
unfoldable pub role_holds_both : Policy → Policy → ℕ → ℕ → Bool
role_holds_both p q role t = some p 5 (pairs role t) || some q 5 (pairs role t)

unfoldable pub user_holds_both : Policy → Policy → ℕ → ℕ → Bool
user_holds_both p q u role = some p 6 (pairs u role) || some q 6 (pairs u role)

unfoldable pub role_change_both : Policy → Policy → ℕ → ℕ → Bool
role_change_both p q r1 r2 = role_change p r1 r2 || role_change q r1 r2

-- "b = 1 write-like, 2 read-like, 3 both" (paper 01, kind 3): a record of either list
unfoldable pub write_like_both : Policy → Policy → Event → Bool
write_like_both p q e = write_like p e || write_like q e

unfoldable pub read_like_both : Policy → Policy → Event → Bool
read_like_both p q e = read_like p e || read_like q e

-- the relations of a policy r are "those of both record lists taken together"
pub record TakenTogether (r p q : Policy) : Type 0 where
  pub domains : (t : ℕ) → domain r t ≡ domain_both p q t
  pub gamma : (e : Event) → Γ r e ≡ ΓBoth p q e
  pub allows : (t1 t2 : ℕ) (e : Event) → allowed r t1 t2 e ≡ allowed_both p q t1 t2 e
  pub constraints : (e : Event) (x y : Context) → constraints_hold r e x y ≡ constraints_both p q e x y
  pub roles : (role t : ℕ) → some r 5 (pairs role t) ≡ role_holds_both p q role t
  pub users : (u role : ℕ) → some r 6 (pairs u role) ≡ user_holds_both p q u role
  pub changes : (r1 r2 : ℕ) → role_change r r1 r2 ≡ role_change_both p q r1 r2
  pub writes : (e : Event) → write_like r e ≡ write_like_both p q e
  pub reads : (e : Event) → read_like r e ≡ read_like_both p q e

-- ---- "Authorization in the result is judged on this joined list, since a board's constraint may take away what the maker allowed."
-- "α(t1,t2,c,p): t1 is a domain, (c,p) is in Γ, and an allow record gives it." One list may call t1 a domain where the other allows.
unfoldable pub αBoth : Policy → Policy → ℕ → ℕ → Event → Bool
αBoth p q t1 t2 e = domain_both p q t1 && (ΓBoth p q e && allowed_both p q t1 t2 e)

-- "ρ(r,t): a kind 5 record, or r = 1 and t is not a domain." Not a domain of either.
unfoldable pub ρBoth : Policy → Policy → ℕ → ℕ → Bool
ρBoth p q role t = role_holds_both p q role t || (eqb role 1 && not (domain_both p q t))

-- "μ(u,r): a kind 6 record, or r = 1."
unfoldable pub μBoth : Policy → Policy → ℕ → ℕ → Bool
μBoth p q u role = user_holds_both p q u role || eqb role 1

-- "χ(c,p): (c,p) is in Γ and all constraints on it are true; with none it is true."
unfoldable pub χBoth : Policy → Policy → Event → Context → Context → Bool
χBoth p q e x y = ΓBoth p q e && constraints_both p q e x y

-- "and for process transition kind 7 has (r1,r2) too", where r1 and r2 differ (paper 02, f)
unfoldable pub role_rule_both : Policy → Policy → Event → Context → Context → Bool
role_rule_both p q e x y = not (is_transition e) || (eqb x.role y.role || role_change_both p q x.role y.role)

-- the clauses in the paper's order: "α(t1,t2,c,p), ρ(r1,t1), ρ(r2,t2), μ(u1,r1), μ(u2,r2) and χ", then the role rule
abbrev pub clauses_both : Policy → Policy → Event → Context → Context → Clauses
clauses_both p q e x y =
    record {
      alpha = αBoth p q x.ty y.ty e;
      rho1 = ρBoth p q x.role x.ty;
      rho2 = ρBoth p q y.role y.ty;
      mu1 = μBoth p q x.user x.role;
      mu2 = μBoth p q y.user y.role;
      chi = χBoth p q e x y;
      rule = role_rule_both p q e x y;
    }

-- "(c,p) is authorized from (t1,r1,u1) on (t2,r2,u2)"
unfoldable pub authorized_both : Policy → Policy → Event → Context → Context → Bool
authorized_both p q e x y = all_hold (clauses_both p q e x y)

-- "Flow goes from x to y by (c,p) when it is write-like and authorized from x on y, or read-like and authorized from y on x."
unfoldable pub flow_both : Policy → Policy → Event → Context → Context → Bool
flow_both p q e x y = (write_like_both p q e && authorized_both p q e x y) || (read_like_both p q e && authorized_both p q e y x)
