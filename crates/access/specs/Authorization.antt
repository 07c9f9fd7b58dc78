-- Authorization and flow (paper 01; source 003, sections 2.3 and 2.4). x is the context that acts, y the one acted on.
use Rattle.std.specs.Prelude.{Bool, not, ◌&&◌, ◌||◌, eqb}
use Rattle.policy_image.specs.Policy.{Policy}
use Rattle.context.specs.declared.Context.{Context}
use Rattle.context.specs.declared.Event.{Event}
use Rattle.context.specs.Codes.{is_transition}
use Rattle.relations.specs.Relations.{Γ, α, ρ, μ, role_change, write_like, read_like}
use Rattle.constraints.specs.Constraints.{constraints_hold}
use Rattle.access.specs.declared.Clauses.{Clauses}

-- "χ(c,p): (c,p) is in Γ and all constraints on it are true; with none it is true."
unfoldable pub χ : Policy → Event → Context → Context → Bool
χ p e x y = Γ p e && constraints_hold p e x y

-- "and for process transition kind 7 has (r1,r2) too"; in the source "if c = process ∧ p = transition then α_ρ(r1, r2)". Amended by paper 02, f:
-- "From now on a process transition with r1 = r2 needs no kind 7 record; with different roles it does, as before."
unfoldable pub role_rule : Policy → Event → Context → Context → Bool
role_rule p e x y = not (is_transition e) || (eqb x.role y.role || role_change p x.role y.role)

-- the clauses in the paper's order: "α(t1,t2,c,p), ρ(r1,t1), ρ(r2,t2), μ(u1,r1), μ(u2,r2) and χ", then the role rule
abbrev pub clauses_of : Policy → Event → Context → Context → Clauses
clauses_of p e x y =
    record {
      alpha = α p x.ty y.ty e;
      rho1 = ρ p x.role x.ty;
      rho2 = ρ p y.role y.ty;
      mu1 = μ p x.user x.role;
      mu2 = μ p y.user y.role;
      chi = χ p e x y;
      rule = role_rule p e x y;
    }

-- all of them hold
abbrev pub all_hold : Clauses → Bool
all_hold k = k.alpha && (k.rho1 && (k.rho2 && (k.mu1 && (k.mu2 && (k.chi && k.rule)))))

-- "(c,p) is authorized from (t1,r1,u1) on (t2,r2,u2)"
unfoldable pub authorized : Policy → Event → Context → Context → Bool
authorized p e x y = all_hold (clauses_of p e x y)

-- "Flow goes from x to y by (c,p) when it is write-like and authorized from x on y, or read-like and authorized from y on x."
unfoldable pub flow : Policy → Event → Context → Context → Bool
flow p e x y = (write_like p e && authorized p e x y) || (read_like p e && authorized p e y x)
