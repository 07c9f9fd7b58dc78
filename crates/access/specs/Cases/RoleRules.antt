-- Authorization and flow with another role rule in the place of ours: the source's, which paper 02, f, amends, and misreadings of what it says. No
-- promise rests on them. x is the context that acts, y the one acted on.
use Rattle.std.specs.Prelude.{Bool, true, not, ◌&&◌, ◌||◌, eqb}
use Rattle.policy_image.specs.Policy.{Policy}
use Rattle.context.specs.declared.Context.{Context}
use Rattle.context.specs.declared.Event.{Event}
use Rattle.context.specs.Codes.{is_transition}
use Rattle.relations.specs.Relations.{role_change, write_like, read_like}
use Rattle.access.specs.declared.Clauses.{Clauses}
use Rattle.access.specs.Authorization.{clauses_of, all_hold}

abbrev pub Rule : Type 0
Rule = Policy → Event → Context → Context → Bool

-- ---- the formulas with the rule w
-- the clauses, with b for the role rule's
abbrev pub ruled : Clauses → Bool → Clauses
ruled k b = record { alpha = k.alpha; rho1 = k.rho1; rho2 = k.rho2; mu1 = k.mu1; mu2 = k.mu2; chi = k.chi; rule = b }

unfoldable pub authorized_under : Rule → Policy → Event → Context → Context → Bool
authorized_under w p e x y = all_hold (ruled (clauses_of p e x y) (w p e x y))

unfoldable pub flow_under : Rule → Policy → Event → Context → Context → Bool
flow_under w p e x y = (write_like p e && authorized_under w p e x y) || (read_like p e && authorized_under w p e y x)

-- ---- "the source's formula": "if c = process ∧ p = transition then α_ρ(r1, r2)" (003, section 2.3); "and for process transition kind 7 has (r1,r2)
-- too" (paper 01). The rule until request f
abbrev pub source_rule : Rule
source_rule p e x y = not (is_transition e) || role_change p x.role y.role

-- ---- misreadings of "a process transition with r1 = r2 needs no kind 7 record; with different roles it does, as before"
-- equal types in the place of equal roles, and equal users
abbrev pub equal_types : Rule
equal_types p e x y = not (is_transition e) || (eqb x.ty y.ty || role_change p x.role y.role)

abbrev pub equal_users : Rule
equal_users p e x y = not (is_transition e) || (eqb x.user y.user || role_change p x.role y.role)

-- no transition needs a record
abbrev pub never_asked : Rule
never_asked p e x y = true

-- with different roles no record helps
abbrev pub equal_alone : Rule
equal_alone p e x y = not (is_transition e) || eqb x.role y.role

-- every event is asked
abbrev pub every_event : Rule
every_event p e x y = eqb x.role y.role || role_change p x.role y.role

-- role 1 alone needs none
abbrev pub role_one_alone : Rule
role_one_alone p e x y = not (is_transition e) || ((eqb x.role 1 && eqb y.role 1) || role_change p x.role y.role)

-- a record serves both ways
abbrev pub either_way : Rule
either_way p e x y = not (is_transition e) || (eqb x.role y.role || (role_change p x.role y.role || role_change p y.role x.role))

-- the roles the other way round, as one asks who takes a read-like transition's flow for what acts
abbrev pub turned : Rule
turned p e x y = not (is_transition e) || (eqb x.role y.role || role_change p y.role x.role)
