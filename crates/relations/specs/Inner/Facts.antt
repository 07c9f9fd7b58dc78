-- What the loops over the records of a kind look for. These definitions serve the contracts of the leaves; the relations are
-- stated without them.
use Rattle.std.specs.Prelude.{ℕ, ◌≡◌, Bool, false, ◌&&◌, ◌||◌, eqb}
use Rattle.base.specs.Bits.{bit}
use Rattle.policy_image.specs.declared.kinds.Kind.{Kind}
use Rattle.policy_image.specs.declared.kinds.Kind.TheVariants.{Domain, Permissions, Flow, Allow, RoleType, UserRole, RoleChange, Constraint, Node}
use Rattle.policy_image.specs.declared.records.Record.{Record}
use Rattle.policy_image.specs.Inner.Kinds.{kind_number}
use Rattle.policy_image.specs.Policy.{Policy}
use Rattle.policy_image.specs.OfKind.{some}
use Rattle.relations.specs.declared.facts.Fact.{Fact}
use Rattle.relations.specs.Relations.{target_of, allowed}

-- whether a record of the kind states the fact f, its mask aside
abbrev pub stated_as : Fact → Kind → Record → Bool
stated_as f Domain r = eqb r.a f.a
stated_as f Permissions r = eqb r.a f.a
stated_as f Flow r = eqb r.a f.a && (eqb r.b f.b || eqb r.b 3)
stated_as f Allow r = eqb r.a f.a && (eqb (target_of r) f.b && eqb r.c f.c)
stated_as f RoleType r = eqb r.a f.a && eqb r.b f.b
stated_as f UserRole r = eqb r.a f.a && eqb r.b f.b
stated_as f RoleChange r = eqb r.a f.a && eqb r.b f.b
stated_as f Constraint r = false
stated_as f Node r = false

abbrev pub states : Fact → Record → Bool
states f = stated_as f f.kind

-- m is the union of the masks of the records that state the fact
pub record United (p : Policy) (f : Fact) (m : ℕ) : Type 0 where
  pub at : (q : ℕ) → bit m q ≡ some p (kind_number f.kind) (λ r. states f r && bit r.mask q)

-- m holds the permissions of class c that allow records give t1 on t2
pub record AllowMask (p : Policy) (t1 t2 c m : ℕ) : Type 0 where
  pub at : (q : ℕ) → bit m q ≡ allowed p t1 t2 (record { class = c; perm = q })
