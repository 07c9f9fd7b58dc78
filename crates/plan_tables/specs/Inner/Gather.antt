-- What the pass over the records of a kind gathers in a table. These definitions serve the contracts of the leaves; what a
-- table means is said without them (Tables.antt).
use Rattle.std.specs.Prelude.{ℕ, ◌^◌, ◌≤◌, ◌<◌, ◌≡◌, Bool, cond, ◌&&◌, ◌||◌, List, eqb, get_or}
use Rattle.base.specs.Bits.{bit}
use Rattle.policy_image.specs.declared.kinds.Kind.{Kind}
use Rattle.policy_image.specs.declared.kinds.Kind.TheVariants.{Domain, Permissions, Flow, Allow, RoleType, UserRole, RoleChange, Constraint, Node}
use Rattle.policy_image.specs.declared.records.Record.{Record}
use Rattle.policy_image.specs.Inner.Kinds.{kind_number}
use Rattle.policy_image.specs.Policy.{Policy}
use Rattle.policy_image.specs.OfKind.{some}

-- the entry to which a record of the kind adds: the type b of a role's type, for the others its class, type, user or role a
abbrev pub entry_of : Kind → Record → ℕ
entry_of RoleType r = r.b
entry_of _ r = r.a

-- the bits that a record of the kind adds to its entry
abbrev pub adds_of : ℕ → Kind → Record → ℕ
-- none, since its table is made without this pass (policy_sources)
adds_of way Domain r = 0
-- permissions of the class, and those that flow the way
adds_of way Permissions r = r.mask
adds_of way Flow r = cond (eqb r.b way || eqb r.b 3) r.mask 0
-- none, since an allow record has two types
adds_of way Allow r = 0
-- the role that may hold the type, the role that the user may hold, the role to change to
adds_of way RoleType r = 2 ^ r.a
adds_of way UserRole r = 2 ^ r.b
adds_of way RoleChange r = 2 ^ r.b
-- permissions that the constraint is on
adds_of way Constraint r = r.mask
adds_of way Node r = 0

-- the role that a record of the kind names fits in 32 bits
abbrev pub Shifts : Kind → Record → Type 0
Shifts RoleType r = r.a < 32
Shifts UserRole r = r.b < 32
Shifts RoleChange r = r.b < 32
Shifts _ r = Unit {0}

-- every record of the kind has its entry in a table of n entries
pub record Room (p : Policy) (k : Kind) (n : ℕ) : Type 0 where
  pub at : (i : ℕ) → 1 ≤ i → i ≤ p.size → (p.rec i).kind ≡ kind_number k → entry_of k (p.rec i) < n

-- whether some record of the kind adds bit q to entry t
abbrev pub added : Policy → Kind → ℕ → ℕ → ℕ → Bool
added p k way t q = some p (kind_number k) (λ r. eqb (entry_of k r) t && bit (adds_of way k r) q)

-- the table l' has the bits of the table l and those that the records of the kind add
pub record Gathered (p : Policy) (k : Kind) (way : ℕ) (l l' : List ℕ) : Type 0 where
  pub at : (t q : ℕ) → bit (get_or l' t 0) q ≡ (added p k way t q || bit (get_or l t 0) q)
