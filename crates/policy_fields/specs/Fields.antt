-- Question 5 of a policy (paper 01): "Are types, roles, users, classes from 1 to their counts (allow's b from 0), kind 3's b
-- and the operators in range, other fields 0?" Each kind's line of "The policy image" is a line of a table of ranges.
use Rattle.std.specs.Prelude.{ℕ, ◌≤◌, List, [], ◌∷◌, get_or}
use Rattle.base.specs.Ranges.{Within}
use Rattle.policy_image.specs.declared.counts.Counts.{Counts}
use Rattle.policy_image.specs.declared.records.Record.{Record}
use Rattle.policy_image.specs.Policy.{Policy}
use Rattle.policy_fields.specs.declared.Range.{Range}
use Rattle.policy_fields.specs.declared.Limits.{Limits}

-- the numbers from lo to hi
abbrev pub range : ℕ → ℕ → Range
range lo hi = record { low = lo; high = hi }

-- from 1 to a count
abbrev pub up_to : ℕ → Range
up_to n = range 1 n

-- "Fields not named below are 0"
abbrev pub unused : Range
unused = range 0 0

-- whatever the bytes of the field hold: one byte, or the four of a mask
abbrev pub any_byte : Range
any_byte = range 0 255

abbrev pub any_mask : Range
any_mask = range 0 4294967295

-- left alone, with right 0: the low half of the mask's bytes
abbrev pub left_only : Range
left_only = range 0 65535

-- the ranges of a, b, c, d, e and the mask
abbrev pub limits : Range → Range → Range → Range → Range → Range → Limits
limits a b c d e m = record { a = a; b = b; c = c; d = d; e = e; mask = m }

-- ranges that no record meets
abbrev pub none : Limits
none = limits (range 1 0) unused unused unused unused unused

-- "9: expression node. a is the operator": by the operator, 0 being none
abbrev pub node_limits : Counts → List Limits
node_limits n =
    none
    -- 1 not, 2 and, 3 or
    ∷ limits (up_to 12) unused unused unused unused left_only
    ∷ limits (up_to 12) unused unused unused unused any_mask
    ∷ limits (up_to 12) unused unused unused unused any_mask
    -- 4 same type, 5 same role, 6 same user
    ∷ limits (up_to 12) unused unused unused unused unused
    ∷ limits (up_to 12) unused unused unused unused unused
    ∷ limits (up_to 12) unused unused unused unused unused
    -- 7 t1 = b, 8 t2 = b, 9 r1 = b, 10 r2 = b, 11 u1 = b, 12 u2 = b
    ∷ limits (up_to 12) (up_to n.types) unused unused unused unused
    ∷ limits (up_to 12) (up_to n.types) unused unused unused unused
    ∷ limits (up_to 12) (up_to n.roles) unused unused unused unused
    ∷ limits (up_to 12) (up_to n.roles) unused unused unused unused
    ∷ limits (up_to 12) (up_to n.users) unused unused unused unused
    ∷ limits (up_to 12) (up_to n.users) unused unused unused unused
    ∷ []

-- by the kind, 0 being none; op is field a
abbrev pub kind_limits : Counts → ℕ → List Limits
kind_limits n op =
    none
    -- 1: type a is a domain
    ∷ limits (up_to n.types) unused unused unused unused unused
    -- 2: class a has the permissions in mask
    ∷ limits (up_to n.classes) unused unused unused unused any_mask
    -- 3: class a, permissions in mask: b = 1 write-like, 2 read-like, 3 both
    ∷ limits (up_to n.classes) (up_to 3) unused unused unused any_mask
    -- 4: source type a may act on target type b in class c with mask; b = 0 means the source type itself
    ∷ limits (up_to n.types) (range 0 n.types) (up_to n.classes) unused unused any_mask
    -- 5: role a may hold type b
    ∷ limits (up_to n.roles) (up_to n.types) unused unused unused unused
    -- 6: user a may hold role b
    ∷ limits (up_to n.users) (up_to n.roles) unused unused unused unused
    -- 7: role a may change to role b
    ∷ limits (up_to n.roles) (up_to n.roles) unused unused unused unused
    -- 8: constraint on class a and mask; d (low) and e together are the number of its root node
    ∷ limits (up_to n.classes) unused unused any_byte any_byte any_mask
    -- 9: expression node
    ∷ get_or (node_limits n) op none
    ∷ []

abbrev pub limits_of : Counts → ℕ → ℕ → Limits
limits_of n kind op = get_or (kind_limits n op) kind none

-- every field of r lies within its range
pub record WithinLimits (l : Limits) (r : Record) : Type 0 where
  pub a : Within l.a.low l.a.high r.a
  pub b : Within l.b.low l.b.high r.b
  pub c : Within l.c.low l.c.high r.c
  pub d : Within l.d.low l.d.high r.d
  pub e : Within l.e.low l.e.high r.e
  pub mask : Within l.mask.low l.mask.high r.mask

-- the ranges that the kind and the operator of r fix, for a policy with the counts n
abbrev pub Fits : Counts → Record → Type 0
Fits n r = WithinLimits (limits_of n r.kind r.a) r

-- Question 5
pub record FieldsInRange (p : Policy) : Type 0 where
  pub each : (i : ℕ) → 1 ≤ i → i ≤ p.size → Fits p.counts (p.rec i)
