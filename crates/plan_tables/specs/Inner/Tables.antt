-- What each table of a policy means, by the relations alone. l is the table, and bit q of its entry t is `bit (get_or l t 0) q`.
use Rattle.std.specs.Prelude.{ℕ, ◌<◌, ◌≡◌, not, ◌&&◌, ◌||◌, List, eqb, get_or}
use Rattle.base.specs.Bits.{bit}
use Rattle.policy_image.specs.Policy.{Policy}
use Rattle.policy_image.specs.OfKind.{some}
use Rattle.context.specs.Codes.{event_at}
use Rattle.relations.specs.Relations.{Γ, flows_as, ρ, μ, role_change}
use Rattle.constraints.specs.Constraints.{constrains}

-- how many entries a table by types has, one by roles and one by users: one more than the largest number
abbrev pub type_entries : ℕ
type_entries = 256

abbrev pub role_entries : ℕ
role_entries = 16

abbrev pub user_entries : ℕ
user_entries = 16

-- entry c has the permissions of class c
pub record GammaMasks (p : Policy) (l : List ℕ) : Type 0 where
  pub at : (c q : ℕ) → bit (get_or l c 0) q ≡ Γ p (event_at c q)

-- entry c has the permissions of class c that flow the way: 1 write-like, 2 read-like
pub record FlowMasks (p : Policy) (way : ℕ) (l : List ℕ) : Type 0 where
  pub at : (c q : ℕ) → bit (get_or l c 0) q ≡ flows_as p way (event_at c q)

-- entry c has the permissions of class c on which there is a constraint
pub record ConstraintMasks (p : Policy) (l : List ℕ) : Type 0 where
  pub at : (c q : ℕ) → bit (get_or l c 0) q ≡ some p 8 (λ r. constrains r (event_at c q))

-- entry t has role 1 alone where bit 0 of entry t of d is not set, and else none
pub record ObjectRoles (d l : List ℕ) : Type 0 where
  pub at : (t role : ℕ) → t < type_entries → bit (get_or l t 0) role ≡ (eqb role 1 && not (bit (get_or d t 0) 0))

-- entry t has the roles that may hold type t
pub record RoleTable (p : Policy) (l : List ℕ) : Type 0 where
  pub at : (t role : ℕ) → t < type_entries → bit (get_or l t 0) role ≡ ρ p role t

-- entry u has the roles that user u may hold
pub record UserTable (p : Policy) (l : List ℕ) : Type 0 where
  pub at : (u role : ℕ) → u < user_entries → bit (get_or l u 0) role ≡ μ p u role

-- entry r1 has role r1 alone
pub record OwnRoles (l : List ℕ) : Type 0 where
  pub at : (r1 r2 : ℕ) → r1 < role_entries → bit (get_or l r1 0) r2 ≡ eqb r1 r2

-- entry r1 has role r1 and the roles to which it may change
pub record RoleChanges (p : Policy) (l : List ℕ) : Type 0 where
  pub at : (r1 r2 : ℕ) → r1 < role_entries → bit (get_or l r1 0) r2 ≡ (eqb r1 r2 || role_change p r1 r2)
