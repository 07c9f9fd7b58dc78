-- The numbers of the kinds, which are those of their chains.
use Prim.Native.Nat.{ℕ, zero, suc, ◌+◌, ◌<◌}
use mathlib.Core.List.{List, [], ◌∷◌}
use mathlib.Core.Path.{◌≡◌, refl}
use lib.ListN.{get_or}
use native.Mathlib.Omega.{arith}
use Rattle.base.specs.Ranges.{Within}
use Rattle.policy_image.specs.declared.kinds.Kind.{Kind}
use Rattle.policy_image.specs.declared.kinds.Kind.TheVariants.{Domain, Permissions, Flow, Allow, RoleType, UserRole, RoleChange, Constraint, Node}
use Rattle.policy_image.specs.Inner.Kinds.{kind_number}

pub kind_within : (k : Kind) → Within 1 9 (kind_number k)
kind_within Domain = record { low = omega arith; high = omega arith }
kind_within Permissions = record { low = omega arith; high = omega arith }
kind_within Flow = record { low = omega arith; high = omega arith }
kind_within Allow = record { low = omega arith; high = omega arith }
kind_within RoleType = record { low = omega arith; high = omega arith }
kind_within UserRole = record { low = omega arith; high = omega arith }
kind_within RoleChange = record { low = omega arith; high = omega arith }
kind_within Constraint = record { low = omega arith; high = omega arith }
kind_within Node = record { low = omega arith; high = omega arith }

-- all kinds, in the order of their numbers
abbrev pub kinds : List Kind
kinds = Domain ∷ Permissions ∷ Flow ∷ Allow ∷ RoleType ∷ UserRole ∷ RoleChange ∷ Constraint ∷ Node ∷ []

pub kind_at : (i : ℕ) → i < 9 → kind_number (get_or kinds i Domain) ≡ i + 1
kind_at zero h = refl
kind_at (suc zero) h = refl
kind_at (suc (suc zero)) h = refl
kind_at (suc (suc (suc zero))) h = refl
kind_at (suc (suc (suc (suc zero)))) h = refl
kind_at (suc (suc (suc (suc (suc zero))))) h = refl
kind_at (suc (suc (suc (suc (suc (suc zero)))))) h = refl
kind_at (suc (suc (suc (suc (suc (suc (suc zero))))))) h = refl
kind_at (suc (suc (suc (suc (suc (suc (suc (suc zero)))))))) h = refl
kind_at (suc (suc (suc (suc (suc (suc (suc (suc (suc i))))))))) h = absurd (omega arith)
