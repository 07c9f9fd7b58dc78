-- The numbers that an image has for the kinds of records (paper 01, "The policy image").
use Rattle.std.specs.Prelude.{ℕ}
use Rattle.policy_image.specs.declared.kinds.Kind.{Kind}
use Rattle.policy_image.specs.declared.kinds.Kind.TheVariants.{Domain, Permissions, Flow, Allow, RoleType, UserRole, RoleChange, Constraint, Node}

abbrev pub kind_number : Kind → ℕ
kind_number Domain = 1
kind_number Permissions = 2
kind_number Flow = 3
kind_number Allow = 4
kind_number RoleType = 5
kind_number UserRole = 6
kind_number RoleChange = 7
kind_number Constraint = 8
kind_number Node = 9
