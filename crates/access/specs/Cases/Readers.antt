-- A policy of our own, on which it is told who acts where flow is read-like: types 1 and 2 are domains; permission 0 of class 1 is
-- process transition and permission 1 a read, both read-like; 1 may do both to 2; the read is constrained to t1 = 1, and role 2 may
-- change to role 3.
use Rattle.std.specs.Prelude.{ℕ, List, [], ◌∷◌}
use Rattle.policy_image.specs.Cases.Written.{domain, permissions, flow, allow, role_type, user_role, role_change, constraint, node, image}

abbrev pub readers : List ℕ
readers =
    image 2 3 1 1 (1 ∷ 3 ∷ 4 ∷ 5 ∷ 6 ∷ 8 ∷ 10 ∷ 11 ∷ 12 ∷ [])
    (domain 2 1
    ∷ domain 0 2
    ∷ permissions 0 1 3
    ∷ flow 0 1 2 3
    ∷ allow 0 1 2 1 3
    ∷ role_type 7 2 1
    ∷ role_type 0 3 2
    ∷ user_role 9 1 2
    ∷ user_role 0 1 3
    ∷ role_change 0 2 3
    ∷ constraint 0 1 2 12
    ∷ node 0 7 1 0 0
    ∷ [])
