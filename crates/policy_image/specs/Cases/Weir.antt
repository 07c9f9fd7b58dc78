-- "The weir policy, to be proved case by case" (paper 01).
use Rattle.std.specs.Prelude.{ℕ, List, [], ◌∷◌}
use Rattle.policy_image.specs.Cases.Written.{domain, permissions, flow, allow, role_type, user_role, image}

-- "T 4, R 2, U 1, C 2. Domains 2, 4. Class 2 mask 3; bit 0 read (read-like), bit 1 write (write-like). Role 2 holds types 2
-- and 4, user 1 holds role 2. Allows in class 2: 2 on 1 read, 2 on 3 write, 4 on 3 read."
abbrev pub weir : List ℕ
weir =
    image 4 2 1 2 (1 ∷ 3 ∷ 4 ∷ 6 ∷ 9 ∷ 11 ∷ 0 ∷ 0 ∷ 0 ∷ [])
    (domain 2 2
    ∷ domain 0 4
    ∷ permissions 0 2 3
    ∷ flow 5 2 2 1
    ∷ flow 0 2 1 2
    ∷ allow 7 2 1 2 1
    ∷ allow 8 2 3 2 2
    ∷ allow 0 4 3 2 1
    ∷ role_type 10 2 2
    ∷ role_type 0 2 4
    ∷ user_role 0 1 2
    ∷ [])

-- W9: "an added allow 3 on 1 read", 3 being no domain
abbrev pub weir_allow31 : List ℕ
weir_allow31 =
    image 4 2 1 2 (1 ∷ 3 ∷ 4 ∷ 6 ∷ 10 ∷ 12 ∷ 0 ∷ 0 ∷ 0 ∷ [])
    (domain 2 2
    ∷ domain 0 4
    ∷ permissions 0 2 3
    ∷ flow 5 2 2 1
    ∷ flow 0 2 1 2
    ∷ allow 7 2 1 2 1
    ∷ allow 8 2 3 2 2
    ∷ allow 9 4 3 2 1
    ∷ allow 0 3 1 2 1
    ∷ role_type 11 2 2
    ∷ role_type 0 2 4
    ∷ user_role 0 1 2
    ∷ [])

-- near W9: the same with 3 a domain, which is declared after its allow record
abbrev pub weir_domain3 : List ℕ
weir_domain3 =
    image 4 2 1 2 (1 ∷ 3 ∷ 4 ∷ 6 ∷ 10 ∷ 12 ∷ 0 ∷ 0 ∷ 0 ∷ [])
    (domain 2 2
    ∷ domain 13 4
    ∷ permissions 0 2 3
    ∷ flow 5 2 2 1
    ∷ flow 0 2 1 2
    ∷ allow 7 2 1 2 1
    ∷ allow 8 2 3 2 2
    ∷ allow 9 4 3 2 1
    ∷ allow 0 3 1 2 1
    ∷ role_type 11 2 2
    ∷ role_type 0 2 4
    ∷ user_role 0 1 2
    ∷ domain 0 3
    ∷ [])
