-- Policies of our own for the role rule (paper 02, f): in each of them 4 may no longer read 3 as in the weir policy, but 2 may make a transition to 4,
-- which is write-like.
use Rattle.std.specs.Prelude.{ℕ, List, [], ◌∷◌}
use Rattle.policy_image.specs.Cases.Written.{domain, permissions, flow, allow, role_type, user_role, role_change, image}

-- role 2 holds 2 and 4, as in the weir policy; no record of kind 7
abbrev pub weir_same_role : List ℕ
weir_same_role =
    image 4 2 1 2 (1 ∷ 3 ∷ 5 ∷ 8 ∷ 11 ∷ 13 ∷ 0 ∷ 0 ∷ 0 ∷ [])
    (domain 2 2
    ∷ domain 0 4
    ∷ permissions 4 1 1
    ∷ permissions 0 2 3
    ∷ flow 6 1 1 1
    ∷ flow 7 2 2 1
    ∷ flow 0 2 1 2
    ∷ allow 9 2 1 2 1
    ∷ allow 10 2 3 2 2
    ∷ allow 0 2 4 1 1
    ∷ role_type 12 2 2
    ∷ role_type 0 2 4
    ∷ user_role 0 1 2
    ∷ [])

-- role 2 holds 2 and role 1 holds 4; no record of kind 7
abbrev pub weir_other_role : List ℕ
weir_other_role =
    image 4 2 1 2 (1 ∷ 3 ∷ 5 ∷ 8 ∷ 11 ∷ 13 ∷ 0 ∷ 0 ∷ 0 ∷ [])
    (domain 2 2
    ∷ domain 0 4
    ∷ permissions 4 1 1
    ∷ permissions 0 2 3
    ∷ flow 6 1 1 1
    ∷ flow 7 2 2 1
    ∷ flow 0 2 1 2
    ∷ allow 9 2 1 2 1
    ∷ allow 10 2 3 2 2
    ∷ allow 0 2 4 1 1
    ∷ role_type 12 2 2
    ∷ role_type 0 1 4
    ∷ user_role 0 1 2
    ∷ [])

-- the same, and role 2 may change to role 1
abbrev pub weir_changed_role : List ℕ
weir_changed_role =
    image 4 2 1 2 (1 ∷ 3 ∷ 5 ∷ 8 ∷ 11 ∷ 13 ∷ 14 ∷ 0 ∷ 0 ∷ [])
    (domain 2 2
    ∷ domain 0 4
    ∷ permissions 4 1 1
    ∷ permissions 0 2 3
    ∷ flow 6 1 1 1
    ∷ flow 7 2 2 1
    ∷ flow 0 2 1 2
    ∷ allow 9 2 1 2 1
    ∷ allow 10 2 3 2 2
    ∷ allow 0 2 4 1 1
    ∷ role_type 12 2 2
    ∷ role_type 0 1 4
    ∷ user_role 0 1 2
    ∷ role_change 0 2 1
    ∷ [])
