-- Policies of our own beside the weir policy, for least steps: each is near to one that answers otherwise.
use Rattle.std.specs.Prelude.{ℕ, List, [], ◌∷◌}
use Rattle.policy_image.specs.Cases.Written.{domain, permissions, flow, allow, role_type, user_role, constraint, node, image, chain_of}

-- two users: type 1 is a file, which 2 may read and write; role 2 holds 2, and user 1 holds role 2; user 2 holds role 1 alone. What is written
-- may be read again, so that paths may be of any length
abbrev pub two_users : List ℕ
two_users =
    image 2 2 2 1 (1 ∷ 2 ∷ 3 ∷ 5 ∷ 6 ∷ 7 ∷ 0 ∷ 0 ∷ 0 ∷ [])
    (domain 0 2
    ∷ permissions 0 1 6
    ∷ flow 4 1 2 2
    ∷ flow 0 1 1 4
    ∷ allow 0 2 1 1 6
    ∷ role_type 0 2 2
    ∷ user_role 0 1 2
    ∷ [])

-- W5's policy with a constraint on read, t1 = 2 or t2 = 3: 4 may no longer read 1
abbrev pub weir_constrained : List ℕ
weir_constrained =
    image 4 2 1 2 (1 ∷ 3 ∷ 4 ∷ 6 ∷ 10 ∷ 12 ∷ 0 ∷ 13 ∷ 14 ∷ [])
    (domain 2 2
    ∷ domain 0 4
    ∷ permissions 0 2 3
    ∷ flow 5 2 2 1
    ∷ flow 0 2 1 2
    ∷ allow 7 2 1 2 1
    ∷ allow 8 2 3 2 2
    ∷ allow 9 4 3 2 1
    ∷ allow 0 4 1 2 1
    ∷ role_type 11 2 2
    ∷ role_type 0 2 4
    ∷ user_role 0 1 2
    ∷ constraint 0 2 1 16
    ∷ node 15 7 2 0 0
    ∷ node 16 8 3 0 0
    ∷ node 0 3 0 14 15
    ∷ [])

-- the weir policy with a constraint on write, not the same user: with one user nobody may write any more, though in role 1, which every user
-- holds, a file of a second user would be written
abbrev pub weir_apart : List ℕ
weir_apart =
    image 4 2 1 2 (1 ∷ 3 ∷ 4 ∷ 6 ∷ 9 ∷ 11 ∷ 0 ∷ 12 ∷ 13 ∷ [])
    (domain 2 2
    ∷ domain 0 4
    ∷ permissions 0 2 3
    ∷ flow 5 2 2 1
    ∷ flow 0 2 1 2
    ∷ allow 7 2 1 2 1
    ∷ allow 8 2 3 2 2
    ∷ allow 0 4 3 2 1
    ∷ role_type 10 2 2
    ∷ role_type 0 2 4
    ∷ user_role 0 1 2
    ∷ constraint 0 2 2 14
    ∷ node 14 6 0 0 0
    ∷ node 0 1 0 13 0
    ∷ [])

-- a constraint with no root: question 6 refuses it
abbrev pub no_root : List ℕ
no_root = image 1 1 1 1 (chain_of 8) (constraint 0 1 1 0 ∷ [])
