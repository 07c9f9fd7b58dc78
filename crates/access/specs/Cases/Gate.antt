-- A small policy of our own, on which each clause of the authorization formula has a yes and a near no.
use Rattle.std.specs.Prelude.{ℕ, List, [], ◌∷◌}
use Rattle.policy_image.specs.Cases.Written.{domain, permissions, flow, allow, role_type, user_role, role_change, constraint, node, image}

abbrev pub gate : List ℕ
gate =
    image 5 3 2 2 (1 ∷ 4 ∷ 6 ∷ 10 ∷ 15 ∷ 19 ∷ 22 ∷ 23 ∷ 25 ∷ [])
    -- types: 1 and 4 are files, 2, 3 and 5 are domains
    (domain 2 2
    ∷ domain 3 3
    ∷ domain 0 5
    -- class 1 is process (transition, signal), class 2 is file (read, write); append, its permission 2, is not in Γ
    ∷ permissions 5 1 3
    ∷ permissions 0 2 3
    -- transition and signal are write-like, read is read-like, write is write-like; append is said to be both
    ∷ flow 7 1 1 3
    ∷ flow 8 2 2 1
    ∷ flow 9 2 1 2
    ∷ flow 0 2 3 4
    -- 2 may signal itself, and read, write and append to 1; 3 may read and write 4; 2 may make a transition to 3; 5 may read 1
    ∷ allow 11 2 0 1 2
    ∷ allow 12 2 1 2 7
    ∷ allow 13 3 4 2 3
    ∷ allow 14 2 3 1 1
    ∷ allow 0 5 1 2 1
    -- role 2 holds 2 and 3, role 3 holds 3, and role 1 holds the domain 5
    ∷ role_type 16 2 2
    ∷ role_type 17 2 3
    ∷ role_type 18 3 3
    ∷ role_type 0 1 5
    -- user 1 holds roles 2 and 3, user 2 holds role 2
    ∷ user_role 20 1 2
    ∷ user_role 21 1 3
    ∷ user_role 0 2 2
    -- role 2 may change to role 3; that it may stay, no record says
    ∷ role_change 0 2 3
    -- two constraints on write: same user, or t1 = 3 and not r2 = 2; and u1 = 1
    ∷ constraint 24 2 2 30
    ∷ constraint 0 2 2 31
    ∷ node 26 7 3 0 0
    ∷ node 27 10 2 0 0
    ∷ node 28 1 0 26 0
    ∷ node 29 2 0 25 27
    ∷ node 30 6 0 0 0
    ∷ node 31 3 0 29 28
    ∷ node 0 11 1 0 0
    ∷ [])
