-- A policy of our own, on which the role rule is told from each of its misreadings (RoleRules.antt).
use Rattle.std.specs.Prelude.{ℕ, not, List, [], ◌∷◌, ◌≡◌}
use Rattle.policy_image.specs.Policy.{policy_of}
use Rattle.policy_image.specs.Cases.Written.{domain, permissions, flow, allow, role_type, user_role, role_change, constraint, node, image}
use Rattle.context.specs.declared.Context.{Context}
use Rattle.context.specs.declared.Event.{Event}
use Rattle.access.specs.Authorization.{authorized}
use Rattle.access.specs.Cases.RoleRules.{Rule, authorized_under}

abbrev pub roles : List ℕ
roles =
    image 2 4 3 1 (1 ∷ 3 ∷ 4 ∷ 6 ∷ 8 ∷ 14 ∷ 18 ∷ 19 ∷ 20 ∷ [])
    -- types 1 and 2 are domains
    (domain 2 1
    ∷ domain 0 2
    -- class 1 is process: transition, which is read-like, and signal, which is write-like
    ∷ permissions 0 1 3
    ∷ flow 5 1 2 1
    ∷ flow 0 1 1 2
    -- 1 may make a transition to 2 and signal it, and make one to itself
    ∷ allow 7 1 2 1 3
    ∷ allow 0 1 0 1 1
    -- roles 2 and 3 hold both types, role 1 holds type 1 and role 4 type 2
    ∷ role_type 9 2 1
    ∷ role_type 10 2 2
    ∷ role_type 11 3 1
    ∷ role_type 12 3 2
    ∷ role_type 13 1 1
    ∷ role_type 0 4 2
    -- user 1 holds roles 2, 3 and 4, user 2 holds role 3, user 3 holds none but role 1
    ∷ user_role 15 1 2
    ∷ user_role 16 1 3
    ∷ user_role 17 1 4
    ∷ user_role 0 2 3
    -- role 2 may change to role 3, and that is all
    ∷ role_change 0 2 3
    -- a constraint on transition: not u1 = 2
    ∷ constraint 0 1 1 21
    ∷ node 21 11 2 0 0
    ∷ node 0 1 0 20 0
    ∷ [])

-- the rule w says something else of the action e of x on y
abbrev pub Otherwise : Rule → Event → Context → Context → Type 0
Otherwise w e x y = authorized_under w (policy_of roles) e x y ≡ not (authorized (policy_of roles) e x y)
