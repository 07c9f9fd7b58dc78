-- Goals of our own put to the weir policy, and a policy of our own with its goals: which contexts and events the images' bytes stand
-- for.
use Rattle.std.specs.Prelude.{ℕ, List, [], ◌∷◌}
use Rattle.policy_image.specs.Cases.Written.{image, role_type, user_role}
use Rattle.goal_image.specs.Cases.Written.{context, event, chains, goal}

-- G with leg 1 by write alone: W2's goal
abbrev pub write_only : List ℕ
write_only =
    goal 2 2 (chains (1 ∷ 2 ∷ 3 ∷ []) (4 ∷ 5 ∷ []) 0 0)
    (context 0 1 0 0 ∷ context 0 2 0 0 ∷ context 0 4 0 0 ∷ event 0 2 1 ∷ event 0 2 2 ∷ [])

-- γ0 by class 0, any class; σ0 by role 1 alone; σ1 by role 2 and user 1
abbrev pub any_class : List ℕ
any_class =
    goal 2 2 (chains (1 ∷ 2 ∷ 3 ∷ []) (4 ∷ 5 ∷ []) 0 0)
    (context 0 1 1 0 ∷ context 0 2 2 1 ∷ context 0 4 0 0 ∷ event 0 0 1 ∷ event 0 0 3 ∷ [])

-- one leg from the contexts of type 1 and role 2 to themselves, and the same of role 1
abbrev pub role_two : List ℕ
role_two = goal 1 0 (chains (1 ∷ 2 ∷ []) [] 0 0) (context 0 1 2 0 ∷ context 0 1 2 0 ∷ [])

abbrev pub role_one : List ℕ
role_one = goal 1 0 (chains (1 ∷ 2 ∷ []) [] 0 0) (context 0 1 1 0 ∷ context 0 1 1 0 ∷ [])

-- a policy of two users, of whom user 1 holds role 2, which holds type 1; nothing flows
abbrev pub users : List ℕ
users = image 1 2 2 1 (0 ∷ 0 ∷ 0 ∷ 0 ∷ 1 ∷ 2 ∷ 0 ∷ 0 ∷ 0 ∷ []) (role_type 0 2 1 ∷ user_role 0 1 2 ∷ [])

-- one leg from the context of type 1, role 2 and user 2 to itself, and the same of user 1
abbrev pub user_two : List ℕ
user_two = goal 1 0 (chains (1 ∷ 2 ∷ []) [] 0 0) (context 0 1 2 2 ∷ context 0 1 2 2 ∷ [])

abbrev pub user_one : List ℕ
user_one = goal 1 0 (chains (1 ∷ 2 ∷ []) [] 0 0) (context 0 1 2 1 ∷ context 0 1 2 1 ∷ [])
