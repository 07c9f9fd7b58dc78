-- The policies and the goals of "The weir policy, to be proved case by case" (paper 01), beside the weir policy and G.
use Rattle.std.specs.Prelude.{ℕ, List, [], ◌∷◌}
use Rattle.policy_image.specs.Cases.Written.{domain, permissions, flow, allow, role_type, user_role, image, no_chain}
use Rattle.goal_image.specs.Cases.Written.{context, event, chains, goal}

-- W5: "policy with 4 on 1 read added"
abbrev pub weir_allow41 : List ℕ
weir_allow41 =
    image 4 2 1 2 (1 ∷ 3 ∷ 4 ∷ 6 ∷ 10 ∷ 12 ∷ 0 ∷ 0 ∷ 0 ∷ [])
    (domain 2 2
    ∷ domain 0 4
    ∷ permissions 0 2 3
    ∷ flow 5 2 2 1
    ∷ flow 0 2 1 2
    ∷ allow 7 2 1 2 1
    ∷ allow 8 2 3 2 2
    ∷ allow 9 4 3 2 1
    ∷ allow 0 4 1 2 1
    ∷ role_type 11 2 2
    ∷ role_type 0 2 4
    ∷ user_role 0 1 2
    ∷ [])

-- W10: "24 bytes, N 0, counts 1, heads 0"
abbrev pub empty : List ℕ
empty = image 1 1 1 1 no_chain []

-- W3, W4: "as W2 with σe type 3", "as W2 with σe type 4"
abbrev pub except_type : ℕ → List ℕ
except_type t =
    goal 2 2 (chains (1 ∷ 2 ∷ 3 ∷ []) (4 ∷ 5 ∷ []) 6 0)
    (context 0 1 0 0 ∷ context 0 2 0 0 ∷ context 0 4 0 0 ∷ event 0 2 1 ∷ event 0 2 2 ∷ context 0 t 0 0 ∷ [])

-- W6: "σ2 type 1 in G"
abbrev pub end_type_one : List ℕ
end_type_one =
    goal 2 2 (chains (1 ∷ 2 ∷ 3 ∷ []) (4 ∷ 5 ∷ []) 0 0)
    (context 0 1 0 0 ∷ context 0 2 0 0 ∷ context 0 1 0 0 ∷ event 0 2 1 ∷ event 0 2 3 ∷ [])

-- W7: "one leg, σ0 and σ1 type 1"
abbrev pub one_leg : List ℕ
one_leg = goal 1 0 (chains (1 ∷ 2 ∷ []) [] 0 0) (context 0 1 0 0 ∷ context 0 1 0 0 ∷ [])

-- W8: "σ0 empty", in G
abbrev pub no_start : List ℕ
no_start =
    goal 2 2 (chains (0 ∷ 1 ∷ 2 ∷ []) (3 ∷ 4 ∷ []) 0 0)
    (context 0 2 0 0 ∷ context 0 4 0 0 ∷ event 0 2 1 ∷ event 0 2 3 ∷ [])
