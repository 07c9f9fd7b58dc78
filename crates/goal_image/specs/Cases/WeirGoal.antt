-- The weir policy's counts and its goal G (paper 01, "The weir policy").
use Rattle.std.specs.Prelude.{ℕ, List, [], ◌∷◌}
use Rattle.policy_image.specs.declared.counts.Counts.{Counts}
use Rattle.goal_image.specs.Cases.Written.{context, event, chains, goal}

-- "T 4, R 2, U 1, C 2"
abbrev pub weir_counts : Counts
weir_counts = record { types = 4; roles = 2; users = 1; classes = 2; records = 11 }

-- "Goal G: σ0 type 1, σ1 type 2, σ2 type 4; leg 0 one step, read; leg 1 repeated, read or write", in class 2
abbrev pub goal_g : List ℕ
goal_g =
    goal 2 2 (chains (1 ∷ 2 ∷ 3 ∷ []) (4 ∷ 5 ∷ []) 0 0)
    (context 0 1 0 0 ∷ context 0 2 0 0 ∷ context 0 4 0 0 ∷ event 0 2 1 ∷ event 0 2 3 ∷ [])
