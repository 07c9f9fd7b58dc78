-- Goals put to W5's policy, on which one clause of the goal question's promise alone rejects a wrong result (proofs/Clauses.antt). W5's
-- policy has four steps: 1 to 2 and 1 to 4 by read, 2 to 3 by write, 3 to 4 by read.
use Rattle.std.specs.Prelude.{ℕ, List, [], ◌∷◌}
use Rattle.goal_image.specs.Cases.Written.{context, event, chains, goal}

-- σ0 type 1, σ1 empty, σ2 type 4: both ways from 1 to 4 break order, the one of 1 step and the one of 3
abbrev pub no_middle : List ℕ
no_middle =
    goal 2 2 (chains (1 ∷ 0 ∷ 2 ∷ []) (3 ∷ 4 ∷ []) 0 0)
    (context 0 1 0 0 ∷ context 0 4 0 0 ∷ event 0 2 1 ∷ event 0 2 3 ∷ [])

-- one leg from type 1 to type 4 by no event: both ways break events
abbrev pub no_events : List ℕ
no_events = goal 1 1 (chains (1 ∷ 2 ∷ []) [] 0 0) (context 0 1 0 0 ∷ context 0 4 0 0 ∷ [])

-- σ0 types 1 and 3, σ1 type 3, σ2 type 4: the step from 1 to 4 breaks order, that from 3 to 4 breaks events alone
abbrev pub two_starts : List ℕ
two_starts =
    goal 2 2 (chains (1 ∷ 3 ∷ 4 ∷ []) (5 ∷ 6 ∷ []) 0 0)
    (context 2 1 0 0 ∷ context 0 3 0 0 ∷ context 0 3 0 0 ∷ context 0 4 0 0 ∷ event 0 2 1 ∷ event 0 2 3 ∷ [])

-- one leg by read from types 1 and 2 to types 3 and 4: the step from 2 to 3, by write, breaks events, that from 1 to 4 follows them
abbrev pub either_end : List ℕ
either_end =
    goal 1 0 (chains (1 ∷ 3 ∷ []) (5 ∷ []) 0 0)
    (context 2 1 0 0 ∷ context 0 2 0 0 ∷ context 4 3 0 0 ∷ context 0 4 0 0 ∷ event 0 2 1 ∷ [])
