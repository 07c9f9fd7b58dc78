-- Goal images written out, for theorems about named goals: every number below 256, so that each fits its low byte.
use Rattle.std.specs.Prelude.{ℕ, zero, suc, List, [], ◌∷◌, ◌++◌, length}
use Rattle.policy_image.specs.Cases.Written.{heads, lines}

-- a record, by its next and its bytes 2 to 7
abbrev pub line : ℕ → ℕ → ℕ → ℕ → ℕ → ℕ → ℕ → List ℕ
line next b2 b3 b4 b5 b6 b7 = next ∷ 0 ∷ b2 ∷ b3 ∷ b4 ∷ b5 ∷ b6 ∷ b7 ∷ []

-- a record of a σ chain, and one of a γ chain; the first argument is its next
abbrev pub context : ℕ → ℕ → ℕ → ℕ → List ℕ
context next ty role user = line next ty role user 0 0 0

abbrev pub event : ℕ → ℕ → ℕ → List ℕ
event next class mask = line next class 0 mask 0 0 0

-- the first k numbers of a list, 0 for those that it lacks
abbrev pub padded : ℕ → List ℕ → List ℕ
padded zero hs = []
padded (suc k) [] = 0 ∷ padded k []
padded (suc k) (h ∷ hs) = h ∷ padded k hs

-- the fifteen heads: those of σ0, σ1, .. and of γ0, γ1, .., the others 0, then σe and γe
abbrev pub chains : List ℕ → List ℕ → ℕ → ℕ → List ℕ
chains contexts events se ge = padded 7 contexts ++ (padded 6 events ++ (se ∷ ge ∷ []))

-- the goal with n legs
abbrev pub goal : ℕ → ℕ → List ℕ → List (List ℕ) → List ℕ
goal n flags hs rs = n ∷ flags ∷ length rs ∷ 0 ∷ (heads hs ++ lines rs)
