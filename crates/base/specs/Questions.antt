-- "Questions in order, with the number for 'no'" (paper 01): a list of questions, and what it is to pass them or to be
-- refused by them. Every refusal of every call is stated through this file.
use Rattle.std.specs.Prelude.{ℕ, ◌≡◌, List, [], ◌∷◌, ◌⊎◌}

-- a question: the number that a "no" gives, and what it asks
pub record Question : Type 1 where
  pub number : ℕ
  pub asks : Type 0

abbrev pub ask : ℕ → Type 0 → Question
ask n q = record { number = n; asks = q }

-- every answer is yes
abbrev pub AllYes : List Question → Type 0
AllYes [] = Unit
AllYes (q ∷ qs) = q.asks × AllYes qs

-- n is the number of the first question whose answer is no: the answers before it are yes
abbrev pub RefusedWith : List Question → ℕ → Type 0
RefusedWith [] n = ⊥
RefusedWith (q ∷ qs) n = ((q.asks → ⊥) × (n ≡ q.number)) ⊎ (q.asks × RefusedWith qs n)
