-- What the functions that read a goal hand on to their callers.
use Rattle.std.specs.Prelude.{ℕ, ◌≤◌, ◌<◌, List, ◌≡◌, true, Option, None, Some}
use Rattle.policy_image.specs.declared.counts.Counts.{Counts}
use Rattle.goal_image.specs.declared.check.Legs.{Legs}
use Rattle.goal_image.specs.Layout.{GoalExact, legs_of, flags_of}
use Rattle.goal_image.specs.Goal.{Goal, goal_of, is_context_chain, is_event_chain}
use Rattle.goal_image.specs.Questions.{ContextFits, EventFits}
use Rattle.goal_image.specs.Inner.Answer.{legs_in}

-- how many chains a goal has, σ0 to σ6, γ0 to γ5, σe, γe: the twin of CHAINS
abbrev pub chain_count : ℕ
chain_count = 15

-- l are the legs of a goal whose length is exact
pub record Opened (g : List ℕ) (l : Legs) : Type 0 where
  pub exact : GoalExact g
  pub same : l ≡ legs_in (goal_of g)
  pub count : l.count ≡ legs_of g
  pub repeated : l.repeated ≡ flags_of g

-- k is the first chain from h on whose cursor stands at record i
pub record IsFirst (cursor : ℕ → ℕ) (h i k : ℕ) : Type 0 where
  pub low : h ≤ k
  pub high : k < chain_count
  pub at : cursor k ≡ i
  pub none : (j : ℕ) → h ≤ j → j < k → cursor j ≡ i → ⊥

-- the first chain from h on whose cursor stands at record i, or none where no such cursor does
abbrev pub First : (ℕ → ℕ) → ℕ → ℕ → Option ℕ → Type 0
First cursor h i None = (j : ℕ) → h ≤ j → j < chain_count → cursor j ≡ i → ⊥
First cursor h i (Some k) = IsFirst cursor h i k

-- record i, read as one of chain h, keeps the rules of question 10
pub record RecordFits (n : Counts) (g : Goal) (h i : ℕ) : Type 0 where
  pub context : is_context_chain h ≡ true → ContextFits n (g.context i)
  pub event : is_event_chain h ≡ true → EventFits n (g.event i)
