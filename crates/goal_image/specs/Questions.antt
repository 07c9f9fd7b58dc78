-- Questions 7 to 10 of a goal put to a policy with the counts n (paper 01).
use Rattle.std.specs.Prelude.{ℕ, ◌≤◌, ◌<◌, true, false, List, [], ◌∷◌, ◌≡◌}
use Rattle.base.specs.Bits.{bit}
use Rattle.base.specs.Chain.{Rises, OnChain}
use Rattle.base.specs.Questions.{Question, ask}
use Rattle.base.specs.Ranges.{Within}
use Rattle.policy_image.specs.declared.counts.Counts.{Counts}
use Rattle.goal_image.specs.declared.records.ContextRecord.{ContextRecord}
use Rattle.goal_image.specs.declared.records.EventRecord.{EventRecord}
use Rattle.goal_image.specs.Layout.{GoalExact}
use Rattle.goal_image.specs.Goal.{Goal, goal_of, goal_links, σChain, γChain, is_context_chain, is_event_chain}

-- Question 8: "Is n 1 to 6, with flag bits from n up and heads σ(n+1).., γn.. 0?" The spare heads are σ(n+1) to σ6 and γn to
-- γ5; σe and γe stay free
pub record LegsInRange (g : Goal) : Type 0 where
  pub legs : Within 1 6 g.legs
  pub flags : (i : ℕ) → g.legs ≤ i → bit g.flags i ≡ false
  pub contexts : (i : ℕ) → g.legs < i → i ≤ 6 → g.head (σChain i) ≡ 0
  pub events : (i : ℕ) → g.legs ≤ i → i ≤ 5 → g.head (γChain i) ≡ 0

-- Question 9: "Are links in range and rising, each record on exactly one chain?" Links are heads and nexts
pub record OneChainEach (g : Goal) : Type 0 where
  pub heads : (h : ℕ) → h < 15 → g.head h ≤ g.size
  pub nexts : (i : ℕ) → 1 ≤ i → i ≤ g.size → Rises (goal_links g) i
  pub on : (i : ℕ) → 1 ≤ i → i ≤ g.size → (h : ℕ) × (h < 15) × OnChain (goal_links g) h i
  pub once : (h k i : ℕ) → h < 15 → k < 15 → OnChain (goal_links g) h i → OnChain (goal_links g) k i → h ≡ k

-- Question 10: "Are fields at most their counts, the spare bytes 0?"
pub record ContextFits (n : Counts) (r : ContextRecord) : Type 0 where
  pub ty : r.ty ≤ n.types
  pub role : r.role ≤ n.roles
  pub user : r.user ≤ n.users
  pub spare : r.spare ≡ 0

pub record EventFits (n : Counts) (r : EventRecord) : Type 0 where
  pub class : r.class ≤ n.classes
  pub spare : r.spare ≡ 0

pub record FieldsFit (n : Counts) (g : Goal) : Type 0 where
  pub contexts : (h i : ℕ) → is_context_chain h ≡ true → OnChain (goal_links g) h i → ContextFits n (g.context i)
  pub events : (h i : ℕ) → is_event_chain h ≡ true → OnChain (goal_links g) h i → EventFits n (g.event i)

-- "Goal, next"
abbrev pub goal_questions : Counts → List ℕ → List Question
goal_questions n g =
    ask 7 (GoalExact g) ∷ ask 8 (LegsInRange (goal_of g)) ∷ ask 9 (OneChainEach (goal_of g)) ∷ ask 10 (FieldsFit n (goal_of g)) ∷ []
