-- The links that a search leaves: which event leads from a node to the next is found again.
use Rattle.std.specs.Prelude.{ℕ, ◌<◌, List}
use Rattle.search_steps.specs.Inner.Steps.{Offering}
use Rattle.search_graph.specs.declared.task.Task.{Task}
use Rattle.search_graph.specs.Inner.Graph.{Graph}
use Rattle.search_graph.specs.Inner.Tasks.{type_of}
use Rattle.plan.specs.Inner.Plan.{ruled}

-- r is the least number below n of which P holds
pub record LeastBelow (P : ℕ → Type 0) (n r : ℕ) : Type 0 where
  pub within : r < n
  pub holds : P r
  pub before : (j : ℕ) → j < r → P j → ⊥

-- P holds of some number below n
pub record SomeBelow (P : ℕ → Type 0) (n : ℕ) : Type 0 where
  pub which : ℕ
  pub within : which < n
  pub holds : P which

-- some event leads from the node u to the node w, which is no end
pub record LinkedNodes (G : Graph) (u w : ℕ) : Type 0 where
  pub from : u < G.k
  pub to : w < G.k
  pub event : SomeBelow (λ e. G.Edge u e w) G.e
  pub open_end : G.End w → ⊥

-- the entry of a plan offers the event from the type of u's context to that of w's
abbrev pub OfferedBetween : List ℕ → List ℕ → Task → ℕ → ℕ → ℕ → ℕ → Type 0
OfferedBetween s plan t u e entry w = Offering (ruled s plan) plan (type_of t u) e (type_of t w) entry
