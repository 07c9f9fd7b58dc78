-- What is known of the nodes that a search starts from.
use Rattle.std.specs.Prelude.{◌≡◌, List, ℕ, ◌+◌, ◌*◌, ◌≤◌, ◌<◌, length}
use Rattle.policy_image.specs.declared.counts.Counts.{Counts}
use Rattle.context.specs.Inner.Places.{context_count}
use Rattle.paths.specs.Model.{Model}
use Rattle.paths.specs.Inner.Monitor.{Start}
use Rattle.search_graph.specs.declared.arrival.Arrival.{Arrival}
use Rattle.search_graph.specs.declared.arrival.Arrival.TheVariants.{Enter, Dropped, Broken}
use Rattle.search_graph.specs.declared.seed.Seeded.{Seeded}
use Rattle.search_graph.specs.declared.seed.Seeded.TheVariants.{Nodes, Start as StartAtPlace}
use Rattle.search_graph.specs.declared.task.Task.{Task}
use Rattle.search_graph.specs.Inner.State.{Inv}
use Rattle.search_graph.specs.Inner.Visits.{Cleared, Visited}
use Rattle.search_graph.specs.Inner.Nodes.{Watch, code_at, BadStart}
use Rattle.search_graph.specs.Inner.Arrivals.{LandsOpen, LandsGood, LandsBad}
use Rattle.search_graph.specs.Inner.Tasks.{states_in, Given, model_by, watch_by, graph_of}

-- both slices have room for every node, and none is visited
pub record Roomy (t : Task) (queue back : List ℕ) : Type 0 where
  pub queue_room : context_count t.counts * states_in t ≤ length queue
  pub back_room : context_count t.counts * states_in t ≤ length back
  pub fresh : Cleared back 0

-- what the context at place y comes to as a start: it lands in the monitor's first state. It is dropped where it is no start, too
module _ (M : Model) (n : Counts) (W : Watch) (states y : ℕ) where
  abbrev pub Begins : Arrival → Type 0
  Begins (Enter v) = Start M (code_at n y) × LandsOpen M n W states y (W.start (code_at n y)) v
  Begins Dropped = Start M (code_at n y) → LandsGood M n W states y (W.start (code_at n y))
  Begins (Broken v) = Start M (code_at n y) × LandsBad M n W states y (W.start (code_at n y)) v

-- .. whatever the policy, and which node it may be
pub record Beginning (plan : List ℕ) (t : Task) (y : ℕ) (r : Arrival) : Type 0 where
  pub by : (s : List ℕ) → Given s plan t → Begins (model_by s plan t) t.counts (watch_by s plan t) (states_in t) y r
  pub low : (v : ℕ) → r ≡ Enter v → y * states_in t ≤ v
  pub high : (v : ℕ) → r ≡ Enter v → v < (y + 1) * states_in t

-- the starts are seeded, and none is a bad end; or the context at place y is one, and so many starts before it are seeded
pub record SownNodes (s plan : List ℕ) (t : Task) (queue back : List ℕ) (tail : ℕ) : Type 0 where
  pub inv : Inv (graph_of s plan t) back queue 0 tail tail 0
  pub none : (x : ℕ) → BadStart (model_by s plan t) (watch_by s plan t) x → ⊥

pub record SownStart (s plan : List ℕ) (t : Task) (queue back : List ℕ) (y tail : ℕ) : Type 0 where
  pub visited : Visited queue back tail
  pub below : y < context_count t.counts
  pub bad : BadStart (model_by s plan t) (watch_by s plan t) (code_at t.counts y)

abbrev pub Sown : List ℕ → List ℕ → Task → List ℕ → List ℕ → Seeded → Type 0
Sown s plan t queue back (Nodes tail) = SownNodes s plan t queue back tail
Sown s plan t queue back (StartAtPlace y tail) = SownStart s plan t queue back y tail

-- .. whatever the policy
abbrev pub AllSown : List ℕ → Task → List ℕ → List ℕ → Seeded → Type 0
AllSown plan t queue back r = (s : List ℕ) → Given s plan t → Sown s plan t queue back r
