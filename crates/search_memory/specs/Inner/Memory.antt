-- What a search remembers.
use Rattle.std.specs.Prelude.{◌≡◌, Bool, true, false, List, ◌⊎◌, ℕ, ◌/◌, ◌^◌, ◌<◌, length, get_or}
use Rattle.std.specs.Int.Bits.{bit_and, bit_or}
use Rattle.base.specs.Bits.{bit}
use Rattle.context.specs.declared.Context.{Context}
use Rattle.context.specs.Codes.{event_of}
use Rattle.context.specs.Inner.Places.{pair_count}
use Rattle.goal_model.specs.Images.{meetsρμ}
use Rattle.plan_tables.specs.Inner.Tables.{type_entries}
use Rattle.plan.specs.Inner.Entries.{event_sets_at}
use Rattle.plan.specs.Inner.Plan.{special, ruled}
use Rattle.search_constraints.specs.Inner.Asked.{pair_at}
use Rattle.search_steps.specs.declared.nearest.Asker.{Asker}
use Rattle.search_steps.specs.declared.nearest.Offer.{Offer}
use Rattle.search_steps.specs.Inner.Nearest.{NearestOf, steps_end, state_codes, whole_state}
use Rattle.search_steps.specs.Inner.Steps.{Shut}
use Rattle.search_steps.specs.Inner.Pairs.{pairs_end}
use Rattle.search_graph.specs.declared.monitor.Mode.{Mode}
use Rattle.search_graph.specs.declared.monitor.Mode.TheVariants.{Order, Events, Any}
use Rattle.search_graph.specs.declared.task.Task.{Task}
use Rattle.search_graph.specs.Inner.State.{Clear}
use Rattle.search_graph.specs.Inner.Nodes.{place_of, state_of}
use Rattle.search_graph.specs.Inner.Model.{asks_by}
use Rattle.search_graph.specs.Inner.Tasks.{states_in, graph_of, type_of, Stands}
use Rattle.search_memory.specs.declared.turn.Node.{Node}
use Rattle.search_memory.specs.Inner.Opens.{open_slots, open_entries, open_key, open_at, node_pair}

-- the bits of a state that every event keeps
abbrev pub keeps_of : Mode → ℕ
keeps_of Order = whole_state
keeps_of Events = 0
keeps_of Any = 0

-- what the event e keeps of a state: for order all of it, for events the stages whose γ the event is in, and of the one state of a search for any
-- end nothing. The state after a step depends on that and on the target alone (proofs/KeptLaws.antt)
abbrev pub kept_by : Mode → List ℕ → ℕ → ℕ → ℕ
kept_by m plan state e = bit_and state (bit_or (keeps_of m) (event_sets_at plan e / 2 ^ 7))

-- r is the set of k alone, where yes, or empty
pub record Marks (k : ℕ) (yes : Bool) (r : ℕ) : Type 0 where
  pub only : (i : ℕ) → bit r i ≡ true → (yes ≡ true) × (k ≡ i)

-- the sets of l are within those of l'
pub record Grown (l l' : List ℕ) : Type 0 where
  pub stays : (t k : ℕ) → bit (get_or l t 0) k ≡ true → bit (get_or l' t 0) k ≡ true

-- by type: k is added to the set of the type o, where yes, and nothing else is
pub record Remembered (before after : List ℕ) (o k : ℕ) (yes : Bool) : Type 0 where
  pub size : length after ≡ length before
  pub grown : Grown before after
  pub only : (t i : ℕ) → bit (get_or after t 0) i ≡ true → (bit (get_or before t 0) i ≡ true) ⊎ ((t ≡ o) × (yes ≡ true) × (k ≡ i))

-- what is left meets ρ and μ; and an edge to what is not left, whose event keeps of the state what the slot is of, arrives at no end, and at a
-- node that is visited
pub record Opens (s plan : List ℕ) (t : Task) (back opens : List ℕ) : Type 0 where
  pub size : length opens ≡ open_entries
  pub held : (i o k j : ℕ) → i < open_slots → k < state_codes → j < pairs_end → get_or opens i 0 ≡ open_key o k → open_at opens i j ≡ true
      → (j < pair_count t.counts) × (meetsρμ (ruled s plan) (pair_at t.counts o j) ≡ true)
  pub clear : (i u e w : ℕ) → i < open_slots → u < (graph_of s plan t).k → w < (graph_of s plan t).k → (graph_of s plan t).Edge u e w
      → get_or opens i 0 ≡ open_key (type_of t w) (kept_by t.mode plan (state_of (states_in t) u) e) → open_at opens i (node_pair t w) ≡ false → Clear (graph_of s plan t) back w

-- swept, by type of the target: an edge whose event keeps of the state what is in the set arrives at no end, and at a node that is visited.
-- spent, by type of the source: so does an edge from a state in the set, by an event that is not special. opens, by slot: what is left of a type
pub record Memory (s plan : List ℕ) (t : Task) (back swept spent opens : List ℕ) : Type 0 where
  pub left : Opens s plan t back opens
  pub swept_size : length swept ≡ type_entries
  pub spent_size : length spent ≡ type_entries
  pub swept_clear : (u e w : ℕ) → u < (graph_of s plan t).k → w < (graph_of s plan t).k → (graph_of s plan t).Edge u e w
      → bit (get_or swept (type_of t w) 0) (kept_by t.mode plan (state_of (states_in t) u) e) ≡ true → Clear (graph_of s plan t) back w
  pub spent_clear : (u e w : ℕ) → u < (graph_of s plan t).k → w < (graph_of s plan t).k → (graph_of s plan t).Edge u e w → special (ruled s plan) (event_of e) ≡ false
      → bit (get_or spent (type_of t u) 0) (state_of (states_in t) u) ≡ true → Clear (graph_of s plan t) back w

-- shut, by type of the source: from a state in the set no step need be asked
pub record Shuts (m : Mode) (plan swept spent shut : List ℕ) : Type 0 where
  pub size : length shut ≡ type_entries
  pub at : (t : ℕ) (a : Asker) → a.keeps ≡ keeps_of m → a.spent ≡ bit (get_or spent t 0) a.state → bit (get_or shut t 0) a.state ≡ true → Shut plan swept a t

-- what it says of one who asks from the type o
pub record Recalls (plan swept shut : List ℕ) (a : Asker) (o : ℕ) : Type 0 where
  pub size : length shut ≡ type_entries
  pub at : bit (get_or shut o 0) a.state ≡ true → Shut plan swept a o

-- only the asker's state may be new in a set
pub record Recalled (plan swept before after : List ℕ) (a : Asker) (o : ℕ) : Type 0 where
  pub size : length after ≡ type_entries
  pub only : (t k : ℕ) → bit (get_or after t 0) k ≡ true → (bit (get_or before t 0) k ≡ true) ⊎ ((t ≡ o) × (a.state ≡ k) × Shut plan swept a o)

-- the asker stands for the state, in a search of the mode
pub record AskerOf (m : Mode) (spent : List ℕ) (x : Context) (state : ℕ) (a : Asker) : Type 0 where
  pub state_is : a.state ≡ state
  pub keeps_are : a.keeps ≡ keeps_of m
  pub spent_is : a.spent ≡ bit (get_or spent x.ty 0) state
  pub few : a.state < state_codes

-- the node u, taken up
pub record TakenUp (plan : List ℕ) (t : Task) (spent : List ℕ) (u : ℕ) (v : Node) : Type 0 where
  pub stands : Stands t u v.x v.asker.state
  pub asker : AskerOf t.mode spent v.x v.asker.state v.asker
  pub asked : v.asks ≡ asks_by t.counts plan v.x.ty (place_of (states_in t) u)

-- r is the nearest step from the node's type, where steps are asked, and else none
pub record FirstFrom (plan swept : List ℕ) (v : Node) (r : Offer) : Type 0 where
  pub none : v.asks ≡ false → r.step ≡ steps_end
  pub nearest : v.asks ≡ true → NearestOf plan swept v.asker v.x.ty 0 r
