-- The graph that a search goes through: a node is a context in range and a state of a monitor, of which there are so many. Its number
-- is the context's place times the number of states, and the state.
use Rattle.std.specs.Prelude.{◌≡◌, Bool, ℕ, ◌*◌, ◌/◌, ◌%◌, ◌<◌, T}
use Rattle.policy_image.specs.declared.counts.Counts.{Counts}
use Rattle.context.specs.Inner.Coding.{context_code}
use Rattle.context.specs.Inner.Places.{context_count, context_at_index}
use Rattle.plan.specs.Inner.Regions.{event_entries}
use Rattle.paths.specs.Model.{Model}
use Rattle.paths.specs.Inner.Monitor.{Monitor, plain, Start, Edge}
use Rattle.paths.specs.Inner.Monitors.{tracker_n, stager_n}
use Rattle.search_graph.specs.declared.monitor.Mode.{Mode}
use Rattle.search_graph.specs.declared.monitor.Mode.TheVariants.{Order, Events, Any}
use Rattle.search_graph.specs.Inner.Graph.{Graph}

-- a monitor whose states are numbers
pub record Watch : Type 0 where
  pub start : ℕ → ℕ
  pub step : ℕ → ℕ → ℕ → ℕ
  pub bad : ℕ → Bool

abbrev pub monitor_of : Watch → Monitor
monitor_of W = record { State = ℕ; start = W.start; step = W.step; bad = W.bad }

-- the monitor of each mode
abbrev pub watch_of : Mode → Model → Watch
watch_of Order M = record { start = (tracker_n M).start; step = (tracker_n M).step; bad = (tracker_n M).bad }
watch_of Events M = record { start = (stager_n M).start; step = (stager_n M).step; bad = (stager_n M).bad }
watch_of Any M = record { start = plain.start; step = plain.step; bad = plain.bad }

-- the code of the context at place y
unfoldable pub code_at : Counts → ℕ → ℕ
code_at n y = context_code (context_at_index n y)

-- where a node's context stands, its code, and the node's state, for k states
unfoldable pub place_of : ℕ → ℕ → ℕ
place_of k v = v / k

unfoldable pub state_of : ℕ → ℕ → ℕ
state_of k v = v % k

abbrev pub code_of : Counts → ℕ → ℕ → ℕ
code_of n k v = code_at n (place_of k v)

-- a bad end: x is in σn, and the monitor's state i there is bad; a start that is one is a path of no steps
pub record BadEnd (M : Model) (W : Watch) (x i : ℕ) : Type 0 where
  pub arrives : T (M.σ M.legs x)
  pub verdict : T (W.bad i)

pub record BadStart (M : Model) (W : Watch) (x : ℕ) : Type 0 where
  pub begins : Start M x
  pub ends : BadEnd M W x (W.start x)

module _ (M : Model) (n : Counts) (W : Watch) (states : ℕ) where
  -- a start that is no end, in the monitor's first state
  pub record StartAt (v : ℕ) : Type 0 where
    pub begins : Start M (code_of n states v)
    pub state : state_of states v ≡ W.start (code_of n states v)
    pub outside : ¬ T (M.σ M.legs (code_of n states v))

  -- a step that a path may take, and the monitor's. An end that is not bad is dropped: no edge goes there
  pub record EdgeAt (u e v : ℕ) : Type 0 where
    pub edge : Edge M (code_of n states u) e (code_of n states v)
    pub state : state_of states v ≡ W.step (state_of states u) e (code_of n states v)
    pub kept : T (M.σ M.legs (code_of n states v)) → T (W.bad (state_of states v))

  -- an end: its context is in σn
  pub record EndAt (v : ℕ) : Type 0 where
    pub arrives : T (M.σ M.legs (code_of n states v))

  abbrev pub graph : Graph
  graph = record { k = context_count n * states; e = 1024; Start = StartAt; Edge = EdgeAt; End = EndAt }

  -- the codes of contexts in range have places, flow is by events with codes below 1024, and the states are enough
  pub record Bounded : Type 0 where
    pub placed : (x : ℕ) → T (M.context x) → (y : ℕ) × (y < context_count n) × (code_at n y ≡ x)
    pub events : (x e y : ℕ) → T (M.flow_by x e y) → e < event_entries
    pub starts : (x : ℕ) → W.start x < states
    pub steps : (s e y : ℕ) → ¬ T (M.σ M.legs y) → W.step s e y < states
    pub bads : (s e y : ℕ) → T (W.bad (W.step s e y)) → W.step s e y < states
