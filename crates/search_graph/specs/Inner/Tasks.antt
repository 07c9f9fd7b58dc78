-- What a search is given, and what its loops keep besides the graph's own records.
use Rattle.std.specs.Prelude.{◌≡◌, true, false, List, ℕ, ◌*◌, ◌^◌, ◌≤◌, ◌<◌, length}
use Rattle.policy_image.specs.declared.counts.Counts.{Counts}
use Rattle.policy_image.specs.Policy.{Policy}
use Rattle.context.specs.declared.Context.{Context}
use Rattle.context.specs.Codes.{event_of}
use Rattle.context.specs.Ranges.{ContextInRange}
use Rattle.context.specs.Inner.Places.{context_count, context_at_index}
use Rattle.access.specs.Authorization.{flow}
use Rattle.goal_image.specs.declared.check.Legs.{Legs}
use Rattle.paths.specs.Model.{Model}
use Rattle.plan.specs.Inner.Regions.{event_entries, plan_entries}
use Rattle.plan.specs.Inner.Plan.{Ready, PlanCounts, Planned}
use Rattle.plan.specs.Inner.Sets.{Falls}
use Rattle.search_graph.specs.declared.monitor.Mode.{Mode}
use Rattle.search_graph.specs.declared.monitor.Mode.TheVariants.{Order, Events, Any}
use Rattle.search_graph.specs.declared.task.Task.{Task}
use Rattle.search_graph.specs.Inner.Graph.{Graph}
use Rattle.search_graph.specs.Inner.Model.{excepted, barred, plan_model}
use Rattle.search_graph.specs.Inner.Nodes.{Watch, watch_of, place_of, state_of, graph}

abbrev pub task_for : Counts → Legs → Mode → Task
task_for n l m = record { counts = n; legs = l; mode = m }

-- the number of bits of a state where no path ends: one for each leg (D38), and none where any end is looked for
abbrev pub state_bits : Mode → ℕ → ℕ
state_bits Order legs = legs
state_bits Events legs = legs
state_bits Any legs = 0

abbrev pub bits_in : Task → ℕ
bits_in t = state_bits t.mode t.legs.count

-- the number of states of so many bits; of a context, for a task
unfoldable pub state_count : ℕ → ℕ
state_count bits = 2 ^ bits

abbrev pub states_in : Task → ℕ
states_in t = state_count (bits_in t)

pub record States (bits r : ℕ) : Type 0 where
  pub same : r ≡ state_count bits
  pub some : 0 < r

-- the sets of a plan can be read
pub record ReadablePlan (n : Counts) (plan : List ℕ) : Type 0 where
  pub counts : PlanCounts n
  pub falls : Falls plan
  pub size : plan_entries ≤ length plan

-- .. and the nodes can be numbered
pub record Readable (plan : List ℕ) (t : Task) : Type 0 where
  pub sets : ReadablePlan t.counts plan
  pub some_leg : 0 < t.legs.count
  pub few_legs : t.legs.count ≤ 6
  pub nodes : context_count t.counts * states_in t < 2 ^ 26

-- all that does not change while a search runs: an accepted policy with its counts, its plan, and nodes that can be numbered
pub record Given (s plan : List ℕ) (t : Task) : Type 0 where
  pub ready : Ready s t.counts
  pub planned : Planned s t.counts plan
  pub readable : Readable plan t

-- the model, the monitor and the graph of a policy, a plan and a task
abbrev pub model_by : List ℕ → List ℕ → Task → Model
model_by s plan t = plan_model s plan t.counts t.legs

abbrev pub watch_by : List ℕ → List ℕ → Task → Watch
watch_by s plan t = watch_of t.mode (model_by s plan t)

abbrev pub graph_of : List ℕ → List ℕ → Task → Graph
graph_of s plan t = graph (model_by s plan t) t.counts (watch_by s plan t) (states_in t)

-- the type of the context at which a node stands
abbrev pub type_of : Task → ℕ → ℕ
type_of t v = (context_at_index t.counts (place_of (states_in t) v)).ty

-- the node u stands at the context x, in the state
pub record Stands (t : Task) (u : ℕ) (x : Context) (state : ℕ) : Type 0 where
  pub below : place_of (states_in t) u < context_count t.counts
  pub place : x ≡ context_at_index t.counts (place_of (states_in t) u)
  pub range : ContextInRange t.counts x
  pub at : state ≡ state_of (states_in t) u

-- the event e is asked from x, which is not in σe
pub record AskedStep (n : Counts) (plan : List ℕ) (x : Context) (e : ℕ) : Type 0 where
  pub high : e ≤ event_entries
  pub free : e < event_entries → excepted n plan x ≡ false

-- the context at place y is a target of the event
pub record Faced (p : Policy) (n : Counts) (plan : List ℕ) (x : Context) (event y : ℕ) : Type 0 where
  pub high : y ≤ context_count n
  pub free : y < context_count n → barred plan event ≡ false
  pub flows : y < context_count n → flow p (event_of event) x (context_at_index n y) ≡ true
