-- What a search says by what it finds.
use Rattle.std.specs.Prelude.{List, ℕ, suc, ◌<◌, Option, Some, None}
use Rattle.paths.specs.Inner.Monitor.{BadNode}
use Rattle.paths.specs.Inner.Least.{Least, Found as Reached, at, nowhere}
use Rattle.search.specs.declared.levels.End.{End}
use Rattle.search.specs.declared.levels.End.TheVariants.{Start, Step}
use Rattle.search.specs.declared.levels.LastStep.{LastStep}
use Rattle.search_graph.specs.declared.task.Task.{Task}
use Rattle.search_graph.specs.Inner.Graph.{Graph, FoundAt, WithinBound, NoneFound}
use Rattle.search_graph.specs.Inner.Nodes.{monitor_of, BadStart}
use Rattle.search_graph.specs.Inner.Tasks.{model_by, watch_by, graph_of}

-- the twin of search::levels::UNBOUNDED: no search has as many nodes
abbrev pub unbounded : ℕ
unbounded = 67108864

-- how many steps away an end is
abbrev pub steps_to : End → ℕ
steps_to (Start x) = 0
steps_to (Step l) = suc l.depth

-- .. and that which a search found
abbrev pub reached_by : Option End → Reached
reached_by None = nowhere
reached_by (Some e) = at (steps_to e)

-- the step is one into an end
abbrev pub FoundBy : Graph → List ℕ → LastStep → Type 0
FoundBy g back l = FoundAt g back l.from l.event l.to l.depth

-- of the graph, from starts that are no ends, up to a bound b on the number of steps
abbrev pub Searched : Graph → ℕ → List ℕ → Option End → Type 0
Searched g b back None = NoneFound g b
Searched g b back (Some (Start x)) = ⊥
Searched g b back (Some (Step l)) = FoundBy g back l × (l.depth < b)

-- a start that is a bad end; or a step into a bad end, and the links that lead back to a start
pub record FoundStart (s plan : List ℕ) (t : Task) (x : ℕ) : Type 0 where
  pub bad : BadStart (model_by s plan t) (watch_by s plan t) x
  pub least : Least (model_by s plan t) (monitor_of (watch_by s plan t)) (at 0)

pub record FoundStep (s plan : List ℕ) (t : Task) (back : List ℕ) (l : LastStep) : Type 0 where
  pub found : FoundBy (graph_of s plan t) back l
  pub least : Least (model_by s plan t) (monitor_of (watch_by s plan t)) (at (suc l.depth))

-- of the model of the plan: the least number of steps to a bad end, which is at most b; or that no bad end is within the
-- bound, so none at all where b is at least the number of nodes
abbrev pub FoundLeast : List ℕ → List ℕ → Task → ℕ → List ℕ → Option End → Type 0
FoundLeast s plan t b back None = (k : ℕ) → WithinBound b (graph_of s plan t).k k → ¬ BadNode (model_by s plan t) (monitor_of (watch_by s plan t)) k
FoundLeast s plan t b back (Some (Start x)) = FoundStart s plan t x
FoundLeast s plan t b back (Some (Step l)) = FoundStep s plan t back l × (l.depth < b)
