-- What is found of a goal by the searches of a plan, and what is shown of it.
use Rattle.std.specs.Prelude.{ℕ, ◌*◌, ◌^◌, ◌≤◌, ◌<◌, List, ◌≡◌, Option, Some, None, Result}
use Rattle.policy_image.specs.declared.counts.Counts.{Counts}
use Rattle.context.specs.Inner.Places.{context_count}
use Rattle.goal_image.specs.declared.check.Legs.{Legs}
use Rattle.paths.specs.Model.{Model}
use Rattle.paths.specs.Paths.{SomeOrder, SomeEvents, OrderAt, EventsAt}
use Rattle.paths.specs.Inner.Verdict.{Verdict, holds, order, events}
use Rattle.search_graph.specs.declared.monitor.Mode.{Mode}
use Rattle.search_graph.specs.declared.monitor.Mode.TheVariants as mode
use Rattle.search_graph.specs.Inner.Graph.{WithinBound}
use Rattle.search_graph.specs.Inner.Model.{plan_model}
use Rattle.search_graph.specs.Inner.Tasks.{state_count, Given, task_for}
use Rattle.search.specs.declared.levels.End.{End}
use Rattle.search.specs.Inner.Found.{steps_to}
use Rattle.witness.specs.declared.path.NoRoom.{NoRoom}
use Rattle.witness.specs.Inner.Shown.{SearchFound, FoundShown}
use Rattle.goal_answer.specs.declared.find.Breach.{Breach}
use Rattle.goal_answer.specs.declared.find.Breach.TheVariants as breach

-- what each answer says, where it is asked of paths with a number of steps within a bound alone
abbrev pub RightWithin : Model → (ℕ → Type 0) → Verdict → Type 0
RightWithin M within holds = (m : ℕ) → within m → (¬ SomeOrder M m) × (¬ SomeEvents M m)
RightWithin M within (order m) = within m × OrderAt M m
RightWithin M within (events m) = within m × EventsAt M m

-- the nodes of a search for order or for events
abbrev pub nodes_of : Counts → Legs → ℕ
nodes_of n l = context_count n * state_count l.count

-- all that the searches of a plan are given, whatever they look for, with work slices of these lengths
pub record Searchable (s plan : List ℕ) (n : Counts) (l : Legs) (work1 work2 : ℕ) : Type 0 where
  pub given : (m : Mode) → Given s plan (task_for n l m)
  pub first : nodes_of n l ≤ work1
  pub second : nodes_of n l ≤ work2

-- the answer that it is
abbrev pub verdict_of : Option Breach → Verdict
verdict_of None = holds
verdict_of (Some (breach.Order e)) = order (steps_to e)
verdict_of (Some (breach.Events e)) = events (steps_to e)

-- there are no more steps than a search may have nodes
abbrev pub Short : End → Type 0
Short e = steps_to e ≤ 2 ^ 26

-- the links to what is found are in place: for order always, for events where no search came after theirs
abbrev pub InPlace : List ℕ → List ℕ → Counts → Legs → List ℕ → Option Breach → Type 0
InPlace s plan n l back None = Unit
InPlace s plan n l back (Some (breach.Order e)) = Short e × SearchFound s plan (task_for n l mode.Order) back (Some e)
InPlace s plan n l back (Some (breach.Events e)) = Short e × (l.count ≡ 1 → SearchFound s plan (task_for n l mode.Events) back (Some e))

-- what is found up to the bound b is right, and its links are in place
pub record FoundGoal (s plan : List ℕ) (n : Counts) (l : Legs) (b : ℕ) (back : List ℕ) (r : Option Breach) : Type 0 where
  pub right : RightWithin (plan_model s plan n l) (WithinBound b (nodes_of n l)) (verdict_of r)
  pub linked : InPlace s plan n l back r

-- .. up to some bound
pub record GoalFound (s plan : List ℕ) (n : Counts) (l : Legs) (back : List ℕ) (r : Option Breach) : Type 0 where
  pub bound : ℕ
  pub found : FoundGoal s plan n l bound back r

-- .. and it is events
pub record EventsFound (s plan : List ℕ) (n : Counts) (l : Legs) (back : List ℕ) (e : End) : Type 0 where
  pub right : EventsAt (plan_model s plan n l) (steps_to e)
  pub linked : InPlace s plan n l back (Some (breach.Events e))

-- what became of what is found
abbrev pub GoalShown : Model → Option Breach → List ℕ → List ℕ → Result (Option ℕ) NoRoom → Type 0
GoalShown M None before after r = FoundShown M mode.Events None before after r
GoalShown M (Some (breach.Order e)) before after r = FoundShown M mode.Order (Some e) before after r
GoalShown M (Some (breach.Events e)) before after r = FoundShown M mode.Events (Some e) before after r
