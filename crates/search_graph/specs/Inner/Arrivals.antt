-- What the leaves of a search promise of an arrival.
use Rattle.std.specs.Prelude.{◌≡◌, true, false, List, ℕ, ◌+◌, ◌*◌, T}
use Rattle.base.specs.Bits.{bit}
use Rattle.policy_image.specs.declared.counts.Counts.{Counts}
use Rattle.paths.specs.Model.{Model}
use Rattle.plan.specs.Inner.Entries.{event_sets_at}
use Rattle.search_graph.specs.declared.arrival.Arrival.{Arrival}
use Rattle.search_graph.specs.declared.arrival.Arrival.TheVariants.{Enter, Dropped, Broken}
use Rattle.search_graph.specs.declared.task.Task.{Task}
use Rattle.search_graph.specs.Inner.Nodes.{Watch, code_at, BadEnd}
use Rattle.search_graph.specs.Inner.Watching.{Judged}
use Rattle.search_graph.specs.Inner.Tasks.{states_in, model_by, watch_by}

-- what each case of an arrival says, of the sets and the state
pub record Entered (t : Task) (into y state v : ℕ) : Type 0 where
  pub node : v ≡ y * states_in t + state
  pub outside : bit into t.legs.count ≡ false

pub record Ended (t : Task) (into state : ℕ) : Type 0 where
  pub arrives : bit into t.legs.count ≡ true
  pub good : Judged t.mode t.legs state false

pub record Broke (t : Task) (into y state v : ℕ) : Type 0 where
  pub node : v ≡ y * states_in t + state
  pub arrives : bit into t.legs.count ≡ true
  pub verdict : Judged t.mode t.legs state true

abbrev pub Arrived : Task → ℕ → ℕ → ℕ → Arrival → Type 0
Arrived t into y state (Enter v) = Entered t into y state v
Arrived t into y state Dropped = Ended t into state
Arrived t into y state (Broken v) = Broke t into y state v

-- .. and of the model: i is the monitor's state at the context at place y, one of so many
module _ (M : Model) (n : Counts) (W : Watch) (states y i : ℕ) where
  pub record LandsOpen (v : ℕ) : Type 0 where
    pub node : v ≡ y * states + i
    pub outside : ¬ T (M.σ M.legs (code_at n y))

  pub record LandsGood : Type 0 where
    pub arrives : T (M.σ M.legs (code_at n y))
    pub good : ¬ T (W.bad i)

  pub record LandsBad (v : ℕ) : Type 0 where
    pub node : v ≡ y * states + i
    pub ends : BadEnd M W (code_at n y) i

  abbrev pub Lands : Arrival → Type 0
  Lands (Enter v) = LandsOpen v
  Lands Dropped = LandsGood
  Lands (Broken v) = LandsBad v

-- a step from the state by any event in the sets by, whatever the policy
pub record Arriving (plan : List ℕ) (t : Task) (state by y : ℕ) (r : Arrival) : Type 0 where
  pub at : (s : List ℕ) (e : ℕ) → by ≡ event_sets_at plan e
      → Lands (model_by s plan t) t.counts (watch_by s plan t) (states_in t) y ((watch_by s plan t).step state e (code_at t.counts y)) r
