-- What is promised of the path that is shown.
use Rattle.std.specs.Prelude.{List, ◌≡◌, ℕ, ◌+◌, ◌*◌, ◌/◌, ◌<◌, length, Option, Some, None, Result, Ok, Err}
use Rattle.policy_image.specs.declared.counts.Counts.{Counts}
use Rattle.context.specs.Inner.Places.{Countable, context_count}
use Rattle.paths.specs.Model.{Model}
use Rattle.paths.specs.Paths.{IsPath, BreaksOrder, BreaksEvents}
use Rattle.paths.specs.Slice.{contexts_in, events_in, Shows}
use Rattle.paths.specs.Inner.Least.{at, nowhere}
use Rattle.search.specs.declared.levels.End.{End}
use Rattle.search.specs.Inner.Found.{reached_by, FoundLeast}
use Rattle.search_graph.specs.declared.monitor.Mode.{Mode}
use Rattle.search_graph.specs.declared.monitor.Mode.TheVariants.{Order, Events, Any}
use Rattle.search_graph.specs.declared.task.Task.{Task}
use Rattle.witness.specs.declared.path.NoRoom.{NoRoom}

-- what a mode looks for, in a path
abbrev pub BreaksBy : Mode → Model → ℕ → (ℕ → ℕ) → (ℕ → ℕ) → Type 0
BreaksBy Order M m x e = BreaksOrder M m x
BreaksBy Events M m x e = BreaksEvents M m x e
BreaksBy Any M m x e = Unit

-- a path of m steps is shown that has what the mode looks for
pub record ShownPath (M : Model) (mode : Mode) (m : ℕ) (before after : List ℕ) : Type 0 where
  pub shows : Shows (IsPath M) m before after
  pub breaks : BreaksBy mode M m (contexts_in after) (events_in after)

-- a search found r, up to some bound
pub record SearchFound (s plan : List ℕ) (t : Task) (back : List ℕ) (r : Option End) : Type 0 where
  pub bound : ℕ
  pub found : FoundLeast s plan t bound back r

-- what became of what a search found: there was nothing to show; such a path is shown; or there is no room for it
abbrev pub FoundShown : Model → Mode → Option End → List ℕ → List ℕ → Result (Option ℕ) NoRoom → Type 0
FoundShown M mode found before after (Ok None) = (reached_by found ≡ nowhere) × (after ≡ before)
FoundShown M mode found before after (Ok (Some m)) = (reached_by found ≡ at m) × ShownPath M mode m before after
FoundShown M mode found before after (Err e) = (reached_by found ≡ at e.steps) × (length before < 2 * e.steps + 1) × (after ≡ before)

-- the node v, of contexts with so many states each, has a context with a code
pub record NodeIn (n : Counts) (states v : ℕ) : Type 0 where
  pub countable : Countable n
  pub types : n.types < 65536
  pub roles : n.roles < 16
  pub users : n.users < 16
  pub some : 0 < states
  pub below : v / states < context_count n
