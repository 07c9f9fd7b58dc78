-- What is shown of what is found.
use Prim.Native.Nat.{ℕ, ◌≤◌, ◌<◌}
use mathlib.Core.List.{List}
use mathlib.Core.Logic.{inl}
use mathlib.Core.Path.{◌≡◌, sym, ap, subst, ◌∙◌}
use native.Mathlib.Omega.{arith}
use native.Mathlib.Decide.{dec_lt}
use Rattle.std.specs.Prelude.{Option, Some, None, Result, Ok, Err}
use Rattle.policy_image.specs.declared.counts.Counts.{Counts}
use Rattle.goal_image.specs.declared.check.Legs.{Legs}
use Rattle.paths.specs.Model.{Model}
use Rattle.paths.specs.Inner.Least.{at}
use Rattle.paths.specs.Inner.Monitor.{BadNode}
use Rattle.paths.specs.Inner.Monitors.{stager_n}
use Rattle.paths.proofs.Monitors.{events_iff}
use Rattle.search_graph.specs.declared.monitor.Mode.TheVariants.{Order, Events}
use Rattle.search_graph.specs.Inner.Model.{plan_model}
use Rattle.search_graph.specs.Inner.Tasks.{task_for}
use Rattle.search.specs.declared.levels.End.{End}
use Rattle.search.specs.declared.levels.End.TheVariants.{Start, Step}
use Rattle.search.specs.Inner.Found.{steps_to, reached_by, FoundLeast}
use Rattle.witness.specs.declared.path.NoRoom.{NoRoom}
use Rattle.witness.specs.Inner.Shown.{SearchFound, FoundShown}
use Rattle.goal_answer.specs.declared.find.Breach.{Breach}
use Rattle.goal_answer.specs.declared.find.Breach.TheVariants as breach
use Rattle.goal_answer.specs.Inner.Finding.{GoalFound, EventsFound}

module _ {s plan : List ℕ} {n : Counts} {l : Legs} {back : List ℕ} where
  -- what was found of a sort
  pub order_end : {r : Option Breach} {b : Breach} {e : End} → GoalFound s plan n l back r → r ≡ Some b → b ≡ breach.Order e → SearchFound s plan (task_for n l Order) back (Some e)
  order_end F q o =
      let G = subst (λ (r : Option Breach). GoalFound s plan n l back r) q F in
      (subst (λ (b : Breach). GoalFound s plan n l back (Some b)) o G).found.linked.1

  pub events_end : {r : Option Breach} {b : Breach} {e : End} → GoalFound s plan n l back r → r ≡ Some b → b ≡ breach.Events e → EventsFound s plan n l back e
  events_end F q o =
      let G = subst (λ (r : Option Breach). GoalFound s plan n l back r) q F in
      let E = (subst (λ (b : Breach). GoalFound s plan n l back (Some b)) o G).found in
      record { right = E.right.1; linked = E.linked }

  -- events that are searched for again, up to as many steps, are as far away
  module _ {e : End} (E : EventsFound s plan n l back e) {m : ℕ} (q : m ≡ steps_to e) where
    abbrev M : Model
    M = plan_model s plan n l

    at_least : {k : ℕ} → BadNode M (stager_n M) k → m ≤ k
    at_least {k} b = go (dec_lt k m)
      where
        go : Dec (k < m) → m ≤ k
        go (yes h) = absurd ((E.right.0 k (omega arith)).1 ((events_iff M k).1 b))
        go (no h) = omega arith

    pub as_far : (back' : List ℕ) (r : Option End) → FoundLeast s plan (task_for n l Events) m back' r → reached_by r ≡ reached_by (Some e)
    as_far back' r f = go r f ∙ ap at q
      where
        go : (r : Option End) → FoundLeast s plan (task_for n l Events) m back' r → reached_by r ≡ at m
        go None f = absurd (f m (inl (omega arith)) (subst (BadNode M (stager_n M)) (sym q) ((events_iff M (steps_to e)).0 E.right.1)))
        go (Some (Start x)) f = ap at (let h = at_least f.least.0 in omega arith)
        go (Some (Step d)) f = ap at (let h = at_least f.0.least.0 in omega (arith, f.1))

-- what is shown goes by the number of steps alone
pub shown_as : (M : Model) (e r : Option End) (before after : List ℕ) → reached_by r ≡ reached_by e → (t : Result (Option ℕ) NoRoom) → FoundShown M Events r before after t
    → FoundShown M Events e before after t
shown_as M e r before after q (Ok None) S = (sym q ∙ S.0, S.1)
shown_as M e r before after q (Ok (Some m)) S = (sym q ∙ S.0, S.1)
shown_as M e r before after q (Err z) S = (sym q ∙ S.0, S.1, S.2)
