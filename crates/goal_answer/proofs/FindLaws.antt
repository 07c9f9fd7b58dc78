-- What two searches up to a bound come to: the right answer up to it.
use Prim.Native.Nat.{ℕ, suc, ◌<◌}
use mathlib.Core.List.{List}
use mathlib.Core.Logic.{inl, inr}
use mathlib.Core.Path.{◌≡◌, sym, ap, subst}
use native.Mathlib.Omega.{arith}
use Rattle.std.specs.Prelude.{Option, Some, None, MatchOption, IsSomeAnd}
use Rattle.std.specs.Option.{option_map, option_map_or, option_or}
use Rattle.policy_image.specs.declared.counts.Counts.{Counts}
use Rattle.goal_image.specs.declared.check.Legs.{Legs}
use Rattle.paths.specs.Model.{Model}
use Rattle.paths.specs.Paths.{SomeOrder, SomeEvents}
use Rattle.paths.specs.Inner.Monitor.{BadNode}
use Rattle.paths.specs.Inner.Monitors.{tracker_n, stager_n}
use Rattle.paths.specs.Inner.Verdict.{Verdict, holds, order, events, Right}
use Rattle.paths.proofs.Monitors.{order_iff, events_iff}
use Rattle.paths.proofs.Verdict.{order_right, events_right}
use Rattle.search_graph.specs.declared.monitor.Mode.{Mode}
use Rattle.search_graph.specs.declared.monitor.Mode.TheVariants.{Order, Events}
use Rattle.search_graph.specs.Inner.Graph.{WithinBound}
use Rattle.search_graph.specs.Inner.Model.{plan_model}
use Rattle.search_graph.specs.Inner.Tasks.{Given, task_for}
use Rattle.search.specs.declared.levels.End.{End}
use Rattle.search.specs.declared.levels.End.TheVariants.{Start, Step}
use Rattle.search.specs.Inner.Found.{unbounded, steps_to, FoundLeast}
use Rattle.search.proofs.FoundLaws.{few_steps}
use Rattle.witness.specs.Inner.Shown.{SearchFound}
use Rattle.goal_answer.specs.declared.find.Breach.{Breach}
use Rattle.goal_answer.specs.declared.find.Breach.TheVariants as breach
use Rattle.goal_answer.specs.Inner.Finding.{RightWithin, nodes_of, FoundGoal}

-- an answer within a bound that all numbers of steps are within is the answer
pub right_whole : (M : Model) {within : ℕ → Type 0} → ((m : ℕ) → within m) → (v : Verdict) → RightWithin M within v → Right M v
right_whole M all holds R = λ m. R m (all m)
right_whole M all (order m) R = R.1
right_whole M all (events m) R = R.1

-- what `map` makes of an end, by a variant
pub mapped : (f : End → Breach) (o : Option End) (r : Option Breach) → MatchOption o (r ≡ None) (λ e. IsSomeAnd r (λ b. b ≡ f e)) → r ≡ option_map f o
mapped f None r h = h
mapped f (Some e) None h = absurd h
mapped f (Some e) (Some b) h = ap Some h

-- .. and `map_or`
pub mapped_or : (d : ℕ) (o : Option End) (r : ℕ) → MatchOption o (r ≡ d) (λ e. r ≡ steps_to e) → r ≡ option_map_or steps_to o d
mapped_or d None r h = h
mapped_or d (Some e) r h = h

module _ {s plan : List ℕ} {n : Counts} {l : Legs} (A : (m : Mode) → Given s plan (task_for n l m)) where
  abbrev M : Model
  M = plan_model s plan n l

  abbrev Within : ℕ → ℕ → Type 0
  Within b = WithinBound b (nodes_of n l)

  some_leg : 0 < M.legs
  some_leg = (A Events).readable.some_leg

  -- without a bound all are within
  pub whole : (m : ℕ) → Within unbounded m
  whole m = inr (omega (arith, (A Events).readable.nodes))

  no_order : {k : ℕ} → ¬ BadNode M (tracker_n M) k → ¬ SomeOrder M k
  no_order {k} f b = f ((order_iff M some_leg k).0 b)

  no_events_lem : {k : ℕ} → ¬ BadNode M (stager_n M) k → ¬ SomeEvents M k
  no_events_lem {k} f b = f ((events_iff M k).0 b)

  -- with one leg no path breaks order: "0 < i < n"
  one_leg_lem : l.count ≡ 1 → (k : ℕ) → ¬ BadNode M (tracker_n M) k
  one_leg_lem q k b = let o = (order_iff M some_leg k).1 b in omega (arith, o.breaks.above, o.breaks.below)

  -- what was found of events, where none of order is found up to as many steps
  module _ (b : ℕ) (back : List ℕ) where
    pub right_events : (v : Option End) → FoundLeast s plan (task_for n l Events) b back v → {back' : List ℕ}
        → ((k : ℕ) → Within (option_map_or steps_to v b) k → ¬ BadNode M (tracker_n M) k)
        → (l.count ≡ 1 → SearchFound s plan (task_for n l Events) back' v) → FoundGoal s plan n l b back' (option_map breach.Events v)
    right_events None f none links = record { right = λ k h. (no_order (none k h), no_events_lem (f k h)); linked = tt }
    right_events (Some (Start x)) f none links =
        record {
          right = (inl (omega arith), events_right M some_leg 0 f.least (λ k h. none k (inl (omega arith))));
          linked = (omega arith, links);
        }
    right_events (Some (Step e)) f none links =
        record {
          right = (inl (omega (arith, f.1)), events_right M some_leg (suc e.depth) f.0.least (λ k h. none k (inl (omega arith))));
          linked = (few_steps (A Events) b back (Step e) f, links);
        }

    module _ (v : Option End) (f : FoundLeast s plan (task_for n l Events) b back v) where
      -- with one leg there is no other search
      pub found_one : l.count ≡ 1 → FoundGoal s plan n l b back (option_map breach.Events v)
      found_one q = right_events v f (λ k _. one_leg_lem q k) (λ _. record { bound = b; found = f })

      module _ {c : ℕ} (q : c ≡ option_map_or steps_to v b) (back' : List ℕ) where
        -- events have no fewer steps than an end within the bound
        events_after : {d : ℕ} → d < c → (k : ℕ) → k < suc d → ¬ BadNode M (stager_n M) k
        events_after = go v f q
          where
            go : (v : Option End) → FoundLeast s plan (task_for n l Events) b back v → c ≡ option_map_or steps_to v b → {d : ℕ} → d < c → (k : ℕ) → k < suc d → ¬ BadNode M (stager_n M) k
            go None f q h k u = f k (inl (omega arith))
            go (Some (Start x)) f q h k u = absurd (omega arith)
            go (Some (Step e)) f q h k u = f.0.least.1 k (omega arith)

        -- .. which is within the other
        within : {d : ℕ} → d < c → d < b
        within = go v f q
          where
            go : (v : Option End) → FoundLeast s plan (task_for n l Events) b back v → c ≡ option_map_or steps_to v b → {d : ℕ} → d < c → d < b
            go None f q h = omega arith
            go (Some (Start x)) f q h = omega arith
            go (Some (Step e)) f q h = omega (arith, f.1)

        -- order that is found up to as many steps wins
        pub found_both : (o : Option End) → FoundLeast s plan (task_for n l Order) c back' o → ¬ (l.count ≡ 1)
            → FoundGoal s plan n l b back' (option_or (option_map breach.Order o) (option_map breach.Events v))
        found_both None g legs = right_events v f (λ k h. g k (subst (λ (d : ℕ). Within d k) (sym q) h)) (λ h. absurd (legs h))
        found_both (Some (Start x)) g legs =
            record { right = (inl (omega arith), order_right M some_leg 0 g.least (λ k h. absurd (omega arith))); linked = (omega arith, record { bound = c; found = g }) }
        found_both (Some (Step e)) g legs =
            record {
              right = (inl (omega (arith, within g.1)), order_right M some_leg (suc e.depth) g.0.least (events_after g.1));
              linked = (few_steps (A Order) c back' (Step e) g, record { bound = c; found = g });
            }
