-- What is found of a goal and what is shown of it, in the words of the promise.
use Prim.Native.Nat.{ℕ}
use mathlib.Core.List.{List}
use mathlib.Core.Logic.{inl, inr}
use mathlib.Core.Path.{◌≡◌, sym, subst}
use native.Mathlib.Omega.{arith}
use Rattle.std.specs.Prelude.{Option, Some, None, Result, Ok, Err}
use Rattle.policy_image.specs.declared.counts.Counts.{Counts}
use Rattle.goal_image.specs.declared.check.Legs.{Legs}
use Rattle.paths.specs.Model.{Model}
use Rattle.paths.specs.Paths.{OrderAt, EventsAt}
use Rattle.paths.specs.Inner.Agree.{Agree}
use Rattle.paths.specs.Inner.Least.{at, nowhere, Found as Reached}
use Rattle.paths.specs.Inner.Verdict.{Right}
use Rattle.paths.proofs.AgreeLaws.{holds_agrees, order_at_agrees, events_at_agrees, shows_agrees, order_agrees, events_agree}
use Rattle.goal_model.specs.Images.{model}
use Rattle.search_graph.specs.Inner.Model.{plan_model}
use Rattle.search.specs.Inner.Found.{unbounded}
use Rattle.witness.specs.declared.path.NoRoom.{NoRoom}
use Rattle.witness.specs.declared.unanswered.Unanswered.{Unanswered}
use Rattle.witness.specs.declared.unanswered.Unanswered.TheVariants as unanswered
use Rattle.goal_answer.specs.declared.find.Breach.{Breach}
use Rattle.goal_answer.specs.declared.find.Breach.TheVariants as breach
use Rattle.goal_answer.specs.Inner.Finding.{Searchable, verdict_of, FoundGoal, GoalShown}
use Rattle.goal_answer.proofs.FindLaws.{right_whole, whole}
use Rattle.goal_question.specs.declared.goal.Outcome.{Outcome}
use Rattle.goal_question.specs.GoalQuestion.{GoalPromise}
use Rattle.goal_question.specs.Inner.Parts.{Passed, outcome_of}

-- an end is so many steps away, and no other number
same_steps : {k m : ℕ} → at k ≡ at m → k ≡ m
same_steps q = cc

not_at : {m : ℕ} → ◌≡◌ {A = Reached} nowhere (at m) → ⊥
not_at q = let z : ◌≡◌ {A = ℕ} 0 1 = cc in omega arith

-- what is shown, as the answer
abbrev pub answer_of : Option Breach → Result (Option ℕ) NoRoom → Result Outcome Unanswered
answer_of f (Ok m) = Ok (outcome_of f m)
answer_of f (Err e) = Err (unanswered.NoRoom e.steps)

-- the promise, where the plan's model agrees with that of the two images
module _ {s g plan : List ℕ} {n : Counts} {l : Legs} {work1 work2 room1 room2 : ℕ} (G : Searchable s plan n l room1 room2) (A : Agree (plan_model s plan n l) (model s g))
    (P : Passed s g n l work1 work2) (before after : List ℕ) where
  abbrev M : Model
  M = plan_model s plan n l

  as_promised : (f : Option Breach) (r : Result (Option ℕ) NoRoom) → Right M (verdict_of f) → GoalShown M f before after r
      → GoalPromise s g work1 work2 before after (answer_of f r)
  as_promised None (Ok None) R S = ((P.questions, holds_agrees A R), S.1)
  as_promised None (Ok (Some m)) R S = absurd (not_at S.0)
  as_promised None (Err e) R S = absurd (not_at S.0)
  as_promised (Some (breach.Order e)) (Ok None) R S = absurd (not_at (sym S.0))
  as_promised (Some (breach.Order e)) (Ok (Some m)) R S = (
    (P.questions, order_at_agrees A (subst (OrderAt M) (same_steps S.0) R)),
    shows_agrees A S.1.shows,
    order_agrees A S.1.shows.path S.1.breaks,
  )
  as_promised (Some (breach.Order e)) (Err z) R S = (inl (P.questions, order_at_agrees A (subst (OrderAt M) (same_steps S.0) R)), S.1, S.2)
  as_promised (Some (breach.Events e)) (Ok None) R S = absurd (not_at (sym S.0))
  as_promised (Some (breach.Events e)) (Ok (Some m)) R S = (
    (P.questions, events_at_agrees A (subst (EventsAt M) (same_steps S.0) R)),
    shows_agrees A S.1.shows,
    events_agree A S.1.shows.path S.1.breaks,
  )
  as_promised (Some (breach.Events e)) (Err z) R S = (inr (P.questions, events_at_agrees A (subst (EventsAt M) (same_steps S.0) R)), S.1, S.2)

  pub promised : {back : List ℕ} (f : Option Breach) (r : Result (Option ℕ) NoRoom) → FoundGoal s plan n l unbounded back f → GoalShown M f before after r
      → GoalPromise s g work1 work2 before after (answer_of f r)
  promised f r F S = as_promised f r (right_whole M (whole G.given) (verdict_of f) F.right) S
