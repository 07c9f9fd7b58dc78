-- What a search of a plan for any end comes to, in the words of the promise.
use Prim.Native.Nat.{ℕ, ◌*◌}
use mathlib.Core.List.{List}
use mathlib.Core.Path.{◌≡◌, subst}
use native.Mathlib.Omega.{arith}
use Rattle.std.specs.Prelude.{Option, Some, None, Result, Ok, Err}
use Rattle.policy_image.specs.declared.counts.Counts.{Counts}
use Rattle.policy_image.specs.Policy.{Policy, policy_of}
use Rattle.context.specs.declared.Context.{Context}
use Rattle.context.specs.Inner.Places.{context_count}
use Rattle.paths.specs.Model.{Model}
use Rattle.paths.specs.Slice.{Shows}
use Rattle.paths.specs.Inner.Monitor.{plain}
use Rattle.paths.specs.Inner.Least.{Least}
use Rattle.plan.specs.Inner.Plan.{Ready, ruled, Planned}
use Rattle.plan.specs.Inner.Ends.{EndsPlan}
use Rattle.plan.specs.Inner.Put.{RulesPut}
use Rattle.plan.proofs.ContextLaws.{plan_counts}
use Rattle.plan.proofs.EndsLaws.{ends_kept}
use Rattle.search_graph.specs.declared.monitor.Mode.TheVariants.{Any}
use Rattle.search_graph.specs.declared.task.Task.{Task}
use Rattle.search_graph.specs.Inner.Model.{plan_model}
use Rattle.search_graph.specs.Inner.Tasks.{state_count, states_in, Given, task_for}
use Rattle.search_graph.proofs.GivenLaws.{given}
use Rattle.search.specs.declared.levels.End.{End}
use Rattle.search.specs.Inner.Found.{unbounded, reached_by, FoundLeast}
use Rattle.search.proofs.FoundLaws.{least_of_all}
use Rattle.witness.specs.declared.path.NoRoom.{NoRoom}
use Rattle.witness.specs.declared.unanswered.Unanswered.{Unanswered}
use Rattle.witness.specs.declared.unanswered.Unanswered.TheVariants as unanswered
use Rattle.witness.specs.Inner.Shown.{FoundShown}
use Rattle.least_steps.specs.LeastSteps.{FlowPath, SomeFlowPath, NoFlowPath, NoneShorter, StepsPromise}
use Rattle.least_steps.specs.Inner.Parts.{ends_legs, StepsPassed}
use Rattle.least_steps.proofs.AskedLaws.{passed_ready, passed_range}
use Rattle.least_steps.proofs.PathLaws.{some_path, none_shorter, no_path, shown_path}

-- what is shown, as the answer
abbrev pub steps_of : Result (Option ℕ) NoRoom → Result (Option ℕ) Unanswered
steps_of (Ok m) = Ok m
steps_of (Err e) = Err (unanswered.NoRoom e.steps)

-- a node for each context
pub one_state : (n : Counts) → context_count n * states_in (task_for n ends_legs Any) ≡ context_count n
unfolding state_count
one_state n = omega arith

-- what is put of the rules leaves the ends
pub ends_over : {s counted old plan : List ℕ} {x y : Context} {n : Counts} {work1 work2 : ℕ} → StepsPassed s x y n work1 work2 → RulesPut s counted n old plan → EndsPlan x y n old → EndsPlan x y n plan
ends_over {old = old} {plan} P R E =
    ends_kept old plan (passed_range P).first (passed_range P).second (plan_counts (passed_ready P)) (λ i h. R.below i (omega arith)) E

-- where the questions are passed, and the ends are in a plan in which every allow record counts
module _ {s plan : List ℕ} {x y : Context} {n : Counts} {work1 work2 : ℕ} (P : StepsPassed s x y n work1 work2) (L : Planned s n plan) (E : EndsPlan x y n plan)
    (all : ruled s plan ≡ policy_of s) where
  abbrev t : Task
  t = task_for n ends_legs Any

  abbrev M : Model
  M = plan_model s plan n ends_legs

  R : Ready s n
  R = passed_ready P

  pub any_given : Given s plan t
  any_given = given R L (omega arith) (omega arith) Any

  module _ (back : List ℕ) (r : Option End) (f : FoundLeast s plan t unbounded back r) where
    least : Least M plain (reached_by r)
    least = least_of_all any_given back r f

    shortest : {m : ℕ} → NoneShorter (ruled s plan) x y m → NoneShorter (policy_of s) x y m
    shortest {m} h = subst (λ (p : Policy). NoneShorter p x y m) all h

    pub promised : (before after : List ℕ) (q : Result (Option ℕ) NoRoom) → FoundShown M Any r before after q → StepsPromise s x y work1 work2 before after (steps_of q)
    promised before after (Ok None) h = (P.questions, subst (λ (p : Policy). NoFlowPath p x y) all (no_path R E (subst (Least M plain) h.0 least)), h.1)
    promised before after (Ok (Some m)) h =
        let z = subst (Least M plain) h.0 least in
        (P.questions, shortest (none_shorter R E z.1), subst (λ (p : Policy). Shows (FlowPath p x y) m before after) all (shown_path R E h.1.shows))
    promised before after (Err e) h =
        let z = subst (Least M plain) h.0 least in
        (P.questions, subst (λ (p : Policy). SomeFlowPath p x y e.steps) all (some_path R E z.0), shortest (none_shorter R E z.1), h.1, h.2)
