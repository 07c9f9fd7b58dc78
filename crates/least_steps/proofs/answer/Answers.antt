use Prim.Native.Nat.{ℕ}
use mathlib.Core.Path.{◌≡◌, subst}
use native.Mathlib.Omega.{arith}
use lib.ListN.{length, length-take}
use Rattle.std.specs.Prelude.{Option, Result}
use Rattle.std.proofs.lemmas.Result.{err_from_is_err_and}
use Rattle.plan.proofs.ContextLaws.{plan_counts}
use Rattle.plan.proofs.PlanLaws.{prepared, all_ruled}
use Rattle.search.specs.Inner.Found.{unbounded}
use Rattle.witness.specs.declared.path.NoRoom.{NoRoom}
use Rattle.least_steps.specs.LeastSteps.{StepsPromise}
use Rattle.least_steps.proofs.AskedLaws.{passed_ready, passed_range, passed_room}
use Rattle.least_steps.proofs.AnswerLaws.{steps_of, one_state, ends_over, any_given, promised}
use Rattle.least_steps.proofs.answer.Goals.{After-show_found}
use Rattle.least_steps.proofs.answer.Goals as goal

pub make_plan-requires : goal.make_plan-requires
make_plan-requires c = (passed_ready c.requires, omega arith)

pub put_ends-requires : goal.put_ends-requires
put_ends-requires c =
    let P = c.requires in
    ((passed_range P).first, (passed_range P).second, plan_counts (passed_ready P), omega arith)

pub put_rules-requires : goal.put_rules-requires
put_rules-requires c =
    let P = c.requires in
    let E = c.put_ends.ensures in
    (passed_ready P, prepared c.make_plan.ensures E.below E.alike E.ends.falls, omega arith)

pub slice_bounds-back-end : goal.slice_bounds-back-end
slice_bounds-back-end c = omega (arith, c.count-nodes.ensures, (passed_room c.requires).second)

-- what is shown, in the words of the promise
module _ (n : After-show_found) where
  abbrev Kept : Result (Option ℕ) NoRoom → Type 0
  Kept r = StepsPromise n.args.policy.now n.args.x n.args.y (length n.args.work1.now) (length n.args.work2.now) n.args.path.now n.show_found.new.path (steps_of r)

  kept : (r : Result (Option ℕ) NoRoom) → n.show_found.result ≡ r → Kept r
  kept r q =
      subst Kept q
      (promised n.requires n.put_rules.ensures.planned (ends_over n.requires n.put_rules.ensures n.put_ends.ensures.ends) (all_ruled n.put_rules.ensures) _ n.search-found.result.found n.search-found.ensures.0 _ _ n.show_found.result n.show_found.ensures)

pub returns-in_err-shown : goal.returns-in_err-shown
returns-in_err-shown c =
    let p = err_from_is_err_and c.from_residual.result c.from_residual.ensures.1 in
    rw (p.1, p.2) (kept (goal.at.returns-in_err-shown c).After-show_found _ c.in_err-shown.was)

pub returns : goal.returns
returns c = kept (goal.at.returns c).After-show_found _ c.in_ok-shown.was

pub show_found-requires : goal.show_found-requires
show_found-requires c =
    let P = c.requires in (
      any_given P c.put_rules.ensures.planned (ends_over c.requires c.put_rules.ensures c.put_ends.ensures.ends) (all_ruled c.put_rules.ensures),
      record { bound = unbounded; found = c.search-found.ensures.0 },
      omega (arith, one_state c.args.counts, c.count-nodes.ensures, (passed_room P).second, simp length-take at c.clear.auto.back, c.search-found.auto.back),
    )

pub search-found-requires : goal.search-found-requires
search-found-requires c =
    let P = c.requires in (
      any_given P c.put_rules.ensures.planned (ends_over c.requires c.put_rules.ensures c.put_ends.ensures.ends) (all_ruled c.put_rules.ensures),
      record {
        queue_room = omega (arith, one_state c.args.counts, (passed_room P).first);
        back_room = omega (arith, one_state c.args.counts, c.count-nodes.ensures, (passed_room P).second, simp length-take at c.clear.auto.back);
        fresh = c.clear.ensures;
      },
    )
