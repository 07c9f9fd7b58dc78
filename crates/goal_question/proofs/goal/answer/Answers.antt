use mathlib.Core.Path.{◌≡◌, subst}
use Prim.Native.Nat.{ℕ, ◌*◌, ◌^◌, ◌<◌}
use native.Mathlib.Omega.{arith}
use lib.ListN.{length, length-take}
use Rattle.std.specs.Prelude.{Option, Result}
use Rattle.std.proofs.lemmas.Result.{err_from_is_err_and}
use Rattle.context.specs.Inner.Places.{context_count}
use Rattle.plan.proofs.ContextLaws.{plan_counts}
use Rattle.plan.proofs.SetLaws.{goal_kept}
use Rattle.plan.proofs.PlanLaws.{prepared, all_ruled}
use Rattle.search_graph.specs.Inner.Tasks.{state_count}
use Rattle.search_graph.proofs.ArrivalLaws.{nodes_of_lem}
use Rattle.search_graph.proofs.GivenLaws.{few_nodes}
use Rattle.search.specs.Inner.Found.{unbounded}
use Rattle.witness.specs.declared.path.NoRoom.{NoRoom}
use Rattle.goal_question.specs.GoalQuestion.{GoalPromise}
use Rattle.goal_question.proofs.ModelLaws.{same_model}
use Rattle.goal_question.proofs.SizeLaws.{passed_sizes, work_room, searchable}
use Rattle.goal_question.proofs.AnswerLaws.{answer_of, promised}
use Rattle.goal_question.proofs.goal.answer.Goals.{After-state_count, After-show_by}
use Rattle.goal_question.proofs.goal.answer.Goals as goal

-- the product is the number of nodes
module _ (n : After-state_count) where
  nodes : n.count.result * n.state_count.result ≡ context_count n.args.counts * state_count n.args.legs.count
  nodes = nodes_of_lem n.count.ensures n.state_count.ensures

  few : context_count n.args.counts * state_count n.args.legs.count < 2 ^ 26
  few = let Z = passed_sizes n.requires in few_nodes Z.ready n.args.legs.count Z.few_legs

pub make_plan-requires : goal.make_plan-requires
make_plan-requires c = ((passed_sizes c.requires).ready, omega arith)

pub put_goal-requires : goal.put_goal-requires
put_goal-requires c =
    let Z = passed_sizes c.requires in
    (Z.goal, plan_counts Z.ready, omega arith)

pub put_rules-requires : goal.put_rules-requires
put_rules-requires c =
    let G = c.put_goal.ensures in
    ((passed_sizes c.requires).ready, prepared c.make_plan.ensures G.below G.alike G.goal.sets.lists.falls, omega arith)

pub state_count-requires : goal.state_count-requires
state_count-requires c = (passed_sizes c.requires).few_legs

pub overflow_mul-nodes : goal.overflow_mul-nodes
overflow_mul-nodes c =
    let K = (goal.at.overflow_mul-nodes c).After-state_count in
    omega (arith, nodes K, few K)

pub overflow_cast-nodes : goal.overflow_cast-nodes
overflow_cast-nodes c =
    let K = (goal.at.overflow_cast-nodes c).After-state_count in
    omega (arith, nodes K, few K)

pub slice_bounds-back-end : goal.slice_bounds-back-end
slice_bounds-back-end c = omega (arith, nodes (goal.at.slice_bounds-back-end c).After-state_count, work_room c.requires)

pub slice_bounds-back-end-2 : goal.slice_bounds-back-end-2
slice_bounds-back-end-2 c = simp length-take (omega (arith, nodes (goal.at.slice_bounds-back-end-2 c).After-state_count, work_room c.requires))

-- what is shown, in the words of the promise
module _ (n : After-show_by) where
  abbrev Kept : Result (Option ℕ) NoRoom → Type 0
  Kept r = GoalPromise n.args.policy.now n.args.goal.now (length n.args.work1.now) (length n.args.work2.now) n.args.path.now n.show_by.new.path (answer_of n.find_by-found.result.breach r)

  kept : (r : Result (Option ℕ) NoRoom) → n.show_by.result ≡ r → Kept r
  kept r q =
      let R = (passed_sizes n.requires).ready in
      let C = plan_counts R in
      let P = n.put_rules.ensures in
      subst Kept q
      (promised (searchable n.requires P.planned (work_room n.requires)) (same_model R C (goal_kept C (λ i h. P.below i (omega arith)) n.put_goal.ensures.goal) (all_ruled P) n.requires.legs)
      n.requires _ _ n.find_by-found.result.breach n.show_by.result n.find_by-found.ensures.0 n.show_by.ensures)

pub returns-in_err-shown : goal.returns-in_err-shown
returns-in_err-shown c =
    let p = err_from_is_err_and c.from_residual.result c.from_residual.ensures.1 in
    rw (p.1, p.2) (kept (goal.at.returns-in_err-shown c).After-show_by _ c.in_err-shown.was)

pub returns : goal.returns
returns c = rw c.outcome_of.ensures (kept (goal.at.returns c).After-show_by _ c.in_ok-shown.was)

pub find_by-found-requires : goal.find_by-found-requires
find_by-found-requires c = (
  searchable c.requires c.put_rules.ensures.planned (omega (arith, nodes (goal.at.find_by-found-requires c).After-state_count, work_room c.requires, simp length-take at c.clear.auto.back)),
  c.clear.ensures,
)

pub show_by-requires : goal.show_by-requires
show_by-requires c =
    let S = searchable c.requires c.put_rules.ensures.planned (work_room c.requires) in (
      record { given = S.given; first = omega (arith, S.first); second = omega (arith, nodes (goal.at.show_by-requires c).After-state_count, work_room c.requires, simp length-take at c.clear.auto.back, c.find_by-found.auto.work2) },
      record { bound = unbounded; found = c.find_by-found.ensures.0 },
      c.find_by-found.ensures.1,
    )
