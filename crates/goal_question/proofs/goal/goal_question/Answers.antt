-- The questions in order, then the answer.
use Prim.Native.Nat.{ℕ, ◌*◌, ◌^◌, ◌≤◌, ◌<◌}
use mathlib.Core.List.{List}
use mathlib.Core.Path.{refl}
use Rattle.std.specs.Prelude.{Ok}
use Rattle.std.proofs.lemmas.Result.{err_from_is_err_and}
use Rattle.base.proofs.Decide.{yes_of, no_of}
use Rattle.policy_image.specs.declared.counts.Counts.{Counts}
use Rattle.policy_check.specs.Inner.Answer.{PolicyAnswer}
use Rattle.context.specs.Inner.Places.{Countable, context_count}
use Rattle.goal_image.specs.declared.check.Legs.{Legs}
use Rattle.search_graph.specs.Inner.Tasks.{state_count}
use Rattle.search_graph.proofs.GivenLaws.{few_nodes}
use Rattle.goal_image.specs.Inner.Answer.{GoalAnswer}
use Rattle.goal_question.proofs.AskedLaws.{policy_refused, goal_refused, asked_sizes, first_short, second_short, all_passed}
use Rattle.goal_question.proofs.goal.goal_question.Goals.{In_ok-legs, then-not-work_fits-via-then-not-work_fits, then-not-work_fits-via-else-not-work_fits+then-not-work_fits-2}
use Rattle.goal_question.proofs.goal.goal_question.Goals as goal

pub returns-in_err-counts : goal.returns-in_err-counts
returns-in_err-counts c =
    let p = err_from_is_err_and c.from_residual.result c.from_residual.ensures.1 in
    rw (p.1, p.2) (policy_refused c.args.policy.now c.args.goal.now _ _ _ c.in_err-counts.ensures, refl)

pub returns-in_err-legs : goal.returns-in_err-legs
returns-in_err-legs c =
    let p = err_from_is_err_and c.from_residual-in_err-legs.result c.from_residual-in_err-legs.ensures.1 in
    rw (p.1, p.2) (goal_refused c.args.policy.now c.args.goal.now _ _ c.in_ok-counts.ensures _ c.in_err-legs.ensures, refl)

-- what is known where both images are accepted
module _ (K : In_ok-legs) where
  abbrev s : List ℕ
  s = K.args.policy.now

  abbrev g : List ℕ
  g = K.args.goal.now

  abbrev counts : Counts
  counts = K.in_ok-counts.counts

  abbrev legs : Legs
  legs = K.in_ok-legs.legs

  policy_answer : PolicyAnswer s (Ok counts)
  policy_answer = K.in_ok-counts.ensures

  goal_answer : GoalAnswer counts g (Ok legs)
  goal_answer = K.in_ok-legs.ensures

  -- what work_fits asks for
  asked : Countable counts × (legs.count ≤ 6) × (context_count counts * state_count legs.count < 2 ^ 26)
  asked =
      let Z = asked_sizes s g 0 0 policy_answer goal_answer in
      (Z.ready.countable, Z.few_legs, few_nodes Z.ready legs.count Z.few_legs)

pub work_fits-requires : goal.work_fits-requires
work_fits-requires c = asked (goal.at.work_fits-requires c).In_ok-legs

pub work_fits-requires-else-not-work_fits : goal.work_fits-requires-else-not-work_fits
work_fits-requires-else-not-work_fits c = asked (goal.at.work_fits-requires-else-not-work_fits c).In_ok-legs

pub returns-then-not-work_fits : goal.returns-then-not-work_fits
returns-then-not-work_fits c =
    let K = (goal.at.returns-then-not-work_fits c).In_ok-legs in (
      elim c.then-not-work_fits.branch [
        | then-not-work_fits-via-then-not-work_fits w ↦ first_short (s K) (g K) _ _ (policy_answer K) (goal_answer K) (no_of c.work_fits.result c.work_fits.ensures w.if-not-work_fits.true)
        | then-not-work_fits-via-else-not-work_fits+then-not-work_fits-2 w ↦ second_short (s K) (g K) _ _ (policy_answer K) (goal_answer K)
            (no_of w.work_fits-else-not-work_fits.result w.work_fits-else-not-work_fits.ensures w.if-not-work_fits-2.true)
      ],
      refl,
    )

pub answer-requires : goal.answer-requires
answer-requires c =
    let K = (goal.at.answer-requires c).In_ok-legs in
    all_passed (s K) (g K) _ _ (policy_answer K) (goal_answer K)
    (yes_of c.work_fits.result c.work_fits.ensures c.if-not-work_fits.false) (yes_of c.work_fits-else-not-work_fits.result c.work_fits-else-not-work_fits.ensures c.if-not-work_fits-2.false)
