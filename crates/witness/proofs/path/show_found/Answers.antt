use Prim.Native.Nat.{ℕ, ◌+◌}
use mathlib.Core.Path.{◌≡◌, refl, sym, ap, subst, ◌∙◌}
use native.Mathlib.Omega.{arith}
use Rattle.paths.specs.Inner.Least.{at}
use Rattle.search_graph.specs.Inner.Tasks.{model_by}
use Rattle.search.specs.Inner.Found.{steps_to, reached_by}
use Rattle.search.proofs.FoundLaws.{few_steps}
use Rattle.witness.specs.Inner.Shown.{ShownPath}
use Rattle.witness.proofs.PathLaws.{end_found, start_found, step_found, shown_start}
use Rattle.witness.proofs.path.show_found.Goals as goal

pub steps-m-requires : goal.steps-m-requires
steps-m-requires c = let f = few_steps c.requires.0 _ _ _ (end_found c.requires.1 c.in-Some.is) in omega arith

pub returns-then-path-m : goal.returns-then-path-m
returns-then-path-m c = (ap reached_by c.in-Some.is ∙ ap at (sym c.steps-m.ensures), c.if-path-m.true, refl)

pub returns-in-Start : goal.returns-in-Start
returns-in-Start c =
    let p = c.in-Some.is in
    let q = c.in-Start.is in
    let m = c.steps-m.ensures in
    (ap reached_by p ∙ ap at (sym m), rw (m ∙ ap steps_to q) (shown_start _ c.args.query.task.mode c.args.path.now c.requires.0.readable.some_leg (omega (arith, c.if-path-m.false)) (start_found c.requires.1 p q)))

pub write_path-requires : goal.write_path-requires
write_path-requires c =
    let m : c.steps-m.result ≡ c.in-Step.last.depth + 1 = c.steps-m.ensures ∙ ap steps_to c.in-Step.is ∙ omega arith in
    (c.requires.0, step_found c.requires.1 c.in-Some.is c.in-Step.is, c.requires.2, omega (arith, c.if-path-m.false))

pub returns-in-Step : goal.returns-in-Step
returns-in-Step c =
    let m = c.steps-m.ensures in
    let M = model_by c.args.query.policy.now c.args.query.plan.now c.args.query.task in
    let k : c.in-Step.last.depth + 1 ≡ c.steps-m.result = omega (arith, m ∙ ap steps_to c.in-Step.is) in
    (ap reached_by c.in-Some.is ∙ ap at (sym m), subst (λ (i : ℕ). ShownPath M c.args.query.task.mode i c.args.path.now c.write_path.new.path) k c.write_path.ensures)
