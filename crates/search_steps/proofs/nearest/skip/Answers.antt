use mathlib.Core.Path.{◌≡◌, subst}
use native.Mathlib.Omega.{arith}
use Rattle.search_steps.specs.Inner.Nearest.{Skipped}
use Rattle.search_steps.proofs.NearestLaws.{skip_begin, skip_more}
use Rattle.search_steps.proofs.nearest.skip.Goals as goal

pub loop-j-init : goal.loop-j-init
loop-j-init c = skip_begin _ _ _ _ c.requires.0

pub returns-then-class-plan : goal.returns-then-class-plan
returns-then-class-plan c = c.loop-j.invariant

pub loop-j-preserved : goal.loop-j-preserved
loop-j-preserved c = skip_more c.loop-j.invariant c.loop-j-test.true c.if-class-plan.false

pub returns : goal.returns
returns c =
    let e : c.loop-j.j ≡ c.args.stop = omega arith in
    subst (Skipped c.args.plan.now c.args.stop c.args.a c.args.class) e c.loop-j.invariant
