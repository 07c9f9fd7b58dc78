use native.Mathlib.Omega.{arith}
use mathlib.Core.Path.{◌∙◌, sym}
use Rattle.search_steps.proofs.NearestLaws.{all_closed, open_begin, open_more, open_stop, open_end}
use Rattle.search_steps.proofs.nearest.open_step.Goals as goal

pub returns-then-has_member : goal.returns-then-has_member
returns-then-has_member c =
    all_closed _ _ _ _ _ _ c.requires.0 c.requires.3 c.requires.4 c.if-a-eq-WHOLE.true c.has_member.ensures c.if-has_member.true

pub loop-q-init : goal.loop-q-init
loop-q-init c = open_begin (cc)

pub returns-then-below-step : goal.returns-then-below-step
returns-then-below-step c =
    let q = c.step_code-first.ensures in rw q (open_stop c.loop-q.invariant c.in-Some.ensures.steps c.requires.2 (rw q at c.if-from-step.true) (λ h. absurd (omega (arith, q, c.if-below-step.true))))

pub returns-then-not-is_closed : goal.returns-then-not-is_closed
returns-then-not-is_closed c =
    let q = c.step_code-first.ensures in rw q (open_stop c.loop-q.invariant c.in-Some.ensures.steps c.requires.2 (rw q at c.if-from-step.true) (λ _. sym (rw q at c.is_closed.ensures) ∙ c.if-not-is_closed.true))

pub returns : goal.returns
returns c =
    open_end c.in-None.ensures.steps.0 c.requires.3 c.requires.4 c.loop-q.invariant

pub loop-q-preserved : goal.loop-q-preserved
loop-q-preserved c =
    let q = c.step_code-first.ensures in
    open_more c.loop-q.invariant c.in-Some.ensures.steps (λ f. absurd (omega (arith, q, c.if-from-step.false)))
