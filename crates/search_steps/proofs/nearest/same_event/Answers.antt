use Rattle.search_steps.proofs.NearestLaws.{pass_begin, pass_stop, pass_end, pass_class}
use mathlib.Core.Path.{sym, ◌∙◌}
use Rattle.search_steps.proofs.nearest.same_event.Goals as goal

pub loop-j-init : goal.loop-j-init
loop-j-init c = pass_begin c.args.swept.now c.args.a c.requires.0 c.requires.1 c.requires.2

pub returns-then-key-step : goal.returns-then-key-step
returns-then-key-step c = pass_class c.loop-j.invariant c.loop-j-test.true c.if-key-step.true

pub returns-then-not-is_closed : goal.returns-then-not-is_closed
returns-then-not-is_closed c =
    pass_stop c.loop-j.invariant c.loop-j-test.true c.if-key-step.false (sym c.has_bit.ensures ∙ c.if-has_bit.true) (sym c.is_closed.ensures ∙ c.if-not-is_closed.true)

pub returns : goal.returns
returns c = pass_end c.loop-j.invariant c.loop-j-test.false
