-- The questions in order, then the answer.
use mathlib.Core.Path.{refl}
use Rattle.std.proofs.lemmas.Result.{err_from_is_err_and}
use Rattle.base.proofs.Decide.{yes_of, no_of}
use Rattle.least_steps.specs.LeastSteps.{BothInRange}
use Rattle.least_steps.proofs.AskedLaws.{policy_refused, accepted_ready, out_of_range_lem, too_short, all_passed}
use Rattle.least_steps.proofs.least_steps.Goals.{Else-not-in_range}
use Rattle.least_steps.proofs.least_steps.Goals as goal

pub returns-in_err-counts : goal.returns-in_err-counts
returns-in_err-counts c =
    let p = err_from_is_err_and c.from_residual.result c.from_residual.ensures.1 in
    rw (p.1, p.2) (policy_refused c.args.policy.now c.args.x c.args.y _ _ _ c.in_err-counts.ensures, refl)

pub returns-then-not-in_range : goal.returns-then-not-in_range
returns-then-not-in_range c =
    (out_of_range_lem c.args.policy.now c.args.x c.args.y _ _ c.in_ok-counts.ensures (no_of c.in_range.result c.in_range.ensures c.if-not-in_range.true), refl)

-- the answer to question 13 is yes
ranged : (E : Else-not-in_range) → BothInRange E.in_ok-counts.counts E.args.x E.args.y
ranged E = yes_of E.in_range.result E.in_range.ensures E.if-not-in_range.false

pub work_fits-requires : goal.work_fits-requires
work_fits-requires c = (accepted_ready c.args.policy.now c.args.x c.args.y 0 0 c.in_ok-counts.ensures).countable

pub returns-then-not-work_fits : goal.returns-then-not-work_fits
returns-then-not-work_fits c =
    (too_short c.args.policy.now c.args.x c.args.y _ _ c.in_ok-counts.ensures (ranged (goal.at.returns-then-not-work_fits c).Else-not-in_range) (no_of c.work_fits.result c.work_fits.ensures c.if-not-work_fits.true), refl)

pub answer-requires : goal.answer-requires
answer-requires c =
    all_passed c.args.policy.now c.args.x c.args.y _ _ c.in_ok-counts.ensures (ranged (goal.at.answer-requires c).Else-not-in_range) (yes_of c.work_fits.result c.work_fits.ensures c.if-not-work_fits.false)
