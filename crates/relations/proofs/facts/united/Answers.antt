use Rattle.std.proofs.Common.{sym, ◌∙◌}
use Rattle.relations.proofs.Uniting.{uniting_start, uniting_pass, uniting_join, uniting_end}
use Rattle.relations.proofs.facts.united.Goals as goal

pub loop-r-init : goal.loop-r-init
loop-r-init c =
    uniting_start c.args.policy.now c.requires c.args.f
    (rw c.into_iter-r-iterator.ensures.into_iter_gives c.records_of-r-items.ensures)

pub loop-r-preserved-then-is_stated : goal.loop-r-preserved-then-is_stated
loop-r-preserved-then-is_stated c =
    uniting_join c.args.policy.now c.requires c.args.f c.loop-r.mask c.loop-r.invariant c.in-Some.ensures.steps
    (sym c.is_stated.ensures ∙ c.if-is_stated.true)

pub loop-r-preserved : goal.loop-r-preserved
loop-r-preserved c =
    uniting_pass c.args.policy.now c.requires c.args.f c.loop-r.mask c.loop-r.invariant c.in-Some.ensures.steps
    (sym c.is_stated.ensures ∙ c.if-is_stated.false)

pub returns : goal.returns
returns c =
    uniting_end c.args.policy.now c.requires c.args.f c.loop-r.mask c.loop-r.invariant c.in-None.ensures.steps
