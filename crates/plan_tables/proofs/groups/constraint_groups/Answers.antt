use mathlib.Core.Path.{sym, ◌∙◌}
use native.Mathlib.Omega.{arith}
use Rattle.plan_tables.proofs.GroupLaws.{grouping_start, few, grouping_step, grouping_end}
use Rattle.plan_tables.proofs.groups.constraint_groups.Goals as goal

pub loop-r-init : goal.loop-r-init
loop-r-init c =
    grouping_start c.args.policy.now c.requires (rw c.into_iter-r-iterator.ensures.into_iter_gives c.records_of-r-items.ensures)

pub tell_apart-requires : goal.tell_apart-requires
tell_apart-requires c =
    (few c.args.policy.now c.requires c.loop-r.invariant c.in-Some.ensures.steps, let g = c.loop-r.invariant.size in omega arith)

pub loop-r-preserved : goal.loop-r-preserved
loop-r-preserved c =
    grouping_step c.args.policy.now c.requires c.loop-r.invariant c.in-Some.ensures.steps _
    (c.groups-in-loop-r-1.given ∙ sym c.loop-r.invariant.size) c.tell_apart.ensures

pub returns : goal.returns
returns c = grouping_end c.args.policy.now c.requires c.loop-r.invariant c.in-None.ensures.steps
