use native.Mathlib.Omega.{arith}
use Rattle.plan.proofs.ContextLaws.{plan_counts}
use Rattle.plan.proofs.PlanLaws.{policy_plan}
use Rattle.plan.proofs.make.make_plan.Goals as goal

pub put_tables-requires : goal.put_tables-requires
put_tables-requires c = (c.requires.0.sound, c.requires.1)

pub put_groups-requires : goal.put_groups-requires
put_groups-requires c = (c.requires.0.sound, omega (arith, c.requires.1))

pub put_held-requires : goal.put_held-requires
put_held-requires c =
    (c.requires.0.sound, plan_counts c.requires.0, omega (arith, c.requires.1))

pub returns : goal.returns
returns c =
    policy_plan c.requires.0 c.put_tables.ensures c.put_groups.ensures c.put_held.ensures
