use mathlib.Core.Path.{subst}
use Prim.Native.Nat.{ℕ, ◌/◌, ◌^◌}
use Rattle.paths.specs.Inner.Stages.{Advanced}
use Rattle.search_graph.proofs.WatchLaws.{step_order, step_advanced}
use Rattle.search_graph.proofs.monitor.step_state.Goals as goal

pub returns-in-Order : goal.returns-in-Order
returns-in-Order c = rw c.in-Order.is (step_order c.requires.0 c.track.ensures)

pub returns : goal.returns
returns c =
    step_advanced c.args.task.mode c.in_default.not-Order
    (subst (λ (k : ℕ). Advanced k c.args.task.legs.repeated (c.args.by / 2 ^ 7) c.args.into c.args.task.legs.count c.advance.result) c.stages_from.ensures c.advance.ensures)
