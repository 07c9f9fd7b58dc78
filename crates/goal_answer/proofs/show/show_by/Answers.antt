use mathlib.Core.Path.{refl}
use Rattle.search_graph.specs.declared.monitor.Mode.TheVariants.{Order}
use Rattle.goal_answer.proofs.ShowLaws.{order_end, events_end}
use Rattle.goal_answer.proofs.show.show_by.Goals as goal

pub show_found-requires : goal.show_found-requires
show_found-requires c =
    let p = c.requires in
    rw c.with_mode-by_order.ensures (p.0.given Order, order_end p.1 c.in-Some.is c.in-Order.is, p.0.second)

pub show_events-requires : goal.show_events-requires
show_events-requires c = let p = c.requires in (p.0, events_end p.1 c.in-Some.is c.in-Events.is, p.2)

pub returns-in_default : goal.returns-in_default
returns-in_default c = rw c.in_default.is (refl, refl)

pub returns-in-Order : goal.returns-in-Order
returns-in-Order c = rw (c.in-Some.is, c.in-Order.is) (rw c.with_mode-by_order.ensures at c.show_found.ensures)

pub returns-in-Events : goal.returns-in-Events
returns-in-Events c = rw (c.in-Some.is, c.in-Events.is) c.show_events.ensures
