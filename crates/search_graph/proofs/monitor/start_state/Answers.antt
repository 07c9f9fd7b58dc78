use Rattle.search_graph.proofs.WatchLaws.{start_order, start_events, start_any}
use Rattle.search_graph.proofs.monitor.start_state.Goals as goal

pub returns-in-Order : goal.returns-in-Order
returns-in-Order c = rw c.in-Order.is (start_order c.requires.0 c.track.ensures)

pub returns-in-Events : goal.returns-in-Events
returns-in-Events c = rw c.in-Events.is start_events

pub returns-in-Any : goal.returns-in-Any
returns-in-Any c = rw c.in-Any.is start_any
