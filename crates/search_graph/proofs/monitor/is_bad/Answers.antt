use Rattle.search_graph.proofs.WatchLaws.{judge_order, judge_events, judge_any}
use Rattle.search_graph.proofs.monitor.is_bad.Goals as goal

pub returns-in-Order : goal.returns-in-Order
returns-in-Order c = rw c.in-Order.is (judge_order c.has_bit.ensures)

pub returns-in-Events : goal.returns-in-Events
returns-in-Events c = rw c.in-Events.is (judge_events c.has_bit-in-Events.ensures)

pub returns-in-Any : goal.returns-in-Any
returns-in-Any c = rw c.in-Any.is judge_any
