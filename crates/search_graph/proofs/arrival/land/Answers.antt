use native.Mathlib.Omega.{arith}
use Rattle.search_graph.proofs.ArrivalLaws.{node_room, land_broken, land_dropped, land_enter}
use Rattle.search_graph.proofs.arrival.land.Goals as goal

pub overflow_mul-result : goal.overflow_mul-result
overflow_mul-result c = omega (arith, node_room c.args.y c.states_in.ensures c.requires.0 c.requires.1 c.requires.2)

pub overflow_add-result : goal.overflow_add-result
overflow_add-result c = omega (arith, node_room c.args.y c.states_in.ensures c.requires.0 c.requires.1 c.requires.2)

pub returns-then-is_bad : goal.returns-then-is_bad
returns-then-is_bad c =
    land_broken c.args.y c.states_in.ensures c.has_bit.ensures c.if-has_bit.true c.is_bad.ensures c.if-is_bad.true

pub returns-then-has_bit : goal.returns-then-has_bit
returns-then-has_bit c =
    land_dropped c.has_bit.ensures c.if-has_bit.true c.is_bad.ensures c.if-is_bad.false

pub overflow_mul-result-2 : goal.overflow_mul-result-2
overflow_mul-result-2 c = omega (arith, node_room c.args.y c.states_in-2.ensures c.requires.0 c.requires.1 c.requires.2)

pub overflow_add-result-2 : goal.overflow_add-result-2
overflow_add-result-2 c = omega (arith, node_room c.args.y c.states_in-2.ensures c.requires.0 c.requires.1 c.requires.2)

pub returns : goal.returns
returns c =
    land_enter c.args.y c.states_in-2.ensures c.has_bit.ensures c.if-has_bit.false
