use mathlib.Core.Path.{refl, sym, ap}
use native.Mathlib.Omega.{arith}
use Rattle.std.specs.Prelude.{Some}
use Rattle.paths.specs.Inner.Least.{at}
use Rattle.search_graph.specs.declared.monitor.Mode.TheVariants.{Events}
use Rattle.goal_answer.proofs.ShowLaws.{as_far, shown_as}
use Rattle.goal_answer.proofs.show.show_events.Goals as goal

pub show_found-requires : goal.show_found-requires
show_found-requires c = let p = c.requires in rw c.with_mode-by_events.ensures (p.0.given Events, p.1.linked.1 c.if-query-eq1.true, p.0.second)

pub steps-m-requires : goal.steps-m-requires
steps-m-requires c = omega (arith, c.requires.1.linked.0)

pub returns-then-path-m : goal.returns-then-path-m
returns-then-path-m c = (ap at (sym c.steps-m.ensures), c.if-path-m.true, refl)

pub search-again-requires : goal.search-again-requires
search-again-requires c =
    let p = c.requires.0 in
    rw c.with_mode-by_events.ensures (p.given Events, record { queue_room = omega (arith, p.first); back_room = omega (arith, p.second); fresh = c.undo.ensures })

pub show_found-requires-2 : goal.show_found-requires-2
show_found-requires-2 c =
    let p = c.requires.0 in
    let q = c.with_mode-by_events.ensures in
    rw q (p.given Events, record { bound = _; found = rw q at c.search-again.ensures.0 }, omega (arith, p.second))

pub returns : goal.returns
returns c =
    let q = c.with_mode-by_events.ensures in
    let again = c.search-again.result.found in
    shown_as _ (Some c.args.end) again _ _ (as_far c.requires.1 c.steps-m.ensures _ again (rw q at c.search-again.ensures.0)) c.show_found-2.result (rw q at c.show_found-2.ensures)
