use native.Mathlib.Omega.{arith}
use Rattle.search_graph.specs.declared.monitor.Mode.TheVariants.{Order, Events}
use Rattle.search.proofs.FoundLaws.{few_steps}
use Rattle.goal_answer.specs.declared.find.Breach.TheVariants as breach
use Rattle.goal_answer.proofs.FindLaws.{mapped, mapped_or, found_one, found_both}
use Rattle.goal_answer.proofs.find.find_by.Goals as goal

pub search-first-requires : goal.search-first-requires
search-first-requires c =
    let p = c.requires in
    rw c.with_mode-by_events.ensures (p.0.given Events, record { queue_room = p.0.first; back_room = p.0.second; fresh = p.1 })

pub returns-then-query-eq1 : goal.returns-then-query-eq1
returns-then-query-eq1 c =
    let found = c.search-first.result.found in
    let F = rw c.with_mode-by_events.ensures at c.search-first.ensures.0 in
    (rw (mapped breach.Events found c.map-events.result c.map-events.ensures.cases) (found_one c.requires.0.given _ _ found F c.if-query-eq1.true), c.search-first.ensures.1)

pub map_or-steps-requires : goal.map_or-steps-requires
map_or-steps-requires c = λ e q. let f = few_steps (c.requires.0.given Events) _ _ e (rw (c.with_mode-by_events.ensures, q) at c.search-first.ensures.0) in omega arith

pub search-second-requires : goal.search-second-requires
search-second-requires c =
    let p = c.requires.0 in
    rw c.with_mode-by_order.ensures (p.given Order, record { queue_room = omega (arith, p.first); back_room = omega (arith, p.second); fresh = c.undo.ensures })

pub returns : goal.returns
returns c =
    let found = c.search-first.result.found in
    let q = mapped_or c.args.bound found c.map_or-steps.result c.map_or-steps.ensures in
    let events = mapped breach.Events found c.map-events.result c.map-events.ensures.cases in
    let first = rw c.with_mode-by_events.ensures at c.search-first.ensures.0 in
    let second = rw c.with_mode-by_order.ensures at c.search-second.ensures.0 in
    let order = mapped breach.Order c.search-second.result.found c.map.result c.map.ensures.cases in
    (rw (c.or.ensures, order, events) (found_both c.requires.0.given _ _ found first q _ c.search-second.result.found second c.if-query-eq1.false), c.search-second.ensures.1)
