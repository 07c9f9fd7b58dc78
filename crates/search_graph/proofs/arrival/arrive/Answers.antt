use Rattle.context.proofs.TypeLaws.{of_below}
use Rattle.search_graph.proofs.ArrivalLaws.{place_room, arriving}
use native.Mathlib.Omega.{arith}
use Rattle.search_graph.proofs.arrival.arrive.Goals as goal

pub sets_at-into-requires : goal.sets_at-into-requires
sets_at-into-requires c = (c.requires.0.sets.counts, c.requires.0.sets.falls, c.requires.0.sets.size, c.requires.1)

pub step_state-requires : goal.step_state-requires
step_state-requires c = (c.requires.0.some_leg, omega (arith, c.requires.0.few_legs))

pub land-requires : goal.land-requires
land-requires c = (c.requires.0.few_legs, place_room c.requires.0 (of_below c.requires.0.sets.counts.countable c.requires.1), c.step_state.ensures.small)

pub returns : goal.returns
returns c = arriving c.land.result c.requires.0.sets.counts (of_below c.requires.0.sets.counts.countable c.requires.1) c.sets_at-into.ensures c.step_state.ensures c.land.ensures
