use native.Mathlib.Omega.{arith}
use Rattle.context.proofs.TypeLaws.{own_place}
use Rattle.search_memory.proofs.StandLaws.{Around, at_place, stand, own_few, state_few, taken_up}
use Rattle.search_memory.proofs.turn.take_up.Goals as goal

pub at-x-requires : goal.at-x-requires
at-x-requires c = let p = c.requires in (p.0.sets.counts.countable, at_place _ (record { readable = p.0; states_are = c.states_in-states.ensures }) p.1)

pub bounds-spent-own : goal.bounds-spent-own
bounds-spent-own c = let p = c.requires in let S = stand _ (record { readable = p.0; states_are = c.states_in-states.ensures }) p.1 c.at-x.ensures in omega (arith, own_few p.0 S)

pub has_member-requires : goal.has_member-requires
has_member-requires c =
    let p = c.requires in let S = stand _ (record { readable = p.0; states_are = c.states_in-states.ensures }) p.1 c.at-x.ensures in state_few p.0 S

pub is_asked-requires : goal.is_asked-requires
is_asked-requires c =
    let p = c.requires in (p.0.sets, own_place p.0.sets.counts.countable (at_place _ (record { readable = p.0; states_are = c.states_in-states.ensures }) p.1) c.at-x.ensures)

pub returns : goal.returns
returns c =
    let p = c.requires in
    let R : Around _ _ _ = record { readable = p.0; states_are = c.states_in-states.ensures } in
    taken_up R (stand _ R p.1 c.at-x.ensures) c.keeps_of.ensures c.has_member.ensures c.is_asked.ensures
