use native.Mathlib.Omega.{arith}
use lib.ListN.{length-set}
use Rattle.witness.proofs.StepLaws.{to_below, type_within, type_open}
use Rattle.witness.proofs.step.least_event.Goals as goal

pub at-y-requires : goal.at-y-requires
at-y-requires c =
    (c.requires.0.readable.sets.counts.countable, to_below c.requires.0 c.requires.1 c.states_in-states.ensures)

pub bounds-swept-other : goal.bounds-swept-other
bounds-swept-other c =
    omega (arith, type_within c.requires.0 c.requires.1 c.states_in-states.ensures c.at-y.ensures)

pub event_between-e-requires : goal.event_between-e-requires
event_between-e-requires c =
    (c.requires.0, c.requires.1, type_open c.requires.0 c.requires.1 c.states_in-states.ensures c.args.swept.now c.at-y.ensures c.requires.2)

pub bounds-swept-other-2 : goal.bounds-swept-other-2
bounds-swept-other-2 c =
    omega (arith, type_within c.requires.0 c.requires.1 c.states_in-states.ensures c.at-y.ensures)

pub returns : goal.returns
returns c = (c.event_between-e.ensures, simp length-set c.requires.2)
