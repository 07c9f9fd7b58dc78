-- The goals drawn by hand on which each misreading of the path definitions would answer otherwise: proofs/Cases.antt says which, and
-- what the definitions answer. Contexts are 0, 1, 2 .., events are 7 and 8. A drawing: how many contexts there are; the steps that
-- flow allows; σ0 to σn; legs 0 to n − 1. `once` is a one-step leg, `again` a repeated one. The first, self_release, has contexts 0 to 3;
-- steps from 0 to 1, to 2, to 3, each by event 7; σ0 {0}, σ1 {1}, σ2 {1, 2}, σ3 {3}; and three one-step legs by event 7. It has one
-- path: 0, 1, 2, 3.
use Rattle.std.specs.Prelude.{List, [], ◌∷◌}
use Rattle.paths.specs.Cases.Drawn.{Step, ◌by◌to◌, once, again, Drawn, drawn, only}

-- lines of one, two and three steps
abbrev pub one : List Step
one = (0 by 7 to 1) ∷ []

abbrev pub two : List Step
two = (0 by 7 to 1) ∷ (1 by 7 to 2) ∷ []

abbrev pub three : List Step
three = (0 by 7 to 1) ∷ (1 by 7 to 2) ∷ (2 by 7 to 3) ∷ []

abbrev pub self_release : Drawn
self_release =
    drawn 4
    three
    (only 0 ∷ only 1 ∷ (1 ∷ 2 ∷ []) ∷ only 3 ∷ [])
    (once (only 7) ∷ once (only 7) ∷ once (only 7) ∷ [])

abbrev pub start_in_first : Drawn
start_in_first =
    drawn 3
    two
    (only 0 ∷ (0 ∷ 1 ∷ []) ∷ only 2 ∷ [])
    (once (only 7) ∷ once (only 7) ∷ [])

abbrev pub one_leg : Drawn
one_leg =
    drawn 1
    []
    (only 0 ∷ only 0 ∷ [])
    (once (only 7) ∷ [])

abbrev pub start_too_early : Drawn
start_too_early =
    drawn 4
    three
    (only 0 ∷ only 1 ∷ (0 ∷ 2 ∷ []) ∷ only 3 ∷ [])
    (once (only 7) ∷ once (only 7) ∷ once (only 7) ∷ [])

abbrev pub mid_too_early : Drawn
mid_too_early =
    drawn 5
    ((0 by 7 to 1) ∷ (1 by 7 to 2) ∷ (2 by 7 to 3) ∷ (3 by 7 to 4) ∷ [])
    (only 0 ∷ only 2 ∷ (1 ∷ 3 ∷ []) ∷ only 4 ∷ [])
    (again (only 7) ∷ once (only 7) ∷ once (only 7) ∷ [])

abbrev pub highest_alone : Drawn
highest_alone =
    drawn 4
    ((0 by 7 to 1) ∷ (1 by 7 to 2) ∷ (2 by 8 to 3) ∷ [])
    (only 0 ∷ (1 ∷ 2 ∷ []) ∷ only 3 ∷ [])
    (again (only 7) ∷ once (only 8) ∷ [])

abbrev pub lowest_alone : Drawn
lowest_alone =
    drawn 3
    ((0 by 7 to 1) ∷ (1 by 8 to 2) ∷ [])
    (only 0 ∷ only 1 ∷ only 2 ∷ [])
    (again (only 7) ∷ once (only 8) ∷ [])

abbrev pub one_step_stays : Drawn
one_step_stays =
    drawn 3
    two
    (only 0 ∷ only 2 ∷ [])
    (once (only 7) ∷ [])

abbrev pub repeated_stays : Drawn
repeated_stays =
    drawn 3
    two
    (only 0 ∷ only 2 ∷ [])
    (again (only 7) ∷ [])

abbrev pub no_step : Drawn
no_step =
    drawn 2
    one
    (only 0 ∷ only 0 ∷ only 1 ∷ [])
    (again (only 7) ∷ once (only 7) ∷ [])

abbrev pub middle_event : Drawn
middle_event =
    drawn 4
    ((0 by 7 to 1) ∷ (1 by 8 to 2) ∷ (2 by 7 to 3) ∷ [])
    (only 0 ∷ only 3 ∷ [])
    (again (only 7) ∷ [])

abbrev pub wrong_place : Drawn
wrong_place =
    drawn 3
    ((0 by 7 to 1) ∷ (1 by 8 to 2) ∷ [])
    (only 0 ∷ only 0 ∷ only 2 ∷ [])
    (once (only 7) ∷ once (only 8) ∷ [])

abbrev pub bad : Drawn
bad =
    drawn 2
    one
    (only 0 ∷ only 1 ∷ [])
    (once (only 8) ∷ [])

abbrev pub end_goes_on : Drawn
end_goes_on =
    drawn 3
    ((0 by 7 to 1) ∷ (1 by 8 to 2) ∷ [])
    (only 0 ∷ (1 ∷ 2 ∷ []) ∷ [])
    (once (only 7) ∷ [])

abbrev pub out_of_range : Drawn
out_of_range =
    drawn 1
    one
    (only 0 ∷ only 1 ∷ [])
    (once (only 8) ∷ [])

abbrev pub met_twice : Drawn
met_twice =
    drawn 2
    ((0 by 7 to 0) ∷ (0 by 7 to 1) ∷ [])
    (only 0 ∷ only 1 ∷ [])
    (once (only 7) ∷ [])

abbrev pub tie : Drawn
tie =
    drawn 2
    one
    (only 0 ∷ [] ∷ only 1 ∷ [])
    (once (only 7) ∷ once (only 7) ∷ [])

abbrev pub fewest : Drawn
fewest =
    drawn 5
    ((0 by 7 to 1) ∷ (2 by 7 to 3) ∷ (3 by 7 to 4) ∷ [])
    ((0 ∷ 2 ∷ []) ∷ only 0 ∷ (1 ∷ 4 ∷ []) ∷ [])
    (once (only 7) ∷ once (only 7) ∷ [])

abbrev pub past_the_end : Drawn
past_the_end =
    drawn 3
    ((0 by 7 to 1) ∷ (1 by 8 to 2) ∷ [])
    (only 0 ∷ only 1 ∷ (1 ∷ 2 ∷ []) ∷ [])
    (once (only 7) ∷ once (only 8) ∷ [])
