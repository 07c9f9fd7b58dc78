use mathlib.Core.Bool.{true, false}
use native.Mathlib.Omega.{arith}
use Rattle.search_steps.proofs.PairLaws.{asking_on, step_askable, step_plain, step_ways}
use borrow.Author.Tests.{not-true}
use Rattle.search_steps.proofs.pairs.step_word.Goals as goal

pub bounds-rules-entry : goal.bounds-rules-entry
bounds-rules-entry c = omega (arith, c.requires.0.size, c.requires.2.offering.within)

pub bounds-rules-entry-2 : goal.bounds-rules-entry-2
bounds-rules-entry-2 c =
    omega (arith, c.requires.0.size, c.requires.2.offering.within)

pub way_word-written-requires : goal.way_word-written-requires
way_word-written-requires c =
    (c.requires.0, step_askable true c.requires.0.sound c.requires.1 c.requires.2 c.requires.3)

pub way_word-read-requires : goal.way_word-read-requires
way_word-read-requires c =
    (asking_on c.requires.0 c.way_word-written.ensures.1, step_askable false c.requires.0.sound c.requires.1 c.requires.2 c.requires.3)

pub returns : goal.returns
returns c =
    (step_ways c.requires.2 _ c.has_bit-out.ensures c.has_bit-back.ensures c.way_word-written.ensures.0 c.way_word-read.ensures.0, c.way_word-read.ensures.1)

pub returns-then-not-sweep : goal.returns-then-not-sweep
returns-then-not-sweep c = (step_plain c.requires.2 _ (not-true c.args.sweep.special c.if-not-sweep.true), c.requires.0.before)
