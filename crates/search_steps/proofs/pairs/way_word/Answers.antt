use Rattle.search_steps.proofs.PairLaws.{way_none, way_some, asked_counted, like_askable}
use Rattle.search_steps.proofs.pairs.way_word.Goals as goal

pub returns-then-not-may : goal.returns-then-not-may
returns-then-not-may c = (way_none (c.if-not-may.true), c.requires.0.before)

pub like_event-requires : goal.like_event-requires
like_event-requires c = (c.requires.0.size, c.requires.1.event)

pub asked_word-requires : goal.asked_word-requires
asked_word-requires c =
    (c.requires.0.sound, c.requires.0.words, c.requires.0.marked, c.requires.0.before, like_askable c.requires.1 c.like_event.ensures)

pub rule_word-requires : goal.rule_word-requires
rule_word-requires c = (c.requires.0.size, c.requires.1)

pub returns : goal.returns
returns c =
    let A = c.requires.0 in (
      way_some (c.if-not-may.false) A.groups A.tables A.words A.sound.range.roles.high c.requires.1 c.like_event.ensures (asked_counted _ c.asked_word.ensures.0) c.rule_word.ensures,
      c.asked_word.ensures.1,
    )
