use mathlib.Core.Path.{ap}
use mathlib.Core.Bool.{not}
use Rattle.plan.proofs.NamedLaws.{names_yes, named_of, links_other, links_event, links_more}
use native.Mathlib.Omega.{arith}
use Rattle.plan.proofs.named.link.Goals as goal

pub returns-then-marks-eq0 : goal.returns-then-marks-eq0
returns-then-marks-eq0 c = links_event c.requires.4 c.record_sets-marks.ensures c.if-marks-eq0.true

pub returns-then-not-names_both : goal.returns-then-not-names_both
returns-then-not-names_both c = links_other c.requires.4 c.names_both.result c.context_at-r.ensures c.names_both.ensures (ap not c.if-not-names_both.true)

pub returns : goal.returns
returns c =
    let B = names_yes c.names_both.result c.names_both.ensures (ap not c.if-not-names_both.false) in
    let M = c.record_sets-marks.ensures in
    let R = c.context_at-r.ensures in
    links_more c.requires.4 (named_of R B c.requires.1 c.requires.2 M c.if-marks-eq0.false) M R (omega (arith, c.requires.2, c.requires.0.exact.few)) c.new.ensures c.put_record.ensures
