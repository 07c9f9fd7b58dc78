use mathlib.Core.Path.{ap, ◌∙◌}
use borrow.Author.Rules.{rules}
use lib.ListN.{length}
use Rattle.chains.proofs.ShapeLaws.{next_of, count_of}
use Rattle.policy_image.proofs.LayoutLaws.{payload_length, record_whole}
use Rattle.policy_image.proofs.records.record_at.Goals as goal

pub next_at-next-requires : goal.next_at-next-requires
next_at-next-requires c = search (rules, count_of c.policy_shape.ensures)

pub decode-requires : goal.decode-requires
decode-requires c = ap length c.payload.ensures ∙ payload_length _ _ c.requires.0 c.requires.1 c.requires.2

pub returns : goal.returns
returns c =
    let next = c.next_at-next.ensures ∙ next_of c.policy_shape.ensures _ in
    record { same = c.decode.ensures.0 ∙ record_whole _ _ _ _ next c.payload.ensures; bytes = c.decode.ensures.1 }
