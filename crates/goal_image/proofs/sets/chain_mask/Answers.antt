use mathlib.Core.Path.{sym, ap, ◌∙◌}
use native.Mathlib.Omega.{arith}
use Rattle.base.proofs.BitLaws.{bit_zero}
use Rattle.context.specs.Codes.{event_at}
use Rattle.goal_image.specs.declared.records.EventRecord.{EventRecord}
use Rattle.goal_image.specs.Layout.{event_record_of}
use Rattle.goal_image.specs.Sets.{matches_event}
use Rattle.goal_image.proofs.Along.{along_most, along_next}
use Rattle.goal_image.proofs.UnionLaws.{uniting_start, uniting_step, uniting_end}
use Rattle.goal_image.proofs.sets.chain_mask.Goals as goal

pub returns-then-not-is_event_chain : goal.returns-then-not-is_event_chain
returns-then-not-is_event_chain c =
    let t = c.is_event_chain in
    let n = sym t.ensures ∙ c.if-not-is_event_chain.true in
    record { at = λ q. rw n (bit_zero q) }

pub loop-i-init : goal.loop-i-init
loop-i-init c =
    let e = c.records_on-i-items.ensures in
    rw c.into_iter-i-iterator.ensures.into_iter_gives (e.0, uniting_start c.requires.0.chains c.requires.1 e.1)

pub event_at-requires : goal.event_at-requires
event_at-requires c =
    let n = c.in-Some.ensures.steps in
    (c.requires.0.exact, n.low, along_most c.args.goal.now c.loop-i.invariant.0 n)

pub loop-i-preserved : goal.loop-i-preserved
loop-i-preserved c =
    let n = c.in-Some.ensures.steps in
    let s = c.args.goal.now in
    let here = c.loop-i.invariant.0 in (
      n.goal ∙ here,
      uniting_step c.requires.0.chains c.requires.1 c.loop-i.invariant.1 (λ z. omega (arith, n.low, n.at, z)) c.class_mask-mask.result
          (λ q. c.class_mask-mask.ensures q ∙ ap (λ (r : EventRecord). matches_event r (event_at c.args.class q)) (c.event_at.ensures ∙ ap (event_record_of s) n.at))
          (along_next s here n),
    )

pub returns : goal.returns
returns c =
    let t = c.is_event_chain in
    let y = sym t.ensures ∙ c.if-not-is_event_chain.false in
    record { at = λ q. rw y (uniting_end c.requires.0.chains c.requires.1 c.loop-i.invariant.1 c.in-None.ensures.steps q) }
