use mathlib.Core.Path.{◌≡◌, refl, sym, ◌∙◌, ap}
use mathlib.Core.Bool.{Bool}
use native.Mathlib.Omega.{arith}
use Rattle.plan_index.specs.Inner.Counting.{is_counted}
use Rattle.plan_index.proofs.ExtractLaws.{extract_start, extract_kind, extract_room, few_classes, extract_pass, extract_write, extract_end}
use Rattle.plan_index.proofs.extract.extract.Goals.{After-is_counted}
use Rattle.plan_index.proofs.extract.extract.Goals as goal

-- whether the record counts, by its number
kept : (K : After-is_counted) {b : Bool} → K.is_counted.result ≡ b → is_counted K.args.counted.now K.loop-i.i-iterator.records.next ≡ b
kept K e = ap (is_counted K.args.counted.now) (sym K.in-Some.ensures.steps.0) ∙ sym K.is_counted.ensures ∙ e

pub loop-i-init : goal.loop-i-init
loop-i-init c = (
  refl,
  refl,
  extract_start c.args.policy.now c.requires.0 _ _ _ _
      (rw (c.into_iter-i-iterator.ensures.into_iter_gives, c.numbered-i-items.ensures) c.records_of.ensures),
)

pub is_counted-requires : goal.is_counted-requires
is_counted-requires c =
    let o = extract_kind c.args.policy.now c.requires.0 (is_counted c.args.counted.now) _ _ _ _ c.loop-i.invariant.2 c.in-Some.ensures.steps.1 in
    omega (arith, c.in-Some.ensures.steps.0, o.high, c.requires.0.exact.few)

pub put_items-requires : goal.put_items-requires
put_items-requires c =
    let v = c.loop-i.invariant in
    let g = c.in-Some.ensures.steps.1 in
    let more = extract_room c.args.policy.now c.requires.0 _ _ _ _ _ v.2 g in
    (g.read.bytes, few_classes c.args.policy.now c.requires.0 _ _ _ _ _ v.2 g, omega (arith, more, v.0, c.requires.2), omega (arith, more, v.1, c.requires.3))

pub overflow_add-n : goal.overflow_add-n
overflow_add-n c = omega (arith, extract_room c.args.policy.now c.requires.0 _ _ _ _ _ c.loop-i.invariant.2 c.in-Some.ensures.steps.1)

pub loop-i-preserved-then-is_counted : goal.loop-i-preserved-then-is_counted
loop-i-preserved-then-is_counted c =
    let v = c.loop-i.invariant in (
      c.codes-1.given ∙ v.0,
      c.masks-1.given ∙ v.1,
      extract_write c.args.policy.now c.requires.0 _ _ _ _ _ v.2 c.in-Some.ensures.steps.1
          (kept (goal.at.loop-i-preserved-then-is_counted c).After-is_counted c.if-is_counted.true) _ _ c.put_items.ensures,
    )

pub loop-i-preserved : goal.loop-i-preserved
loop-i-preserved c =
    let v = c.loop-i.invariant in (
      v.0,
      v.1,
      extract_pass c.args.policy.now c.requires.0 _ _ _ _ _ v.2 c.in-Some.ensures.steps.1
          (kept (goal.at.loop-i-preserved c).After-is_counted c.if-is_counted.false),
    )

pub overflow_mul-result : goal.overflow_mul-result
overflow_mul-result c = omega (arith, c.loop-i.invariant.2.few, c.requires.0.exact.few)

pub shape_of-codes : goal.shape_of-codes
shape_of-codes c = c.loop-i.invariant.0

pub shape_of-masks : goal.shape_of-masks
shape_of-masks c = c.loop-i.invariant.1

pub returns : goal.returns
returns c =
    extract_end c.args.policy.now c.requires.0 _ c.args.perms.now c.requires.1 _ _ _ c.loop-i.invariant.2 c.in-None.ensures.steps
