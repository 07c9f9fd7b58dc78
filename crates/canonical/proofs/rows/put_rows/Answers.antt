use Prim.Native.Nat.{ℕ, ◌+◌, ◌-◌, ◌≤◌}
use mathlib.Core.Path.{◌≡◌, refl, sym, ap, ap₂, subst, ◌∙◌}
use native.Mathlib.Omega.{arith}
use lib.ListN.{length, get_or}
use Rattle.base.proofs.FillLaws.{fill_begin, fill_end}
use Rattle.policy_image.specs.Inner.Sizes.{size_of}
use Rattle.policy_image.specs.Inner.Writable.{WritableRecord}
use Rattle.policy_image.proofs.SizeLaws.{size_none, start_room}
use Rattle.policy_lists.specs.Lists.{with_next}
use Rattle.policy_lists.specs.Inner.Places.{next_upto}
use Rattle.policy_facts.specs.Inner.FactTable.{kind_in, table_record}
use Rattle.canonical.specs.Inner.Rows.{fact_row, RowsFit}
use Rattle.canonical.proofs.RowLaws.{row_more}
use Rattle.canonical.proofs.rows.put_rows.Goals.{After-with_next}
use Rattle.canonical.proofs.rows.put_rows.Goals as goal

-- what is known where row i + 1 has been made, and is linked
module _ (W : After-with_next) where
  abbrev fits : RowsFit W.args.keys.now W.args.masks.now W.args.ends.now W.args.m (length W.args.output.now)
  fits = W.requires

  same : W.with_next.result ≡ fact_row W.args.keys.now W.args.masks.now W.args.ends.now (W.loop-i.i + 1)
  same =
      let i : W.loop-i.i ≡ W.loop-i.i + 1 - 1 = omega arith in
      W.with_next.ensures
      ∙ ap₂ with_next
      (W.next_upto.ensures ∙ ap (λ (k : ℕ). next_upto (get_or W.args.ends.now k 0) (W.loop-i.i + 1)) (W.kind_in.ensures ∙ ap (λ (x : ℕ). kind_in (get_or W.args.keys.now x 0)) i))
      (W.record_of-row.ensures ∙ ap (λ (x : ℕ). table_record (get_or W.args.keys.now x 0) (get_or W.args.masks.now x 0)) i)

pub loop-i-init : goal.loop-i-init
loop-i-init c = (refl, fill_end (fill_begin _ _ _ 0) (sym size_none))

pub bounds-ends-kind_in : goal.bounds-ends-kind_in
bounds-ends-kind_in c =
    let w = c.requires.kinds c.loop-i.i c.loop-i-test.true in
    omega (arith, c.kind_in.ensures, w.high)

pub next_upto-requires : goal.next_upto-requires
next_upto-requires c =
    omega (arith, c.loop-i-test.true, c.requires.few)

pub put_record-requires : goal.put_record-requires
put_record-requires c =
    let K = (goal.at.put_record-requires c).After-with_next in (
      record { low = omega arith; high = omega (arith, (fits K).few, c.loop-i-test.true) },
      start_room (omega arith) (let n : c.loop-i.i + 1 ≤ c.args.m = omega (arith, c.loop-i-test.true) in n) (omega (arith, (fits K).room, c.loop-i.invariant.0)),
      subst WritableRecord (sym (same K)) ((fits K).writable (c.loop-i.i + 1) (omega arith) (omega (arith, c.loop-i-test.true))),
    )

pub returns : goal.returns
returns c =
    let l = c.loop-i in
    fill_end l.invariant.1 (ap size_of (let n : l.i ≡ c.args.m = omega arith in n))

pub shape_of-output : goal.shape_of-output
shape_of-output c = c.loop-i.invariant.0

pub loop-i-preserved : goal.loop-i-preserved
loop-i-preserved c = (
  c.put_record.auto.out ∙ c.loop-i.invariant.0,
  row_more (fact_row c.args.keys.now c.args.masks.now c.args.ends.now) c.args.m c.loop-i.i
      (omega (arith, c.loop-i-test.true)) c.with_next.result (same (goal.at.loop-i-preserved c).After-with_next) c.loop-i.invariant.1
      c.put_record.ensures,
)
