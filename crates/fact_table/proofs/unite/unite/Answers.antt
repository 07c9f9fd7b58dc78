use mathlib.Core.Path.{◌≡◌, refl, subst}
use Prim.Native.Nat.{ℕ, ◌<◌}
use native.Mathlib.Omega.{arith}
use lib.ListN.{get_or, length-set}
use Rattle.sorting.specs.Inner.Order.{items}
use Rattle.sorting.specs.Inner.Entries.{code_in, Placed}
use Rattle.sorting.proofs.EntryLaws.{rising_at, codes_taken, placed_taken, mask_taken}
use Rattle.fact_table.proofs.UniteLaws.{united_none, united_more, united_all}
use Rattle.fact_table.proofs.unite.unite.Invariants.{Passed}
use Rattle.fact_table.proofs.unite.unite.Goals as goal

pub loop-i-init : goal.loop-i-init
loop-i-init c = (refl, refl, united_none _ _ _ _)

pub entry_for-at-requires : goal.entry_for-at-requires
entry_for-at-requires c =
    let v = c.loop-i.invariant in
    codes_taken (omega (arith, v.0, v.2.entries.few, c.requires.0, c.requires.2)) (rising_at c.requires.1 v.2.entries c.loop-i-test.true)

pub loop-i-preserved : goal.loop-i-preserved
loop-i-preserved c =
    let L = c.loop-i in
    let v = L.invariant in
    let a = c.args in
    let P : Placed L.keys L.m (code_in a.codes.now (get_or a.order.now L.i 0)) c.entry_for-at.result = placed_taken (omega (arith, v.0, v.2.entries.few, c.requires.0, c.requires.2)) c.entry_for-at.ensures in
    -- there is room for the entry
    let few : c.entry_for-at.result < items = omega (arith, v.2.entries.few, P.high, c.loop-i-test.true, c.requires.0) in (
      simp length-set v.0,
      simp length-set v.1,
      rw (c.mask_of-united.ensures, mask_taken L.masks L.m c.entry_for-at.result)
          (united_more v.2 P (omega (arith, few, v.0, c.requires.2)) (omega (arith, few, v.1, c.requires.3))),
    )

pub returns : goal.returns
returns c =
    let L = c.loop-i in
    let a = c.args in
    let all : L.i ≡ a.n = omega arith in
    united_all c.requires.1 (subst (λ (x : ℕ). Passed a.codes.now a.given.now a.order.now x L.keys L.masks L.m) all L.invariant.2)
