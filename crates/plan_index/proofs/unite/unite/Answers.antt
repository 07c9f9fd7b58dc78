use mathlib.Core.Path.{◌≡◌, refl, subst}
use Prim.Native.Nat.{ℕ, ◌≤◌, ◌<◌}
use native.Mathlib.Omega.{arith}
use lib.ListN.{length, get_or, length-set}
use Rattle.sorting.specs.Inner.Entries.{code_in, Placed}
use Rattle.sorting.proofs.EntryLaws.{rising_at, codes_taken, placed_taken, mask_taken}
use Rattle.plan_index.specs.Inner.Codes.{items}
use Rattle.plan_index.proofs.UniteLaws.{united_none, united_more, united_all}
use Rattle.plan_index.proofs.unite.unite.Goals.{After-mask_of-read, In-loop-i}
use Rattle.plan_index.proofs.unite.unite.Invariants.{Passed}
use Rattle.plan_index.proofs.unite.unite.Goals as goal

item_few : (K : In-loop-i) → get_or K.args.order.now K.loop-i.i 0 < items
item_few K = omega (arith, K.requires.0, K.requires.1.below K.loop-i.i K.loop-i-test.true)

-- there is room for the entries, and at the place of the item's
module _ (K : In-loop-i) where
  room : (at : ℕ) → at ≤ K.loop-i.m → (at < length K.loop-i.keys) × (at < length K.loop-i.writes) × (at < length K.loop-i.reads)
  room at l =
      let v = K.loop-i.invariant in
      let R = K.requires.2 in
      let few : at < items = omega (arith, v.3.entries.few, K.loop-i-test.true, K.requires.0) in
      (omega (arith, few, v.0, R.keys_size), omega (arith, few, v.1, R.writes_size), omega (arith, few, v.2, R.reads_size))

placed : (K : After-mask_of-read) → Placed K.loop-i.keys K.loop-i.m (code_in K.args.codes.now (get_or K.args.order.now K.loop-i.i 0)) K.entry_for-at.result
placed K =
    let keys = (room (goal.at.After-mask_of-read K).In-loop-i K.loop-i.m (omega arith)).0 in
    placed_taken (omega arith) K.entry_for-at.ensures

at_room : (K : After-mask_of-read) → let L = K.loop-i in
    (K.entry_for-at.result < length L.keys) × (K.entry_for-at.result < length L.writes) × (K.entry_for-at.result < length L.reads)
at_room K = room (goal.at.After-mask_of-read K).In-loop-i K.entry_for-at.result (placed K).high

pub loop-i-init : goal.loop-i-init
loop-i-init c = (refl, refl, refl, united_none _ _ _ _ _ _)

pub overflow_cast-item : goal.overflow_cast-item
overflow_cast-item c = omega (arith, item_few (goal.at.overflow_cast-item c).In-loop-i)

pub offset_bounds-codes-item : goal.offset_bounds-codes-item
offset_bounds-codes-item c = omega (arith, item_few (goal.at.offset_bounds-codes-item c).In-loop-i)

pub bounds-codes-item : goal.bounds-codes-item
bounds-codes-item c = item_few (goal.at.bounds-codes-item c).In-loop-i

pub offset_bounds-masks-item : goal.offset_bounds-masks-item
offset_bounds-masks-item c = omega (arith, item_few (goal.at.offset_bounds-masks-item c).In-loop-i)

pub bounds-masks-item : goal.bounds-masks-item
bounds-masks-item c = omega (arith, item_few (goal.at.bounds-masks-item c).In-loop-i)

pub entry_for-at-requires : goal.entry_for-at-requires
entry_for-at-requires c = codes_taken (omega (arith, (room (goal.at.entry_for-at-requires c).In-loop-i c.loop-i.m (omega arith)).0)) (rising_at c.requires.1 c.loop-i.invariant.3.entries c.loop-i-test.true)

pub offset_bounds-keys-at : goal.offset_bounds-keys-at
offset_bounds-keys-at c = omega (arith, (at_room (goal.at.offset_bounds-keys-at c).After-mask_of-read).0)

pub bounds-keys-at : goal.bounds-keys-at
bounds-keys-at c = (at_room (goal.at.bounds-keys-at c).After-mask_of-read).0

pub offset_bounds-writes-at : goal.offset_bounds-writes-at
offset_bounds-writes-at c = omega (arith, (at_room (goal.at.offset_bounds-writes-at c).After-mask_of-read).0)

pub bounds-writes-at : goal.bounds-writes-at
bounds-writes-at c = (at_room (goal.at.bounds-writes-at c).After-mask_of-read).1

pub offset_bounds-reads-at : goal.offset_bounds-reads-at
offset_bounds-reads-at c = omega (arith, (at_room (goal.at.offset_bounds-reads-at c).After-mask_of-read).0)

pub bounds-reads-at : goal.bounds-reads-at
bounds-reads-at c = (at_room (goal.at.bounds-reads-at c).After-mask_of-read).2

pub overflow_add-m : goal.overflow_add-m
overflow_add-m c = omega (arith, (at_room (goal.at.overflow_add-m c).After-mask_of-read).0)

pub loop-i-preserved : goal.loop-i-preserved
loop-i-preserved c =
    let L = c.loop-i in
    let v = L.invariant in
    let at = c.entry_for-at.result in
    let K = (goal.at.loop-i-preserved c).After-mask_of-read in
    let room = at_room K in (
      simp length-set v.0,
      simp length-set v.1,
      simp length-set v.2,
      rw (c.mask_of-written.ensures, mask_taken L.writes L.m at, c.mask_of-read.ensures, mask_taken L.reads L.m at, c.on_side.ensures, c.on_side-in-loop-i.ensures)
          (united_more v.3 (placed K) room.0 room.1 room.2),
    )

pub shape_of-keys : goal.shape_of-keys
shape_of-keys c = c.loop-i.invariant.0

pub shape_of-writes : goal.shape_of-writes
shape_of-writes c = c.loop-i.invariant.1

pub shape_of-reads : goal.shape_of-reads
shape_of-reads c = c.loop-i.invariant.2

pub returns : goal.returns
returns c =
    let L = c.loop-i in
    let all : L.i ≡ c.args.n = omega arith in
    united_all c.requires.1
    (subst (λ (x : ℕ). Passed c.args.codes.now c.args.masks.now c.args.order.now x L.keys L.writes L.reads L.m) all L.invariant.3)
