use mathlib.Core.Path.{◌≡◌, refl, sym, ◌∙◌}
use mathlib.Core.Bool.{true, false}
use Prim.Native.Nat.{ℕ, ◌+◌, ◌<◌}
use native.Mathlib.Omega.{arith}
use borrow.Author.Tests.{ltb-true, eqb-true, lt-ltb, eq-eqb}
use lib.Dec.{eqb, ltb}
use lib.ListN.{length, length-set}
use Rattle.base.proofs.BoolLaws.{clash, and_true, and_first, and_second}
use Rattle.plan_index.specs.Inner.Split.{own_of, Splittable}
use Rattle.plan_index.proofs.SplitLaws.{Splitting, split_begin, split_entry, split_type, split_end}
use Rattle.plan_index.proofs.split.split.Goals.{After-is_in_block}
use Rattle.plan_index.proofs.split.split.Goals as goal

-- what is known where entry j has been looked at
module _ (K : After-is_in_block) where
  abbrev types : ℕ
  types = K.args.types

  abbrev m : ℕ
  m = K.args.m

  abbrev t : ℕ
  t = K.loop-t.t

  abbrev j : ℕ
  j = K.loop-t.j

  abbrev given : Splittable types m K.args.first.now K.args.keys.now
  given = K.requires

  abbrev at_hand : Splitting types m K.args.keys.now K.loop-t.first K.loop-t.keys t j
  at_hand = K.loop-t.invariant.2

  first_room : t + 1 < length K.loop-t.first
  first_room = omega (arith, K.loop-t.invariant.0, length-set K.args.first.now 1 0, given.starts, K.loop-t-test.true)

  keys_room : j < m → j < length K.loop-t.keys
  keys_room l = omega (arith, K.loop-t.invariant.1, given.few)

  same : own_of K.loop-t.keys j ≡ own_of K.args.keys.now j
  same = omega (arith, at_hand.left j (omega arith))

  in_block : K.is_in_block.result ≡ true → (j < m) × (own_of K.loop-t.keys j ≡ t)
  in_block e =
      let h = sym K.is_in_block.ensures ∙ e in
      (ltb-true j m (and_first (ltb j m) (eqb (own_of K.loop-t.keys j) t) h), eqb-true _ t (and_second (ltb j m) (eqb (own_of K.loop-t.keys j) t) h))

  not_in_block : K.is_in_block.result ≡ false → j < m → own_of K.args.keys.now j ≡ t → ⊥
  not_in_block e l o =
      clash (and_true (ltb j m) (eqb (own_of K.loop-t.keys j) t) (lt-ltb j m l) (eq-eqb _ t (same ∙ o))) (sym K.is_in_block.ensures ∙ e)

pub bounds-first-t : goal.bounds-first-t
bounds-first-t c = omega (arith, c.requires.starts)

pub loop-t-init : goal.loop-t-init
loop-t-init c = (refl, refl, split_begin c.requires)

pub overflow_cast-t : goal.overflow_cast-t
overflow_cast-t c = omega arith

pub is_in_block-requires : goal.is_in_block-requires
is_in_block-requires c = omega arith

pub offset_bounds-keys-j : goal.offset_bounds-keys-j
offset_bounds-keys-j c =
    let K = (goal.at.offset_bounds-keys-j c).After-is_in_block in
    omega (arith, (in_block K c.if-is_in_block.true).0, (given K).small)

pub bounds-keys-j : goal.bounds-keys-j
bounds-keys-j c =
    let K = (goal.at.bounds-keys-j c).After-is_in_block in
    keys_room K (in_block K c.if-is_in_block.true).0

pub offset_bounds-keys-j-then-is_in_block : goal.offset_bounds-keys-j-then-is_in_block
offset_bounds-keys-j-then-is_in_block c =
    let K = (goal.at.offset_bounds-keys-j-then-is_in_block c).After-is_in_block in
    omega (arith, (in_block K c.if-is_in_block.true).0, (given K).small)

pub bounds-keys-j-then-is_in_block : goal.bounds-keys-j-then-is_in_block
bounds-keys-j-then-is_in_block c =
    let K = (goal.at.bounds-keys-j-then-is_in_block c).After-is_in_block in
    keys_room K (in_block K c.if-is_in_block.true).0

pub overflow_add-j : goal.overflow_add-j
overflow_add-j c =
    let K = (goal.at.overflow_add-j c).After-is_in_block in
    omega (arith, (in_block K c.if-is_in_block.true).0, (given K).small)

pub loop-t-smaller-then-is_in_block : goal.loop-t-smaller-then-is_in_block
loop-t-smaller-then-is_in_block c = omega (arith, (in_block (goal.at.loop-t-smaller-then-is_in_block c).After-is_in_block c.if-is_in_block.true).0)

pub loop-t-preserved-then-is_in_block : goal.loop-t-preserved-then-is_in_block
loop-t-preserved-then-is_in_block c =
    let K = (goal.at.loop-t-preserved-then-is_in_block c).After-is_in_block in
    let v = c.loop-t.invariant in
    let b = in_block K c.if-is_in_block.true in
    (v.0, simp length-set v.1, split_entry (given K) v.2 b.0 (sym (same K) ∙ b.1) (keys_room K b.0))

pub overflow_add-t : goal.overflow_add-t
overflow_add-t c = omega arith

pub overflow_cast-first : goal.overflow_cast-first
overflow_cast-first c =
    let K = (goal.at.overflow_cast-first c).After-is_in_block in
    omega (arith, (at_hand K).few, (given K).small)

pub offset_bounds-first-t-else-is_in_block : goal.offset_bounds-first-t-else-is_in_block
offset_bounds-first-t-else-is_in_block c = omega (arith, (given (goal.at.offset_bounds-first-t-else-is_in_block c).After-is_in_block).few_types, c.loop-t-test.true)

pub bounds-first-t-else-is_in_block : goal.bounds-first-t-else-is_in_block
bounds-first-t-else-is_in_block c = first_room (goal.at.bounds-first-t-else-is_in_block c).After-is_in_block

pub loop-t-smaller : goal.loop-t-smaller
loop-t-smaller c = omega arith

pub loop-t-preserved : goal.loop-t-preserved
loop-t-preserved c =
    let K = (goal.at.loop-t-preserved c).After-is_in_block in
    let v = c.loop-t.invariant in
    (length-set c.loop-t.first (t K + 1) (j K) ∙ v.0, v.1, split_type (given K) v.2 c.loop-t-test.true (not_in_block K c.if-is_in_block.false) (first_room K))

pub shape_of-first : goal.shape_of-first
shape_of-first c = c.loop-t.invariant.0 ∙ simp length-set

pub shape_of-keys : goal.shape_of-keys
shape_of-keys c = c.loop-t.invariant.1

pub returns : goal.returns
returns c = split_end c.requires c.loop-t.invariant.2 c.loop-t-test.false
