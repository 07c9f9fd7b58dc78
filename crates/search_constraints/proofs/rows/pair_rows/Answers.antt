use Prim.Native.Nat.{◌≤◌}
use mathlib.Core.Path.{◌≡◌, refl}
use native.Mathlib.Omega.{arith}
use Rattle.context.specs.Inner.Places.{pair_count, role_at, user_at}
use Rattle.context.proofs.TypeLaws.{role_high, user_high}
use Rattle.search_constraints.proofs.RowLaws.{rows_begin, rows_more, rows_end}
use Rattle.search_constraints.proofs.rows.pair_rows.Goals.{In-loop-i}
use Rattle.search_constraints.proofs.rows.pair_rows.Goals as goal

-- the numbers of the pair at hand
module _ (K : In-loop-i) where
  role_few : role_at K.args.counts K.loop-i.i ≤ 15
  role_few = let h = role_high K.requires.0 K.loop-i-test.true in let r = K.requires.1 in omega arith

  user_few : user_at K.args.counts K.loop-i.i ≤ 15
  user_few = let h = user_high K.requires.0 K.loop-i.i in let u = K.requires.2 in omega arith

pub loop-i-init : goal.loop-i-init
loop-i-init c = rows_begin _

pub loop-i-preserved : goal.loop-i-preserved
loop-i-preserved c =
    let K = (goal.at.loop-i-preserved c).In-loop-i in
    let r = role_few K in
    let u = user_few K in
    rows_more c.loop-i.invariant refl refl (omega arith) (omega arith) c.put_bit.ensures c.put_bit-in-loop-i.ensures

pub returns : goal.returns
returns c =
    let l = c.loop-i in
    let q : l.i ≡ pair_count c.args.counts = omega arith in
    rows_end c.requires.0 c.requires.1 c.requires.2 q l.invariant
