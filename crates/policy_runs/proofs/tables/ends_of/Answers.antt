use Prim.Native.Nat.{◌-◌}
use mathlib.Core.Path.{refl, ◌∙◌}
use native.Mathlib.Omega.{arith}
use lib.ListN.{length-set}
use Rattle.policy_runs.proofs.TableLaws.{summed_start, summed_more, sums_few, added_up, added_few}
use Rattle.policy_runs.proofs.tables.ends_of.Goals as goal

pub loop-k-init : goal.loop-k-init
loop-k-init c = let s = c.args in (refl, summed_start (added_up s.first.now s.second.now))

pub loop-k-preserved : goal.loop-k-preserved
loop-k-preserved c =
    let l = c.loop-k in (
      length-set l.ends l.k _ ∙ l.invariant.0,
      summed_more (added_up c.args.first.now c.args.second.now) l.ends l.k _ (omega arith) (omega (arith, l.invariant.0)) l.invariant.1 refl,
    )

pub overflow_add-ends : goal.overflow_add-ends
overflow_add-ends c = omega (arith, added_few c.requires c.loop-k.k (omega arith) (omega arith))

pub returns : goal.returns
returns c k h = c.loop-k.invariant.1 k (omega (arith, h))

pub overflow_add-ends-in-loop-k : goal.overflow_add-ends-in-loop-k
overflow_add-ends-in-loop-k c =
    let l = c.loop-k in
    let few = added_few c.requires in
    let S = l.invariant.1 (l.k - 1) (omega arith) in
    let m = sums_few (added_up c.args.first.now c.args.second.now) few (l.k - 1) (omega arith) in
    omega (arith, few l.k (omega arith) (omega arith), S, m)
