use Prim.Native.Nat.{◌-◌}
use Rattle.search_steps.proofs.PairLaws.{NoneTo}
use Rattle.search_steps.proofs.pairs.next_pair.Given as goal

abbrev pub invariant-loop-at : goal.invariant-loop-at
invariant-loop-at l = NoneTo l.set l.from l.at

abbrev pub decreases-loop-at : goal.decreases-loop-at
decreases-loop-at l = 256 - l.at
