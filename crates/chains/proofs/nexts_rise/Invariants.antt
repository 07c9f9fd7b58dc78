use Prim.Native.Nat.{ℕ, ◌≤◌, ◌<◌}
use Rattle.base.specs.Chain.{Rises}
use Rattle.chains.specs.Inner.Links.{links_in}
use Rattle.chains.proofs.nexts_rise.Given as goal

abbrev pub invariant-loop-i : goal.invariant-loop-i
invariant-loop-i l = (j : ℕ) → 1 ≤ j → j < l.i → Rises (links_in l.image l.shape) j
