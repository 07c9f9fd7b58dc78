use Prim.Native.Nat.{ℕ, ◌≤◌, ◌<◌}
use Rattle.chains.specs.Inner.Links.{head_in}
use Rattle.chains.proofs.heads_in_range.Given as goal

abbrev pub invariant-loop-h : goal.invariant-loop-h
invariant-loop-h l = (j : ℕ) → l.shape.first ≤ j → j < l.h → head_in l.image l.shape j ≤ l.shape.count
