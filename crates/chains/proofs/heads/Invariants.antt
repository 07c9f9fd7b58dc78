use Prim.Native.Nat.{ℕ, ◌≤◌, ◌<◌}
use mathlib.Core.Path.{◌≡◌}
use lib.ListN.{length, get_or}
use Rattle.chains.specs.Inner.Links.{head_in}
use Rattle.chains.proofs.heads.Given as goal

abbrev pub invariant-loop-h : goal.invariant-loop-h
invariant-loop-h l =
    (length l.c ≡ 16) × ((j : ℕ) → l.shape.first ≤ j → j < l.h → get_or l.c j 0 ≡ head_in l.image l.shape j)
