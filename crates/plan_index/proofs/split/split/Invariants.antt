-- Entry after entry and type after type: the loop keeps `Splitting`.
use mathlib.Core.Path.{◌≡◌}
use Prim.Native.Nat.{◌+◌, ◌-◌}
use lib.ListN.{length}
use Rattle.plan_index.proofs.SplitLaws.{Splitting}
use Rattle.plan_index.proofs.split.split.Given as goal

abbrev pub invariant-loop-t : goal.invariant-loop-t
invariant-loop-t l =
    (length l.first ≡ length l.initial.first) × (length l.keys ≡ length l.initial.keys) × Splitting l.types l.m l.initial.keys l.first l.keys l.t l.j

abbrev pub decreases-loop-t : goal.decreases-loop-t
decreases-loop-t l = (l.types + 1 - l.t) + (l.m - l.j)
