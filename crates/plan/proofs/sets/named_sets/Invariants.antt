-- The loop follows the list of x's type: what is listed from here on, with the sets so far, is all of it.
use Prim.Native.Nat.{◌≤◌, ◌<◌}
use mathlib.Core.Path.{◌≡◌}
use lib.ListN.{length}
use Rattle.plan.specs.Inner.Regions.{record_entries, plan_entries}
use Rattle.plan.specs.Inner.Sets.{Falls, listed, listed_for}
use Rattle.plan.proofs.sets.named_sets.Given as goal

abbrev pub invariant-loop-k : goal.invariant-loop-k
invariant-loop-k l =
    Falls l.plan × (plan_entries ≤ length l.plan) × (l.k < record_entries) × (listed l.plan l.x l.k l.k l.sets ≡ listed_for l.plan l.x)

abbrev pub decreases-loop-k : goal.decreases-loop-k
decreases-loop-k l = l.k
