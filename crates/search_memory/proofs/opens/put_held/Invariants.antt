use mathlib.Core.Path.{◌≡◌}
use lib.ListN.{length}
use Rattle.base.specs.Inner.Fill.{Filled}
use Rattle.search_memory.specs.Inner.Opens.{open_entries, HeldWord}
use Rattle.search_memory.proofs.opens.put_held.Given as goal

abbrev pub invariant-loop-w : goal.invariant-loop-w
invariant-loop-w l =
    (length l.opens ≡ open_entries) × Filled (λ i v. HeldWord l.counts l.plan l.ty i v) l.initial.opens l.opens l.first 0 l.w
