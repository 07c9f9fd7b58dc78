use Prim.Native.Nat.{ℕ}
use mathlib.Core.Path.{◌≡◌}
use mathlib.Core.Bool.{true}
use Rattle.base.specs.Bits.{bit}
use Rattle.plan.specs.Inner.Leads.{Shared}
use Rattle.plan.proofs.alike.share.Given as goal

abbrev pub invariant-loop-q : goal.invariant-loop-q
invariant-loop-q l =
    ((q : ℕ) → bit l.q-iterator.left q ≡ true → bit l.mask q ≡ true) × Shared l.class l.mask l.initial.alike l.alike
