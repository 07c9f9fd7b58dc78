use Prim.Native.Nat.{◌+◌, ◌*◌}
use mathlib.Core.Path.{◌≡◌}
use lib.ListN.{length, get_or}
use Rattle.base.specs.Inner.Fill.{Filled}
use Rattle.plan_tables.specs.Inner.Groups.{OnSide}
use Rattle.plan_tables.proofs.groups.tell_apart.Given as goal

abbrev pub invariant-loop-q : goal.invariant-loop-q
invariant-loop-q l =
    (l.first ≡ 32 * l.class) × (length l.groups ≡ length l.initial.groups) × Filled (λ k v. OnSide (get_or l.initial.groups (l.first + k) 0) l.mask k v) l.initial.groups l.groups l.first 0 l.q
