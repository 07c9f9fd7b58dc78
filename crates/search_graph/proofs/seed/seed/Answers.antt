use Prim.Native.Nat.{◌+◌}
use mathlib.Core.Path.{◌≡◌, refl}
use native.Mathlib.Nat.{zero-mul}
use native.Mathlib.Omega.{arith}
use Rattle.base.specs.Ranges.{Within}
use Rattle.context.specs.Inner.Places.{first_place, OfType}
use Rattle.context.proofs.TypeLaws.{start_next}
use Rattle.search_graph.proofs.ArrivalLaws.{nodes_of_lem}
use Rattle.search_graph.proofs.SeedLaws.{sow_begin, sow_skip, sow_pass, sow_within, sow_room, sow_enter, sow_end, sow_broken, last_type}
use Rattle.search_graph.proofs.seed.seed.Goals.{In-loop-ty, In-loop-y, in-Dropped, in-Enter}
use Rattle.search_graph.proofs.seed.seed.Goals as goal

a_type : (c : In-loop-ty) → Within 1 c.args.task.counts.types c.loop-ty.ty
a_type c = record { low = omega arith; high = omega arith }

-- the place is one of the type
of_type : (c : In-loop-y) → OfType c.args.task.counts c.loop-ty.ty c.loop-y.y
of_type c = record { type = record { low = omega arith; high = omega arith }; low = omega arith; high = omega arith }

pub loop-ty-init : goal.loop-ty-init
loop-ty-init c = simp zero-mul (sow_begin c.requires.0 (nodes_of_lem c.count.ensures c.states_in.ensures) c.requires.1)

pub loop-ty-preserved-then-not-may_start : goal.loop-ty-preserved-then-not-may_start
loop-ty-preserved-then-not-may_start c =
    sow_pass c.loop-ty.invariant refl (a_type (goal.at.loop-ty-preserved-then-not-may_start c).In-loop-ty) (c.may_start.ensures c.if-not-may_start.true)

pub loop-y-init : goal.loop-y-init
loop-y-init c = rw c.first_place-y.ensures c.loop-ty.invariant

pub returns-in-Broken : goal.returns-in-Broken
returns-in-Broken c = sow_broken c.loop-y.invariant (of_type (goal.at.returns-in-Broken c).In-loop-y) c.start_at.ensures c.in-Broken.is

pub bounds-back-v : goal.bounds-back-v
bounds-back-v c =
    omega (arith, sow_within c.loop-y.invariant (of_type (goal.at.bounds-back-v c).In-loop-y) c.start_at.ensures c.in-Enter.is)

pub bounds-queue-tail : goal.bounds-queue-tail
bounds-queue-tail c =
    omega (arith, sow_room c.loop-y.invariant (of_type (goal.at.bounds-queue-tail c).In-loop-y) c.start_at.ensures c.in-Enter.is)

pub loop-y-preserved : goal.loop-y-preserved
loop-y-preserved c =
    let i = c.loop-y.invariant in
    let H = of_type (goal.at.loop-y-preserved c).In-loop-y in
    elim c.match-start_at.branch [
      | in-Dropped w ↦ rw (w.queue-is, w.back-is, w.tail-is) (sow_skip i H c.start_at.ensures w.in-Dropped.is)
      | in-Enter w ↦ rw (w.queue-is, w.back-is, w.tail-is) (sow_enter i H c.start_at.ensures w.in-Enter.is)
    ]

pub loop-ty-preserved : goal.loop-ty-preserved
loop-ty-preserved c =
    let e : c.loop-y.y ≡ first_place c.args.task.counts (c.loop-ty.ty + 1) =
    omega (arith, start_next c.requires.0.sets.counts.countable c.loop-ty.ty) in
    rw (← e) c.loop-y.invariant

pub returns-then-not-may_start : goal.returns-then-not-may_start
returns-then-not-may_start c =
    sow_end (sow_pass c.loop-ty.invariant refl (a_type (goal.at.returns-then-not-may_start c).In-loop-ty) (c.may_start.ensures c.if-not-may_start.true))
    (last_type c.args.task.counts (omega arith))

pub returns-else-not-may_start : goal.returns-else-not-may_start
returns-else-not-may_start c = sow_end c.loop-y.invariant (omega (arith, last_type c.args.task.counts {o = c.loop-ty.ty} (omega arith)))
