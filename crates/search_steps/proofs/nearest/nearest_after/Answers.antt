use mathlib.Core.Path.{◌≡◌}
use Prim.Native.Nat.{◌+◌, ◌*◌, ◌/◌}
use Rattle.search_steps.proofs.NearestLaws.{same_nearest, next_cursor, later_nearest}
use native.Mathlib.Omega.{arith}
use Rattle.search_steps.proofs.nearest.nearest_after.Goals as goal

pub returns-then-entry-stop : goal.returns-then-entry-stop
returns-then-entry-stop c =
    rw c.step_code.ensures (same_nearest c.requires.1 c.requires.2 c.same_event-entry.ensures c.if-entry-stop.true)

pub nearest-requires : goal.nearest-requires
nearest-requires c =
    let q : c.step_code-2.result ≡ 4096 * (c.args.offer.step / 4096 + 1) = omega (arith, c.step_code-2.ensures) in
    rw q (c.requires.0, c.requires.1, next_cursor c.requires.1 c.requires.2 c.same_event-entry.ensures, omega (arith, c.requires.2.within))

pub returns : goal.returns
returns c =
    let q : c.step_code-2.result ≡ 4096 * (c.args.offer.step / 4096 + 1) = omega (arith, c.step_code-2.ensures) in
    later_nearest c.requires.1 c.requires.2 c.same_event-entry.ensures c.if-entry-stop.false (rw q at c.nearest.ensures)
