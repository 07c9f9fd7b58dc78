use Rattle.search_steps.proofs.OfferLaws.{none_special}
use native.Mathlib.Omega.{arith}
use Rattle.search_steps.proofs.offers.first_offer.Goals as goal

pub bounds-plan-ty : goal.bounds-plan-ty
bounds-plan-ty c = omega (arith, c.requires.1.type, c.requires.1.block.size)

pub overflow_cast-lo : goal.overflow_cast-lo
overflow_cast-lo c = omega (arith, c.requires.1.block.high, c.requires.1.order)

pub bounds-plan-ty-then-a : goal.bounds-plan-ty-then-a
bounds-plan-ty-then-a c = omega (arith, c.requires.1.type, c.requires.1.block.size)

pub returns-then-plan-ty-eq0 : goal.returns-then-plan-ty-eq0
returns-then-plan-ty-eq0 c = none_special c.requires.1 c.if-a.true c.if-plan-ty-eq0.true

pub bounds-plan-ty-2 : goal.bounds-plan-ty-2
bounds-plan-ty-2 c = omega (arith, c.requires.1.type, c.requires.1.block.size)

pub overflow_cast-stop : goal.overflow_cast-stop
overflow_cast-stop c = omega (arith, c.requires.1.block.high)

pub nearest-requires : goal.nearest-requires
nearest-requires c =
    (c.requires.0, c.requires.1.block, record { low = omega arith; high = c.requires.1.order; passed = λ j l k. absurd (omega arith) }, omega arith)

pub returns : goal.returns
returns c = c.nearest.ensures
