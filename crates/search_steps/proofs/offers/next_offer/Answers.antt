use native.Mathlib.Omega.{arith}
use Rattle.search_steps.proofs.offers.next_offer.Goals as goal

pub bounds-plan-ty : goal.bounds-plan-ty
bounds-plan-ty c = omega (arith, c.requires.1.type, c.requires.1.block.size)

pub overflow_cast-lo : goal.overflow_cast-lo
overflow_cast-lo c = omega (arith, c.requires.1.block.high, c.requires.1.order)

pub bounds-plan-ty-2 : goal.bounds-plan-ty-2
bounds-plan-ty-2 c = omega (arith, c.requires.1.type, c.requires.1.block.size)

pub overflow_cast-stop : goal.overflow_cast-stop
overflow_cast-stop c = omega (arith, c.requires.1.block.high)

pub nearest_after-requires : goal.nearest_after-requires
nearest_after-requires c = (c.requires.0, c.requires.1.block, c.requires.2)

pub returns : goal.returns
returns c = c.nearest_after.ensures
