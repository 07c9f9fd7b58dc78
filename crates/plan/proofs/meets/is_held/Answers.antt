use Prim.Native.Nat.{ℕ, ◌-◌}
use mathlib.Core.Bool.{not}
use mathlib.Core.Path.{ap}
use lib.Bits.{bit_and}
use lib.Dec.{eqb}
use Rattle.plan.specs.Inner.Entries.{roles_at, holders_at}
use Rattle.context.proofs.TypeLaws.{of_pair}
use Rattle.plan.proofs.ContextLaws.{pairs_few}
use native.Mathlib.Omega.{arith}
use Rattle.plan.proofs.meets.is_held.Goals as goal

pub bounds-plan-pair : goal.bounds-plan-pair
bounds-plan-pair c =
    omega (arith, of_pair c.requires.0.countable c.requires.2 c.first_place.ensures, pairs_few c.requires.0, c.requires.1)

pub returns : goal.returns
returns c =
    ap (λ (f : ℕ). not (eqb (bit_and (roles_at c.args.plan.now c.args.ty) (holders_at c.args.plan.now (c.args.place - f))) 0)) c.first_place.ensures
