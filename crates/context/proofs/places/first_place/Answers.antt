use Rattle.context.proofs.TypeLaws.{roles_few, start_few}
use native.Mathlib.Omega.{arith}
use Rattle.context.proofs.places.first_place.Goals as goal

pub overflow_sub-result : goal.overflow_sub-result
overflow_sub-result c = omega (arith, c.requires.1)

pub overflow_mul-result : goal.overflow_mul-result
overflow_mul-result c = omega (arith, roles_few c.requires.0 c.args.ty c.requires.2)

pub overflow_mul-result-2 : goal.overflow_mul-result-2
overflow_mul-result-2 c = omega (arith, start_few c.requires.0 c.args.ty c.requires.2)
