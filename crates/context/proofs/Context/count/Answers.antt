use native.Mathlib.Omega.{arith}
use Rattle.context.proofs.PlaceLaws.{types_part}
use Rattle.context.proofs.Context.count.Goals as goal

pub overflow_mul-result : goal.overflow_mul-result
overflow_mul-result c = omega (arith, types_part c.args.counts c.requires)
