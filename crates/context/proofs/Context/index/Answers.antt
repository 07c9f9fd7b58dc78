use native.Mathlib.Omega.{arith}
use Rattle.context.proofs.PlaceLaws.{index_lt, roles_part, users_part}
use Rattle.context.proofs.Context.index.Goals as goal

pub overflow_mul-result : goal.overflow_mul-result
overflow_mul-result c = omega (arith, roles_part c.args.counts c.args.self c.requires.0 c.requires.1)

pub overflow_add-result : goal.overflow_add-result
overflow_add-result c = omega (arith, roles_part c.args.counts c.args.self c.requires.0 c.requires.1)

pub overflow_mul-result-2 : goal.overflow_mul-result-2
overflow_mul-result-2 c = omega (arith, users_part c.args.counts c.args.self c.requires.0 c.requires.1)

pub overflow_add-result-2 : goal.overflow_add-result-2
overflow_add-result-2 c = omega (arith, index_lt c.args.counts c.args.self c.requires.0)
