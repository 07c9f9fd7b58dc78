use native.Mathlib.Nat.{mul-le-mul}
use Prim.Native.Nat.{◌*◌, ◌≤◌}
use native.Mathlib.Omega.{arith}
use borrow.Author.Rules.{rules}
use Rattle.search_memory.proofs.opens.slot_of.Goals as goal

pub overflow_mul-result : goal.overflow_mul-result
overflow_mul-result c = let m : c.args.kept * c.args.types ≤ 64 * 256 = mul-le-mul {n₂ = 64} {m₂ = 256} (omega (arith, c.requires.2)) (omega (arith, c.requires.0)) in search rules

pub overflow_add-result : goal.overflow_add-result
overflow_add-result c = let m : c.args.kept * c.args.types ≤ 64 * 256 = mul-le-mul {n₂ = 64} {m₂ = 256} (omega (arith, c.requires.2)) (omega (arith, c.requires.0)) in search rules
