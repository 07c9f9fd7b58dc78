use Rattle.plan.proofs.KnownLaws.{zero_plus}
use lib.ListN.{get_or}
use mathlib.Core.Path.{ap}
use Prim.Native.Nat.{ℕ}
use Rattle.search_steps.proofs.NearestLaws.{asked_all, asked_special}
use native.Mathlib.Omega.{arith}
use Rattle.search_steps.proofs.nearest.asked_mask.Goals as goal

pub bounds-plan-class : goal.bounds-plan-class
bounds-plan-class c = omega (arith, c.requires.0, c.requires.1)

pub returns-then-a : goal.returns-then-a
returns-then-a c = asked_special c.args.plan.now c.args.a c.args.key c.args.mask c.if-a.true (ap (λ (k : ℕ). get_or c.args.plan.now k 0) (zero_plus _))

pub returns : goal.returns
returns c = asked_all c.args.plan.now c.args.a c.args.key c.args.mask
