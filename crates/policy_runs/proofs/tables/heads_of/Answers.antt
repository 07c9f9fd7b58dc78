use Prim.Native.Nat.{◌-◌}
use mathlib.Core.Path.{refl, ◌∙◌}
use native.Mathlib.Omega.{arith}
use lib.ListN.{length-set}
use Rattle.policy_runs.proofs.TableLaws.{heads_more}
use Rattle.policy_runs.proofs.tables.heads_of.Goals as goal

pub loop-k-init : goal.loop-k-init
loop-k-init c = (refl, λ j a b. let z : ⊥ = omega arith in absurd z)

pub next_upto-requires : goal.next_upto-requires
next_upto-requires c =
    let f = c.requires (c.loop-k.k - 1) (omega arith) in
    omega (arith, f)

pub loop-k-preserved : goal.loop-k-preserved
loop-k-preserved c = (
  length-set c.loop-k.heads c.loop-k.k _ ∙ c.loop-k.invariant.0,
  heads_more c.args.ends.now c.loop-k.heads c.loop-k.k _ (omega (arith, c.loop-k.invariant.0)) c.loop-k.invariant.1 c.next_upto.ensures,
)
