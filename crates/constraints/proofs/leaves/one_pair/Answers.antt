use lib.ListN.{replicate, length-replicate}
use Prim.Native.Nat.{ℕ}
use Rattle.constraints.proofs.LeafLaws.{one_leaves}
use Rattle.constraints.proofs.leaves.one_pair.Goals as goal

pub returns : goal.returns
returns c =
    one_leaves (replicate 68 0) (length-replicate {A = ℕ} 68 0) c.all_if.ensures c.all_if-2.ensures c.put_context.ensures.1 c.put_context-2.ensures.1
