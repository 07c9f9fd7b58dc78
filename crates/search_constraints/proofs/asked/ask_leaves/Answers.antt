use Prim.Native.Nat.{ℕ}
use mathlib.Core.Path.{refl}
use lib.ListN.{replicate, length-replicate}
use Rattle.search_constraints.proofs.AskedLaws.{ask_leaves}
use Rattle.search_constraints.proofs.asked.ask_leaves.Goals as goal

pub returns : goal.returns
returns c =
    ask_leaves c.requires (replicate 68 0) (length-replicate {A = ℕ} 68 0) c.put_context.ensures.1 c.put_context.ensures.0 c.side_of-own.ensures.0 refl c.put_pairs.ensures.1
