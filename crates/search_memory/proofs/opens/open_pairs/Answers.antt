use native.Mathlib.Omega.{arith}
use lib.ListN.{length-set}
use Rattle.search_memory.proofs.opens.open_pairs.Goals as goal

pub put_held-requires : goal.put_held-requires
put_held-requires c =
    let p = c.requires in
    (p.0, p.1, simp length-set p.2, omega (arith, c.slot_of-slot.ensures), p.3)
