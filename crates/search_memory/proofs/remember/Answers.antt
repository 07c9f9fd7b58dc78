use Rattle.search_memory.proofs.MemoryLaws.{remembered}
use native.Mathlib.Omega.{arith}
use Rattle.search_memory.proofs.remember.Goals as goal

pub returns : goal.returns
returns c = let p = c.requires in remembered (omega (arith, p.0, p.1)) c.mark.ensures
