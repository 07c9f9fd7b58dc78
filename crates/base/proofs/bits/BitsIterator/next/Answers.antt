use Rattle.base.proofs.LowestLaws.{taken}
use Rattle.base.proofs.bits.BitsIterator.next.Goals as goal

pub returns-clause-steps : goal.returns-clause-steps
returns-clause-steps c = taken c.lowest-p.ensures c.with_bit.ensures c.without-self.ensures
