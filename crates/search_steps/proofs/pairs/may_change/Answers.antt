use Rattle.search_steps.proofs.pairs.may_change.Goals as goal

pub returns-then-acts : goal.returns-then-acts
returns-then-acts c = rw c.if-acts.true c.has_bit.ensures

pub returns : goal.returns
returns c = rw c.if-acts.false c.has_bit-2.ensures
