use borrow.Author.Tests.{lt-ltb, le-ltb}
use Rattle.plan_index.proofs.split.is_in_block.Goals as goal

pub returns-then-j-m : goal.returns-then-j-m
returns-then-j-m c = rw (lt-ltb _ _ c.if-j-m.true)

pub returns : goal.returns
returns c = rw (le-ltb _ _ c.if-j-m.false)
