use borrow.Author.Tests.{lt-ltb}
use Rattle.plan_index.specs.Inner.Codes.{record_numbers}
use Rattle.plan_index.proofs.extract.is_counted.Goals as goal

pub returns : goal.returns
returns c = rw (lt-ltb c.args.k record_numbers c.requires) c.has_bit.ensures
