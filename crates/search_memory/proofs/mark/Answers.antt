use Rattle.search_memory.proofs.KeptLaws.{mark_one, mark_none, shl_64}
use Rattle.search_memory.proofs.mark.Goals as goal

pub returns-then-yes : goal.returns-then-yes
returns-then-yes c = mark_one c.args.k _ (shl_64 c.args.k c.requires) c.args.yes c.if-yes.true

pub returns-else-yes : goal.returns-else-yes
returns-else-yes c = mark_none c.args.k c.args.yes
