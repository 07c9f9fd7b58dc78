use Rattle.constraints.proofs.WordLaws.{all_yes, all_no}
use Rattle.constraints.proofs.leaves.all_if.Goals as goal

pub returns-then-yes : goal.returns-then-yes
returns-then-yes c = all_yes c.if-yes.true

pub returns-else-yes : goal.returns-else-yes
returns-else-yes c = all_no c.if-yes.false
