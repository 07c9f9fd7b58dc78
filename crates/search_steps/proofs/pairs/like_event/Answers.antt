use Rattle.search_steps.proofs.PairLaws.{like_own, like_lowest}
use Rattle.search_steps.proofs.pairs.like_event.Goals as goal

pub returns-then-group-eq0 : goal.returns-then-group-eq0
returns-then-group-eq0 c = like_own c.requires.1

pub returns : goal.returns
returns c = like_lowest c.requires.1 c.lowest.ensures
