use Rattle.policy_image.specs.Layout.{decoded}
use borrow.Author.Rules.{rules}
use Rattle.policy_image.proofs.records.decode.Goals as goal

pub returns : goal.returns
unfolding decoded
returns c = (cc, search rules)
