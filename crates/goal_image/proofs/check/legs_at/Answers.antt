use borrow.Author.Rules.{rules}
use Rattle.goal_image.specs.Layout.{legs_of, flags_of}
use Rattle.goal_image.proofs.check.legs_at.Goals as goal

pub returns : goal.returns
unfolding legs_of flags_of
returns c = record { exact = search rules; same = cc; count = search rules; repeated = search rules }
