use lib.Dec.{eqb}
use Rattle.std.proofs.Common.{rules}
use Rattle.goal_image.specs.Inner.Memberships.{on_chain}
use Rattle.goal_image.proofs.sets.record_sets.Goals as goal

pub returns : goal.returns
unfolding on_chain
returns c = record { at = λ h. c.sets.ensures h (λ i. eqb i c.args.k) (λ i low high b says. search rules) }
