use mathlib.Core.Bool.{true}
use Rattle.std.proofs.Common.{rules}
use Rattle.base.specs.Inner.Decides.{Decides}
use Rattle.goal_image.specs.Goal.{goal_of}
use Rattle.goal_image.specs.Inner.Reading.{RecordFits}
use Rattle.goal_image.proofs.Searches.{callable, all_hold}
use Rattle.goal_image.proofs.fields.chain_fits.Goals as goal

pub all-requires-clause-callable : goal.all-requires-clause-callable
all-requires-clause-callable c =
    callable c.requires.1 c.requires.2 {says = λ i b. Decides b (RecordFits c.args.counts (goal_of c.args.goal.now) c.args.h i)} (λ x b q k. search rules)
    c.records_on.ensures true (λ i low high. search rules)

pub returns : goal.returns
returns c =
    all_hold c.requires.1 c.requires.2 {says = λ i b. Decides b (RecordFits c.args.counts (goal_of c.args.goal.now) c.args.h i)} (λ x b q k. search rules)
    c.records_on.ensures (λ i b d. d) _ _ c.all.ensures.ran
