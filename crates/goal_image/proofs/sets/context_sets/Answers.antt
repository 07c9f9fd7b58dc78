use Rattle.std.proofs.Common.{rules}
use Rattle.goal_image.specs.Goal.{goal_of}
use Rattle.goal_image.specs.Sets.{matches_context, context_in}
use Rattle.goal_image.proofs.sets.context_sets.Goals as goal

pub returns : goal.returns
unfolding context_in
returns c = record { at = λ h. c.sets.ensures h (λ i. matches_context ((goal_of c.args.goal.now).context i) c.args.x) (λ i low high b says. search rules) }
