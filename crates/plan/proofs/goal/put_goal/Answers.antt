use Rattle.plan.proofs.SetLaws.{goal_put}
use mathlib.Core.Path.{refl}
use Rattle.plan.proofs.goal.put_goal.Goals as goal

pub returns : goal.returns
returns c =
    goal_put c.requires.0 c.requires.1 refl refl c.put_events.ensures c.put_type_sets.ensures c.put_pair_sets.ensures c.put_links.ensures c.put_alikes.ensures
