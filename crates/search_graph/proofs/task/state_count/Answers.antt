use Rattle.search_graph.proofs.ArrivalLaws.{states_law}
use Rattle.search_graph.proofs.task.state_count.Goals as goal

pub returns : goal.returns
returns c = states_law c.args.bits c.requires
