use mathlib.Core.Path.{subst}
use Rattle.search_graph.specs.Inner.Tasks.{States}
use Rattle.search_graph.proofs.ModelLaws.{bits_few}
use Rattle.search_graph.proofs.task.states_in.Goals as goal

pub state_count-requires : goal.state_count-requires
state_count-requires c = rw c.state_bits.ensures (bits_few c.args.task.mode c.requires)

pub returns : goal.returns
returns c = subst (λ k. States k c.state_count.result) c.state_bits.ensures c.state_count.ensures
