-- what falls: the node's number
use Rattle.constraints.proofs.+eval.Given as goal

abbrev pub decreases-eval : goal.decreases-eval
decreases-eval l = l.node
