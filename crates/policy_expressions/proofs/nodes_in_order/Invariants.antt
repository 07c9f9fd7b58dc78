-- The pass over the places keeps `Marks`, whose laws say what each way out means.
use mathlib.Core.Path.{◌≡◌}
use lib.ListN.{length, get_or}
use Rattle.policy_image.specs.Policy.{policy_of}
use Rattle.policy_expressions.proofs.Marks.{Marks}
use Rattle.policy_expressions.proofs.nodes_in_order.Given as goal

abbrev pub invariant-loop-q : goal.invariant-loop-q
invariant-loop-q l =
    (length l.used ≡ 4096) × Marks (policy_of l.image) l.q (λ m. get_or l.used m 0)
