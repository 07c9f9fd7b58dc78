-- The loop visits exactly the nodes, by questions 3 and 4: each that it has left behind has its mark.
use mathlib.Core.Path.{◌≡◌}
use lib.ListN.{length}
use Rattle.policy_image.specs.declared.kinds.Kind.TheVariants.{Node}
use Rattle.policy_image.specs.Policy.{policy_of}
use Rattle.policy_links.proofs.Walking.{Along}
use Rattle.search_constraints.specs.Inner.Pairs.{mark_entries}
use Rattle.search_constraints.proofs.MarkLaws.{HasMark}
use Rattle.search_constraints.proofs.marks.marks_of.Given as goal

abbrev pub invariant-loop-r : goal.invariant-loop-r
invariant-loop-r l = (length l.marks ≡ mark_entries) × Along l.policy Node (HasMark (policy_of l.policy) l.marks) l.r-iterator
