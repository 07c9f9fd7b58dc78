-- The loop visits exactly the constraints, by questions 3 and 4: each that it has left behind holds of the pairs that are left, and of the
-- others some does not; the roots are nodes by question 6.
use Rattle.policy_image.specs.declared.kinds.Kind.TheVariants.{Constraint}
use Rattle.policy_image.specs.Policy.{policy_of}
use Rattle.policy_links.proofs.Walking.{Along}
use Rattle.constraints.proofs.NodeWordLaws.{Upheld, Lost}
use Rattle.constraints.proofs.constraints_word.Given as goal

abbrev pub invariant-loop-r : goal.invariant-loop-r
invariant-loop-r l =
    Along l.policy Constraint (Upheld (policy_of l.policy) l.e l.leaves l.all) l.r-iterator × Lost (policy_of l.policy) l.e l.leaves l.all
