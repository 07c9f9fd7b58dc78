-- Question 5 of the joined policy: a renumbered record stays within its ranges, and these grow with the counts.
use Prim.Native.Nat.{◌<◌}
use mathlib.Core.Logic.{⊎_elim}
use Rattle.policy_image.specs.declared.counts.Counts.{Counts}
use Rattle.policy_image.specs.Policy.{Policy}
use Rattle.policy_fields.specs.Fields.{FieldsInRange}
use Rattle.policy_expressions.specs.Nodes.{NodesInOrder}
use Rattle.policy_lists.specs.Joined.{larger_counts, makers_node, boards_node, joined_list, joined}
use Rattle.policy_lists.proofs.StemLaws.{makers_begin, boards_begin, joined_stems}
use Rattle.policy_lists.proofs.StemFieldLaws.{from_fields, stem_fits}
use Rattle.policy_lists.proofs.JoinNodeLaws.{makers_is, boards_is}
use Rattle.policy_lists.proofs.CountLaws.{larger_left, larger_right}
use Rattle.policy_lists.proofs.LimitLaws.{AtLeast}

module _ (p q : Policy) where
  abbrev counts : Counts
  counts = larger_counts p.counts q.counts

  makers_least : AtLeast p.counts (joined p q).counts
  makers_least =
      record {
        types = larger_left p.counts.types q.counts.types;
        roles = larger_left p.counts.roles q.counts.roles;
        users = larger_left p.counts.users q.counts.users;
        classes = larger_left p.counts.classes q.counts.classes;
      }

  boards_least : AtLeast q.counts (joined p q).counts
  boards_least =
      record {
        types = larger_right p.counts.types q.counts.types;
        roles = larger_right p.counts.roles q.counts.roles;
        users = larger_right p.counts.users q.counts.users;
        classes = larger_right p.counts.classes q.counts.classes;
      }

  pub joined_fields : (joined p q).size < 65536 → NodesInOrder p → NodesInOrder q → FieldsInRange p → FieldsInRange q → FieldsInRange (joined p q)
  joined_fields small N M E F =
      from_fields counts (joined_list p q)
      (λ i a b.
      ⊎_elim
      (λ S. stem_fits counts (joined_list p q) small p (makers_node p q) (makers_begin p q) N E (makers_is p q) makers_least i S)
      (λ S. stem_fits counts (joined_list p q) small q (boards_node p q) (boards_begin p q) M F (boards_is p q) boards_least i S)
      (joined_stems p q i a b))
