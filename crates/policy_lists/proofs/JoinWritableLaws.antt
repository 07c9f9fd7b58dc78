-- The joined policy of two that can be written can be written, where the records of both together are few enough.
use Prim.Native.Nat.{◌+◌, ◌≤◌, ◌<◌}
use mathlib.Core.Logic.{⊎_elim}
use native.Mathlib.Omega.{arith}
use Rattle.policy_image.specs.declared.counts.Counts.{Counts}
use Rattle.policy_image.specs.Policy.{Policy}
use Rattle.policy_image.specs.Inner.Sizes.{most_records}
use Rattle.policy_image.specs.Inner.Writable.{Writable}
use Rattle.policy_links.specs.Chains.{ChainsByKind}
use Rattle.policy_expressions.specs.Nodes.{NodesInOrder}
use Rattle.policy_lists.specs.Joined.{larger_counts, makers_node, boards_node, joined_list, joined}
use Rattle.policy_lists.proofs.JoinTurnLaws.{joined_size}
use Rattle.policy_lists.proofs.StemLaws.{makers_begin, boards_begin, joined_stems}
use Rattle.policy_lists.proofs.StemWritableLaws.{from_writable, stem_writable}
use Rattle.policy_lists.proofs.JoinNodeLaws.{makers_is, boards_is}
use Rattle.policy_lists.proofs.CountLaws.{larger_either}

-- "15" is not the answer: the records of both together are at most 4,095
pub joined_few : (p q : Policy) → ChainsByKind p → ChainsByKind q → p.size + q.size ≤ most_records → (joined p q).size ≤ most_records
joined_few p q C D h = let e = joined_size p q C D in omega arith

module _ (p q : Policy) (few : (joined p q).size ≤ most_records) where
  abbrev counts : Counts
  counts = larger_counts p.counts q.counts

  small : (joined p q).size < 65536
  small = omega arith

  pub joined_writable : NodesInOrder p → NodesInOrder q → Writable p → Writable q → Writable (joined p q)
  joined_writable N M O Q =
      let c = O.counts in
      let d = Q.counts in
      from_writable counts (joined_list p q) few
      (record {
        types = larger_either (λ n. n < 256) p.counts.types q.counts.types c.types d.types;
        roles = larger_either (λ n. n < 256) p.counts.roles q.counts.roles c.roles d.roles;
        users = larger_either (λ n. n < 256) p.counts.users q.counts.users c.users d.users;
        classes = larger_either (λ n. n < 256) p.counts.classes q.counts.classes c.classes d.classes;
        records = few;
      })
      (λ i w.
      ⊎_elim
      (λ S. stem_writable counts (joined_list p q) small p (makers_node p q) (makers_begin p q) N O (makers_is p q) i S)
      (λ S. stem_writable counts (joined_list p q) small q (boards_node p q) (boards_begin p q) M Q (boards_is p q) i S)
      (joined_stems p q i w.low w.high))
