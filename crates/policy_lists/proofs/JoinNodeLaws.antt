-- Question 6 of the joined policy: the nodes of each policy stay nodes, in their order, and used at most once.
use Prim.Native.Nat.{ℕ, ◌+◌, ◌<◌}
use mathlib.Core.Path.{◌≡◌, ◌∙◌}
use mathlib.Core.Logic.{⊎_elim}
use native.Mathlib.Omega.{arith}
use lib.ListN.{length}
use Rattle.policy_image.specs.declared.counts.Counts.{Counts}
use Rattle.policy_image.specs.Policy.{Policy}
use Rattle.std.specs.Prelude.{Some}
use Rattle.policy_expressions.specs.Nodes.{use_of, IsNode, NodesInOrder}
use Rattle.policy_lists.specs.Lists.{kind_list}
use Rattle.policy_lists.specs.Joined.{larger_counts, nodes_upto, of_kinds_upto, makers_node, boards_node, joined_list, joined}
use Rattle.policy_lists.proofs.JoinTurnLaws.{joined_count}
use Rattle.policy_lists.proofs.NodeLaws.{makers_node_lem, boards_node_lem}
use Rattle.policy_lists.proofs.StemLaws.{makers_begin, boards_begin, MakersRecord, BoardsRecord, joined_stems}
use Rattle.policy_lists.proofs.StemNodeLaws.{nodes_first, nodes_most, moved_is, stem_uses, stem_well, stem_once}

module _ (p q : Policy) where
  abbrev counts : Counts
  counts = larger_counts p.counts q.counts

  -- ---- where nodes stand in the result
  abbrev front : ℕ
  front = of_kinds_upto p 8 + of_kinds_upto q 8

  front_size : (joined p q).size ≡ front + length (kind_list p 9) + length (kind_list q 9)
  front_size = joined_count p q 9 ∙ omega arith

  pub makers_is : (n : ℕ) → IsNode p n → IsNode (joined p q) (makers_node p q n)
  makers_is n I =
      let a = nodes_first p n I in
      let b = nodes_most p n I in
      let c = front_size in
      moved_is counts (joined_list p q) p (makers_node p q) n I (omega arith) (omega arith) (makers_node_lem p q n I)

  pub boards_is : (n : ℕ) → IsNode q n → IsNode (joined p q) (boards_node p q n)
  boards_is n I =
      let a = nodes_first q n I in
      let b = nodes_most q n I in
      let c = front_size in
      moved_is counts (joined_list p q) q (boards_node p q) n I (omega arith) (omega arith) (boards_node_lem p q n I)

  -- they stand in a row
  makers_nine : (n : ℕ) → makers_begin p q 9 + nodes_upto p n ≡ makers_node p q n
  makers_nine n = let a = joined_count p q 8 in omega arith

  boards_nine : (n : ℕ) → boards_begin p q 9 + nodes_upto q n ≡ boards_node p q n
  boards_nine n = let a = joined_count p q 8 in omega arith

  module _ (small : (joined p q).size < 65536) (N : NodesInOrder p) (M : NodesInOrder q) where
    -- the board's nodes stand behind the maker's
    no_shared : (i s j t m : ℕ) → MakersRecord p q i → BoardsRecord p q j → use_of ((joined p q).rec i) s ≡ Some m → use_of ((joined p q).rec j) t ≡ Some m → ⊥
    no_shared i s j t m S T e f =
        let u = stem_uses counts (joined_list p q) small p (makers_node p q) (makers_begin p q) N makers_is i s m S e in
        let v = stem_uses counts (joined_list p q) small q (boards_node p q) (boards_begin p q) M boards_is j t m T f in
        let a = nodes_most p u.0 (N.well S.of s u.0 u.1).node in
        let b = nodes_first q v.0 (M.well T.of t v.0 v.1).node in
        omega (arith, u.2, v.2, a, b)

    pub joined_nodes : NodesInOrder (joined p q)
    joined_nodes =
        record {
          well = λ i s n U.
              ⊎_elim
              (λ S. stem_well counts (joined_list p q) small p (makers_node p q) (makers_begin p q) N makers_is makers_nine i s n S U.at)
              (λ S. stem_well counts (joined_list p q) small q (boards_node p q) (boards_begin p q) M boards_is boards_nine i s n S U.at)
              (joined_stems p q i U.low U.high);
          once = λ i s j t n U W.
              ⊎_elim
              (λ S.
              ⊎_elim
              (λ T. stem_once counts (joined_list p q) small p (makers_node p q) (makers_begin p q) N makers_is makers_nine i s j t n S T U.at W.at)
              (λ T. absurd (no_shared i s j t n S T U.at W.at))
              (joined_stems p q j W.low W.high))
              (λ S.
              ⊎_elim
              (λ T. absurd (no_shared j t i s n T S W.at U.at))
              (λ T. stem_once counts (joined_list p q) small q (boards_node p q) (boards_begin p q) M boards_is boards_nine i s j t n S T U.at W.at)
              (joined_stems p q j W.low W.high))
              (joined_stems p q i U.low U.high);
        }
