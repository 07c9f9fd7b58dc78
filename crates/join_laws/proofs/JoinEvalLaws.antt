-- The value of a node is the same in the joined policy as in its own, so every constraint of both applies there as it stands: "constraints all
-- apply".
use Prim.Native.Nat.{ℕ, ◌<◌}
use mathlib.Core.Path.{◌≡◌, refl, ap₂, ◌∙◌}
use mathlib.Core.Bool.{◌&&◌}
use native.Mathlib.Omega.{arith}
use Rattle.policy_image.specs.declared.counts.Counts.{Counts}
use Rattle.policy_image.specs.Policy.{Policy}
use Rattle.policy_expressions.specs.Nodes.{IsNode, NodesInOrder}
use Rattle.policy_lists.specs.Joined.{larger_counts, makers_node, boards_node, joined_list, joined}
use Rattle.policy_lists.proofs.JoinLaws.{every_joined}
use Rattle.policy_lists.proofs.NodeLaws.{makers_node_lem, boards_node_lem}
use Rattle.policy_lists.proofs.JoinNodeLaws.{makers_is, boards_is, joined_nodes}
use Rattle.context.specs.declared.Context.{Context}
use Rattle.context.specs.declared.Event.{Event}
use Rattle.constraints.specs.Eval.{eval_node}
use Rattle.constraints.specs.Constraints.{constraints_hold}
use Rattle.image_laws.proofs.CarryLaws.{says}
use Rattle.image_laws.proofs.StemEvalLaws.{its_value, its_constraints}

module _ (p q : Policy) (small : (joined p q).size < 65536) (N : NodesInOrder p) (M : NodesInOrder q) where
  abbrev counts : Counts
  counts = larger_counts p.counts q.counts

  nodes : NodesInOrder (joined p q)
  nodes = joined_nodes p q small N M

  -- ---- the maker's nodes, and the board's
  pub makers_value : (x y : Context) (n : ℕ) → IsNode p n → eval_node (joined p q) x y (makers_node p q n) ≡ eval_node p x y n
  makers_value = its_value counts (joined_list p q) small nodes p (makers_node p q) N (makers_is p q) (makers_node_lem p q)

  pub boards_value : (x y : Context) (n : ℕ) → IsNode q n → eval_node (joined p q) x y (boards_node p q n) ≡ eval_node q x y n
  boards_value = its_value counts (joined_list p q) small nodes q (boards_node p q) M (boards_is p q) (boards_node_lem p q)

  -- "constraints all apply"
  pub joined_constraints : (e : Event) (x y : Context) → constraints_hold (joined p q) e x y ≡ (constraints_hold p e x y && constraints_hold q e x y)
  unfolding constraints_hold
  joined_constraints e x y =
      every_joined p q 8 (says e x y (joined p q)) (λ n r. refl) (record { low = omega arith; high = omega arith })
      ∙ ap₂ ◌&&◌ (its_constraints counts (joined_list p q) small nodes p (makers_node p q) N (makers_is p q) (makers_node_lem p q) e x y)
      (its_constraints counts (joined_list p q) small nodes q (boards_node p q) M (boards_is p q) (boards_node_lem p q) e x y)
