-- The value of a node is the same in the canonical policy as in the policy itself, so the constraints say the same.
use Prim.Native.Nat.{ℕ, ◌<◌}
use mathlib.Core.Path.{◌≡◌, refl, sym, ap, ◌∙◌}
use mathlib.Core.Bool.{Bool}
use mathlib.Core.List.{List}
use native.Mathlib.Omega.{arith}
use Rattle.policy_image.specs.declared.records.Record.{Record}
use Rattle.policy_image.specs.Policy.{Policy}
use Rattle.policy_image.specs.OfKind.{every}
use Rattle.policy_expressions.specs.Nodes.{IsNode, NodesInOrder}
use Rattle.policy_lists.specs.Lists.{kind_list}
use Rattle.policy_lists.specs.Joined.{renumbered}
use Rattle.policy_lists.specs.Inner.Tests.{every_in, IgnoresNext}
use Rattle.policy_lists.proofs.ListLaws.{every_map, every_kind, every_list, every_from}
use Rattle.policy_facts.specs.Canonical.{canonical_node, canonical_kind, canonical_list, canonical_of}
use Rattle.policy_facts.proofs.KindsLaws.{kinds_of}
use Rattle.policy_facts.proofs.StatedLaws.{canonical_own}
use Rattle.policy_facts.proofs.CanonicalStemLaws.{canonical_node_lem, canonical_is}
use Rattle.policy_facts.proofs.CanonicalNodeLaws.{canonical_nodes}
use Rattle.context.specs.declared.Context.{Context}
use Rattle.context.specs.declared.Event.{Event}
use Rattle.constraints.specs.Eval.{eval_node}
use Rattle.constraints.specs.Constraints.{constraints_hold}
use Rattle.image_laws.proofs.CarryLaws.{says}
use Rattle.image_laws.proofs.StemEvalLaws.{its_value, its_constraints}

-- every constraint of the canonical policy passes where every one of the policy does, with its nodes renumbered
pub every_constraint : (p : Policy) (f : Record → Bool) → IgnoresNext f → every (canonical_of p) 8 f ≡ every p 8 (λ r. f (renumbered (canonical_node p) r))
every_constraint p f I =
    every_from p.counts (canonical_list p) 8 f I
    ∙ every_kind (canonical_list p) 8 f
    ∙ ap (λ (l : List Record). every_in l f) (kinds_of (canonical_kind p) (canonical_own p) 8 9 (omega arith) (omega arith))
    ∙ every_map (renumbered (canonical_node p)) (kind_list p 8) f
    ∙ sym (every_list p 8 (λ r. f (renumbered (canonical_node p) r)))

module _ (p : Policy) (small : (canonical_of p).size < 65536) (N : NodesInOrder p) where
  pub canonical_value : (x y : Context) (n : ℕ) → IsNode p n → eval_node (canonical_of p) x y (canonical_node p n) ≡ eval_node p x y n
  canonical_value =
      its_value p.counts (canonical_list p) small (canonical_nodes p small N) p (canonical_node p) N (canonical_is p) (canonical_node_lem p)

  pub canonical_constraints : (e : Event) (x y : Context) → constraints_hold (canonical_of p) e x y ≡ constraints_hold p e x y
  unfolding constraints_hold
  canonical_constraints e x y =
      every_constraint p (says e x y (canonical_of p)) (λ n r. refl)
      ∙ its_constraints p.counts (canonical_list p) small (canonical_nodes p small N) p (canonical_node p) N (canonical_is p) (canonical_node_lem p) e x y
