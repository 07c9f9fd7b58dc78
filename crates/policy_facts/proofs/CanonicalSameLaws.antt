-- The canonical policy of an accepted policy says the same as it.
use Prim.Native.Nat.{ℕ, zero, suc, ◌+◌, ◌≤◌, ◌<◌}
use mathlib.Core.Path.{◌≡◌, refl, sym, ap, ◌∙◌}
use mathlib.Core.List.{map, map-map}
use native.Mathlib.Omega.{arith}
use lib.ListN.{length}
use Rattle.policy_image.specs.declared.records.Record.{Record}
use Rattle.policy_image.specs.Counts.{CountsInRange}
use Rattle.policy_image.specs.Layout.{left_of}
use Rattle.policy_image.specs.Policy.{Policy}
use Rattle.policy_fields.specs.Fields.{FieldsInRange}
use Rattle.policy_expressions.specs.Nodes.{IsNode, NodesInOrder}
use Rattle.policy_lists.specs.Lists.{kind_list, with_next}
use Rattle.policy_lists.specs.Joined.{nodes_upto, kinds_upto, renumbered}
use Rattle.policy_lists.proofs.NodeLaws.{place_length, other_length}
use Rattle.policy_lists.proofs.PlaceLaws.{kind_at, kind_stands}
use Rattle.policy_lists.proofs.StemNodeLaws.{nodes_most}
use Rattle.policy_facts.specs.Canonical.{canonical_node, canonical_kind, canonical_list, canonical_of}
use Rattle.policy_facts.specs.Cases.Same.{by_place, Same}
use Rattle.policy_facts.proofs.KindsLaws.{map_each, each_kind, kinds_of}
use Rattle.policy_facts.proofs.StatedLaws.{canonical_own, states_canonical, permits_canonical}
use Rattle.policy_facts.proofs.RenumberTwiceLaws.{renumbered_next, renumber_twice}
use Rattle.policy_facts.proofs.UsedNodeLaws.{used_left, renumbered_used}
use Rattle.policy_facts.proofs.PolicyFromLaws.{kind_from}
use Rattle.policy_facts.proofs.CanonicalTurnLaws.{canonical_kept, constraints_end, canonical_size}
use Rattle.policy_facts.proofs.CanonicalStemLaws.{canonical_is, canonical_nine}

module _ (p : Policy) where
  -- ---- the nodes of the canonical policy, counted
  -- the records of kinds 1 to 8 stand before them
  abbrev before : ℕ
  before = length (kinds_upto (canonical_kind p) 8)

  before_size : (canonical_of p).size ≡ before + length (kind_list p 9)
  before_size = let a = canonical_size p in let b = constraints_end p in omega arith

  no_nodes : (n : ℕ) → n ≤ before → nodes_upto (canonical_of p) n ≡ 0
  no_nodes zero h = refl
  no_nodes (suc n) h =
      let c = before_size in
      other_length (canonical_of p).rec 9 n
      (λ e. let s = (kind_stands (canonical_kind p) (canonical_own p) 8 (suc n) (omega arith) (omega arith) e).low in let z : ⊥ = omega arith in z)
      ∙ no_nodes n (omega arith)

  -- node m of them is record before + m
  nodes_counted : (m : ℕ) → m ≤ length (kind_list p 9) → nodes_upto (canonical_of p) (before + m) ≡ m
  nodes_counted zero h = ap (nodes_upto (canonical_of p)) (let e : before + 0 ≡ before = omega arith in e) ∙ no_nodes before (omega arith)
  nodes_counted (suc m) h =
      let c = before_size in
      ap (nodes_upto (canonical_of p)) (let e : before + suc m ≡ suc (before + m) = omega arith in e)
      ∙ place_length (canonical_of p).rec 9 (before + m) (kind_at (canonical_kind p) (canonical_own p) 8 (suc (before + m)) (omega arith) (omega arith) (omega arith))
      ∙ ap suc (nodes_counted m (omega arith))

  -- a node of the policy keeps its place among the nodes
  node_place : (n : ℕ) → IsNode p n → nodes_upto (canonical_of p) (canonical_node p n) ≡ nodes_upto p n
  node_place n I = ap (nodes_upto (canonical_of p)) (sym (canonical_nine p n)) ∙ nodes_counted (nodes_upto p n) (nodes_most p n I)

  module _ (N : NodesInOrder p) (small : (canonical_of p).size < 65536) where
    -- so a record says the same by place
    record_place : (i : ℕ) → 1 ≤ i → i ≤ p.size
        → renumbered (nodes_upto (canonical_of p)) (renumbered (canonical_node p) (p.rec i)) ≡ renumbered (nodes_upto p) (p.rec i)
    record_place i a b =
        renumber_twice (canonical_node p) (nodes_upto (canonical_of p)) (p.rec i)
        (λ h. let m = (canonical_is p (left_of (p.rec i)) (used_left p N i a b h)).high in omega arith)
        ∙ renumbered_used p N i a b (λ n. nodes_upto (canonical_of p) (canonical_node p n)) (nodes_upto p) node_place

    -- ---- the lists of kinds 8 and 9
    abbrev placed : Record → Record
    placed r = with_next 0 (renumbered (nodes_upto (canonical_of p)) r)

    place_same : (k : ℕ) → 7 < k → k ≤ 9 → by_place p k ≡ by_place (canonical_of p) k
    place_same k a b =
        sym
        (kind_from k placed (λ n r. ap (with_next 0) (renumbered_next (nodes_upto (canonical_of p)) n r)) p.counts (canonical_list p)
        ∙ ap (map placed) (kinds_of (canonical_kind p) (canonical_own p) k 9 (omega arith) b ∙ canonical_kept p k a)
        ∙ map-map placed (renumbered (canonical_node p)) (kind_list p k)
        ∙ map_each (λ r. placed (renumbered (canonical_node p) r)) (λ r. with_next 0 (renumbered (nodes_upto p) r)) (kind_list p k)
        (each_kind (λ r. placed (renumbered (canonical_node p) r) ≡ with_next 0 (renumbered (nodes_upto p) r)) p.rec k p.size
        (λ i l h e. ap (with_next 0) (record_place i l h))))

    pub same_as_canonical : CountsInRange p.counts → FieldsInRange p → Same p (canonical_of p)
    same_as_canonical C E =
        record {
          types = refl;
          roles = refl;
          users = refl;
          classes = refl;
          keys = λ k a b c w m. sym (states_canonical p C E k a b c w m);
          permissions = λ k a b c i m. sym (permits_canonical p C E k a b c i m);
          constraints = place_same 8 (omega arith) (omega arith);
          nodes = place_same 9 (omega arith) (omega arith);
        }
