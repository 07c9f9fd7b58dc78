-- Question 6 of the canonical policy: the records of facts use no node, and the nodes stay nodes, in their order, and used at most once.
use Prim.Native.Nat.{ℕ, zero, suc, ◌≤◌, ◌<◌}
use mathlib.Core.Path.{◌≡◌, sym, ap, ◌∙◌}
use mathlib.Core.Logic.{⊎_elim}
use native.Mathlib.Omega.{arith}
use Rattle.policy_image.specs.declared.records.Record.{Record}
use Rattle.policy_image.specs.Policy.{Policy}
use Rattle.std.specs.Prelude.{None, Some}
use Rattle.policy_expressions.specs.Nodes.{use_of, NodesInOrder}
use Rattle.policy_expressions.proofs.UseLaws.{use_none, use_none_right}
use Rattle.policy_lists.specs.Lists.{record_in, link_in}
use Rattle.policy_lists.proofs.StemNodeLaws.{use_any_next, stem_well, stem_once}
use Rattle.policy_facts.specs.Canonical.{fact_record, canonical_node, canonical_list, canonical_of}
use Rattle.policy_facts.proofs.CanonicalStemLaws.{FactRecord, canonical_begin, canonical_stems, canonical_is, canonical_nine}

apart : {m : ℕ} → None ≡ Some m → ⊥
apart e = let o : ◌≡◌ {A = ℕ} 0 1 = cc in omega arith

-- a record of kinds 1 to 7 uses no node
no_use : (r : Record) → r.kind ≤ 7 → (s m : ℕ) → use_of r s ≡ Some m → ⊥
unfolding use_of
no_use r h zero m e = apart (sym (use_none r (λ k. let z : ⊥ = omega arith in z) (λ k a b. let z : ⊥ = omega arith in z)) ∙ e)
no_use r h (suc zero) m e = apart (sym (use_none_right r (λ k a b. let z : ⊥ = omega arith in z)) ∙ e)
no_use r h (suc (suc s)) m e = apart e

module _ (p : Policy) where
  fact_uses : (i s m : ℕ) → FactRecord p i → use_of ((canonical_of p).rec i) s ≡ Some m → ⊥
  fact_uses i s m F e =
      no_use (fact_record p F.kind F.key) F.range.high s m
      (ap (λ (r : Record). use_of r s) (sym F.same) ∙ sym (use_any_next (link_in (canonical_list p) i) (record_in (canonical_list p) i) s) ∙ e)

  pub canonical_nodes : (canonical_of p).size < 65536 → NodesInOrder p → NodesInOrder (canonical_of p)
  canonical_nodes small N =
      record {
        well = λ i s n U.
            ⊎_elim (λ F. absurd (fact_uses i s n F U.at))
            (λ S. stem_well p.counts (canonical_list p) small p (canonical_node p) (canonical_begin p) N (canonical_is p) (canonical_nine p) i s n S U.at)
            (canonical_stems p i U.low U.high);
        once = λ i s j t n U W.
            ⊎_elim (λ F. absurd (fact_uses i s n F U.at))
            (λ S.
            ⊎_elim (λ F. absurd (fact_uses j t n F W.at))
            (λ T.
            stem_once p.counts (canonical_list p) small p (canonical_node p) (canonical_begin p) N (canonical_is p) (canonical_nine p) i s j t n S T U.at W.at)
            (canonical_stems p j W.low W.high))
            (canonical_stems p i U.low U.high);
      }
