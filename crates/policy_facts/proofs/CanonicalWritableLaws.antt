-- The canonical policy of one that can be written can be written, where its records are few enough.
use Prim.Native.Nat.{ℕ, ◌≤◌, ◌<◌}
use mathlib.Core.Path.{sym, subst}
use mathlib.Core.Logic.{⊎_elim}
use native.Mathlib.Omega.{arith}
use Rattle.policy_image.specs.Policy.{Policy}
use Rattle.policy_image.specs.Inner.Sizes.{most_records}
use Rattle.policy_image.specs.Inner.Writable.{WritableRecord, Writable}
use Rattle.policy_expressions.specs.Nodes.{NodesInOrder}
use Rattle.policy_lists.specs.Lists.{record_in}
use Rattle.policy_lists.proofs.StemWritableLaws.{from_writable, stem_writable}
use Rattle.policy_facts.specs.Facts.{permits}
use Rattle.policy_facts.specs.Canonical.{key_a, key_b, key_c, key_numbers, fact_record, canonical_node, canonical_list, canonical_of}
use Rattle.policy_facts.proofs.MaskLaws.{mask_small}
use Rattle.policy_facts.proofs.CanonicalStemLaws.{FactRecord, canonical_begin, canonical_stems, canonical_is}

-- the a, b and c of a key are bytes
fact_writable : (p : Policy) (k x : ℕ) → k ≤ 7 → x < key_numbers → WritableRecord (fact_record p k x)
fact_writable p k x h l =
    record {
      next = omega arith;
      bytes = record { kind = omega arith; a = omega arith; b = omega arith; c = omega arith; d = omega arith; e = omega arith };
      mask = mask_small (permits p k (key_a x) (key_b x) (key_c x)) 32;
    }

module _ (p : Policy) where
  fact_written : (i : ℕ) → FactRecord p i → WritableRecord (record_in (canonical_list p) i)
  fact_written i I = subst WritableRecord (sym I.same) (fact_writable p I.kind I.key I.range.high I.low)

  pub canonical_writable : (canonical_of p).size ≤ most_records → NodesInOrder p → Writable p → Writable (canonical_of p)
  canonical_writable few N O =
      let c = O.counts in
      from_writable p.counts (canonical_list p) few
      (record { types = c.types; roles = c.roles; users = c.users; classes = c.classes; records = few })
      (λ i w.
      ⊎_elim (fact_written i)
      (λ S. stem_writable p.counts (canonical_list p) (omega arith) p (canonical_node p) (canonical_begin p) N O (canonical_is p) i S)
      (canonical_stems p i w.low w.high))
