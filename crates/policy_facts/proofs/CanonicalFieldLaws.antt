-- Question 5 of the canonical policy: the record of a fact lies within the ranges of its kind, since a record that states it does; and a
-- renumbered record stays within its own.
use Prim.Native.Nat.{ℕ, ◌≤◌, ◌<◌}
use mathlib.Core.Path.{◌≡◌, refl, sym, subst, ◌∙◌}
use mathlib.Core.Bool.{Bool, true, false}
use mathlib.Core.Logic.{⊎_elim}
use native.Mathlib.Omega.{arith}
use native.Mathlib.Nat.{le_refl}
use Rattle.base.specs.Ranges.{Within}
use Rattle.policy_image.specs.Counts.{CountsInRange}
use Rattle.policy_image.specs.Policy.{Policy}
use Rattle.policy_links.proofs.KindLaws.{OfKind}
use Rattle.policy_fields.specs.declared.Limits.{Limits}
use Rattle.policy_fields.specs.Fields.{limits_of, WithinLimits, Fits, FieldsInRange}
use Rattle.policy_expressions.specs.Nodes.{NodesInOrder}
use Rattle.policy_lists.specs.Lists.{record_in}
use Rattle.policy_lists.proofs.LimitLaws.{AtLeast}
use Rattle.policy_lists.proofs.StemFieldLaws.{from_fields, stem_fits}
use Rattle.policy_facts.specs.Facts.{says_b, permits, united_mask, carries_mask}
use Rattle.policy_facts.specs.Canonical.{key_a, key_b, key_c, fact_record, canonical_node, canonical_list, canonical_of}
use Rattle.policy_facts.specs.Inner.FactTable.{Written}
use Rattle.policy_facts.proofs.MaskLaws.{mask_small}
use Rattle.policy_facts.proofs.FactFieldLaws.{most_mask, fact_limits}
use Rattle.policy_facts.proofs.KeyLaws.{says_cases, key_has}
use Rattle.policy_facts.proofs.StatedLaws.{written_key, no_mask}
use Rattle.policy_facts.proofs.CanonicalStemLaws.{FactRecord, canonical_begin, canonical_stems, canonical_is}

-- ---- the record of a fact
module _ (p : Policy) (C : CountsInRange p.counts) (F : FieldsInRange p) (k x : ℕ) (w : Within 1 7 k) (W : Written p k x) where
  abbrev lines : Limits
  lines = limits_of p.counts k (key_a x)

  -- a record that states the key lies within its ranges ..
  stated_fits : (i : ℕ) → OfKind p k i → (p.rec i).a ≡ key_a x → WithinLimits lines (p.rec i)
  stated_fits i O e =
      subst (λ (a : ℕ). WithinLimits (limits_of p.counts k a) (p.rec i)) e
      (subst (λ (κ : ℕ). WithinLimits (limits_of p.counts κ (p.rec i).a) (p.rec i)) O.kind (F.each i O.low O.high))

  -- .. and the b that it says does, too: of kind 3 it may say 1 and 2 by 3
  says_within : (i : ℕ) → OfKind p k i → (p.rec i).a ≡ key_a x → says_b (p.rec i) (key_b x) ≡ true → Within lines.b.low lines.b.high (key_b x)
  says_within i O e h =
      ⊎_elim
      (λ s.
      subst (λ (κ : ℕ). Within (limits_of p.counts κ (key_a x)).b.low (limits_of p.counts κ (key_a x)).b.high (key_b x)) (sym s.0.0 ∙ O.kind)
      (⊎_elim (λ e. record { low = omega arith; high = omega arith }) (λ e. record { low = omega arith; high = omega arith }) s.1))
      (λ s. subst (Within lines.b.low lines.b.high) s.1 (stated_fits i O e).b)
      (says_cases (p.rec i) (key_b x) h)

  united_most : united_mask p k (key_a x) (key_b x) (key_c x) ≤ most_mask (carries_mask k)
  united_most = go (carries_mask k) refl
    where
      go : (t : Bool) → carries_mask k ≡ t → united_mask p k (key_a x) (key_b x) (key_c x) ≤ most_mask t
      go true e = let m = mask_small (permits p k (key_a x) (key_b x) (key_c x)) 32 in omega arith
      go false e = let z = no_mask p C F k (key_a x) (key_b x) (key_c x) w e in omega arith

  fact_fits : Fits p.counts (fact_record p k x)
  fact_fits =
      let S = written_key p k (key_a x) (key_b x) (key_c x) W in
      let H = key_has (key_a x) (key_b x) (key_c x) (p.rec S.0) S.2 in
      let G = stated_fits S.0 S.1 H.0 in
      let l = fact_limits p.counts C (key_a x) k w in
      record {
        a = subst (Within lines.a.low lines.a.high) H.0 G.a;
        b = says_within S.0 S.1 H.0 H.1;
        c = subst (Within lines.c.low lines.c.high) H.2 G.c;
        d = record { low = omega (arith, l.d); high = omega arith };
        e = record { low = omega (arith, l.e); high = omega arith };
        mask = record { low = omega (arith, l.least); high = omega (arith, l.most, united_most) };
      }

-- ---- the canonical policy
module _ (p : Policy) where
  same_counts : AtLeast p.counts (canonical_of p).counts
  same_counts =
      let c = p.counts in
      record { types = le_refl c.types; roles = le_refl c.roles; users = le_refl c.users; classes = le_refl c.classes }

  fact_within : CountsInRange p.counts → FieldsInRange p → (i : ℕ) → FactRecord p i → Fits (canonical_of p).counts (record_in (canonical_list p) i)
  fact_within C F i I =
      let f : Fits (canonical_of p).counts (fact_record p I.kind I.key) = fact_fits p C F I.kind I.key I.range I.written in
      subst (Fits (canonical_of p).counts) (sym I.same) f

  pub canonical_fields : (canonical_of p).size < 65536 → CountsInRange p.counts → NodesInOrder p → FieldsInRange p → FieldsInRange (canonical_of p)
  canonical_fields small C N F =
      from_fields p.counts (canonical_list p)
      (λ i a b.
      ⊎_elim (fact_within C F i)
      (λ S. stem_fits p.counts (canonical_list p) small p (canonical_node p) (canonical_begin p) N F (canonical_is p) same_counts i S)
      (canonical_stems p i a b))
