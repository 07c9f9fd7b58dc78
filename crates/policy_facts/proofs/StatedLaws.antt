-- What the canonical policy states: of kinds 1 to 7, the facts of the policy itself.
use Prim.Native.Nat.{ℕ, ◌≤◌, ◌<◌}
use mathlib.Core.Path.{◌≡◌, refl, sym, ap, subst, ◌∙◌}
use mathlib.Core.Bool.{Bool, true, false, not, ◌&&◌, cond}
use mathlib.Core.List.{List, map}
use mathlib.Core.Logic.{⊎_elim}
use native.Mathlib.Omega.{arith}
use borrow.Author.Tests.{le-leb, ne_eqb, eqb-false, not-true}
use lib.Dec.{eqb, leb}
use Rattle.base.specs.Bits.{bit}
use Rattle.base.specs.Ranges.{Within}
use Rattle.base.proofs.Numbers.{split_eq}
use Rattle.base.proofs.BoolLaws.{clash, same_truth, and_true, and_first, and_second}
use Rattle.base.proofs.BitLaws.{bit_zero}
use Rattle.policy_image.specs.declared.records.Record.{Record}
use Rattle.policy_image.specs.Counts.{CountsInRange}
use Rattle.policy_image.specs.Policy.{Policy}
use Rattle.policy_image.specs.OfKind.{some}
use Rattle.policy_links.proofs.KindLaws.{OfKind}
use Rattle.policy_fields.specs.Fields.{FieldsInRange}
use Rattle.policy_lists.specs.Lists.{record_list, kind_list}
use Rattle.policy_lists.specs.Joined.{renumbered}
use Rattle.policy_lists.specs.Inner.Tests.{some_in, IgnoresNext}
use Rattle.policy_lists.proofs.ListLaws.{some_kind, some_from}
use Rattle.policy_lists.proofs.RenumberLaws.{renumbered_kind}
use Rattle.policy_lists.proofs.JoinTurnLaws.{Each, kind_own}
use Rattle.policy_facts.specs.Facts.{has_key, is_stated, permits, united_mask, carries_mask, is_written}
use Rattle.policy_facts.specs.Canonical.{key_a, key_b, key_c, key_numbers, fact_record, fact_kind, canonical_node, canonical_kind, canonical_list, canonical_of}
use Rattle.policy_facts.specs.Inner.FactTable.{Written}
use Rattle.policy_facts.proofs.KindsLaws.{kinds_of}
use Rattle.policy_facts.proofs.FactListLaws.{fact_own, fact_yes, fact_some}
use Rattle.policy_facts.proofs.MaskLaws.{bit_below, mask_small, mask_bit, mask_holds, mask_found}
use Rattle.policy_facts.proofs.FactFieldLaws.{mask_within, fact_fields}
use Rattle.policy_facts.proofs.KeyLaws.{says_cases, says_one, says_no_three, says_low, has_key_lem, key_has, states_record, permits_record, KeyOf, key_number}

-- ---- the records of kind k of the canonical policy
module _ (p : Policy) where
  pub canonical_own : (k : ℕ) → Each (λ r. r.kind ≡ k) (canonical_kind p k)
  canonical_own k = go (leb k 7)
    where
      go : (t : Bool) → Each (λ r. r.kind ≡ k) (cond t (fact_kind p k) (map (renumbered (canonical_node p)) (kind_list p k)))
      go true = fact_own p k key_numbers
      go false = kind_own (renumbered (canonical_node p)) (renumbered_kind (canonical_node p)) k (record_list p)

  pub canonical_some : (k : ℕ) (f : Record → Bool) → IgnoresNext f → Within 1 9 k → some (canonical_of p) k f ≡ some_in (canonical_kind p k) f
  canonical_some k f I w =
      some_from p.counts (canonical_list p) k f I
      ∙ some_kind (canonical_list p) k f
      ∙ ap (λ (l : List Record). some_in l f) (kinds_of (canonical_kind p) canonical_own k 9 w.low w.high)

  -- of kinds 1 to 7, those of the facts
  pub canonical_fact : (k : ℕ) → k ≤ 7 → canonical_kind p k ≡ fact_kind p k
  canonical_fact k h = ap (λ (t : Bool). cond t (fact_kind p k) (map (renumbered (canonical_node p)) (kind_list p k))) (le-leb k 7 h)

  pub some_fact : (k : ℕ) (f : Record → Bool) → IgnoresNext f → Within 1 7 k → some (canonical_of p) k f ≡ some_in (fact_kind p k) f
  some_fact k f I w =
      canonical_some k f I (record { low = w.low; high = omega (arith, w.high) }) ∙ ap (λ (l : List Record). some_in l f) (canonical_fact k w.high)

-- ---- which keys are written
module _ (p : Policy) (k : ℕ) where
  module _ (a b c : ℕ) where
    pub written_by : (t : Bool) → carries_mask k ≡ t → is_written p k a b c ≡ cond t (not (eqb (united_mask p k a b c) 0)) (is_stated p k a b c)
    written_by t m = ap (λ (t : Bool). cond t (not (eqb (united_mask p k a b c) 0)) (is_stated p k a b c)) m

    -- of a kind that carries a mask, those with some permission
    pub mask_written : carries_mask k ≡ true → (i : ℕ) → i < 32 → permits p k a b c i ≡ true → is_written p k a b c ≡ true
    mask_written m i h e = written_by true m ∙ ap not (ne_eqb (united_mask p k a b c) 0 (mask_holds (permits p k a b c) 32 i h e))

    pub mask_permits : carries_mask k ≡ true → is_written p k a b c ≡ true → (i : ℕ) × (i < 32) × (permits p k a b c i ≡ true)
    mask_permits m w =
        mask_found (permits p k a b c) 32
        (eqb-false (united_mask p k a b c) 0 (not-true (eqb (united_mask p k a b c) 0) (sym (written_by true m) ∙ w)))

    -- .. and of any kind, those that some record has
    pub written_key : is_written p k a b c ≡ true → (i : ℕ) × OfKind p k i × (has_key a b c (p.rec i) ≡ true)
    written_key w = go (carries_mask k) refl
      where
        go : (t : Bool) → carries_mask k ≡ t → (i : ℕ) × OfKind p k i × (has_key a b c (p.rec i) ≡ true)
        go true m = let s = mask_permits m w in let r = permits_record p k a b c s.0 s.2 in (r.0, r.1, r.2)
        go false m = states_record p k a b c (sym (written_by false m) ∙ w)

    -- a flow record's 3 is none of them
    pub no_three : is_written p k a b c ≡ true → k ≡ 3 → b ≡ 3 → ⊥
    no_three w e h =
        let s = written_key w in
        let r = p.rec s.0 in
        says_no_three r b (key_has a b c r s.2).1 (s.1.kind ∙ e) h

  -- ---- the record of a key that is written has that key alone
  module _ (x a b c : ℕ) (w : Written p k x) where
    pub own_key : KeyOf a b c x → has_key a b c (fact_record p k x) ≡ true
    own_key K =
        has_key_lem a b c (fact_record p k x) K.is_a
        (says_one (fact_record p k x) b (λ s. no_three (key_a x) (key_b x) (key_c x) w s.0 s.1) K.is_b) K.is_c

    pub key_own : has_key a b c (fact_record p k x) ≡ true → KeyOf a b c x
    key_own e =
        let h = key_has a b c (fact_record p k x) e in
        record {
          is_a = h.0;
          is_b = ⊎_elim (λ s. absurd (no_three (key_a x) (key_b x) (key_c x) w s.0.0 s.0.1)) (λ s. s.1) (says_cases (fact_record p k x) b h.1);
          is_c = h.2;
        }

-- of a kind that carries no mask, the mask is 0
pub no_mask : (p : Policy) → CountsInRange p.counts → FieldsInRange p → (k a b c : ℕ) → Within 1 7 k → carries_mask k ≡ false → united_mask p k a b c ≡ 0
no_mask p C E k a b c w m =
    ⊎_elim (λ z. z)
    (λ d.
    let s = mask_found (permits p k a b c) 32 d in
    let r = permits_record p k a b c s.0 s.2 in
    let z = (fact_fields p C E k r.0 w r.1).bare m in
    absurd (clash r.3 (ap (λ (n : ℕ). bit n s.0) z ∙ bit_zero s.0)))
    (split_eq (united_mask p k a b c) 0)

-- ---- the facts of the canonical policy
states_some : (p : Policy) (k a b c : ℕ) → is_stated p k a b c ≡ some p k (has_key a b c)
unfolding is_stated
states_some p k a b c = refl

permits_some : (p : Policy) (k a b c i : ℕ) → permits p k a b c i ≡ some p k (λ r. has_key a b c r && bit r.mask i)
unfolding permits
permits_some p k a b c i = refl

at_key : (g : ℕ → ℕ → ℕ → Bool) (a b c x : ℕ) → KeyOf a b c x → g (key_a x) (key_b x) (key_c x) ≡ g a b c
at_key g a b c x K = λ j. g (K.is_a j) (K.is_b j) (K.is_c j)

module _ (p : Policy) (C : CountsInRange p.counts) (E : FieldsInRange p) (k a b c : ℕ) where
  -- a key that some record has is a number
  pub stated_number : (i : ℕ) → Within 1 7 k → OfKind p k i → has_key a b c (p.rec i) ≡ true → (x : ℕ) × (x < key_numbers) × KeyOf a b c x
  stated_number i w o e =
      let r = p.rec i in
      let F = fact_fields p C E k i w o in
      let h = key_has a b c r e in
      key_number a b c (subst (λ (n : ℕ). n < 256) h.0 F.a) (says_low r b h.1 F.b) (subst (λ (n : ℕ). n < 256) h.2 F.c)

  -- ---- kinds 1, 5, 6 and 7: the same keys
  module _ (w : Within 1 7 k) (m : carries_mask k ≡ false) where
    key_stated : some_in (fact_kind p k) (has_key a b c) ≡ true → is_stated p k a b c ≡ true
    key_stated e =
        let s = fact_some p k (has_key a b c) key_numbers e in
        let x : ℕ = s.0 in
        sym (at_key (is_stated p k) a b c x (key_own p k x a b c s.2 s.3)) ∙ sym (written_by p k (key_a x) (key_b x) (key_c x) false m) ∙ s.2

    stated_key : is_stated p k a b c ≡ true → some_in (fact_kind p k) (has_key a b c) ≡ true
    stated_key e =
        let s = states_record p k a b c e in
        let n = stated_number s.0 w s.1 s.2 in
        let x : ℕ = n.0 in
        let t : Written p k x = written_by p k (key_a x) (key_b x) (key_c x) false m ∙ at_key (is_stated p k) a b c x n.2 ∙ e in
        fact_yes p k (has_key a b c) key_numbers x n.1 t (own_key p k x a b c t n.2)

    pub states_canonical : is_stated (canonical_of p) k a b c ≡ is_stated p k a b c
    states_canonical =
        states_some (canonical_of p) k a b c ∙ some_fact p k (has_key a b c) (λ n r. refl) w
        ∙ same_truth (some_in (fact_kind p k) (has_key a b c)) (is_stated p k a b c) key_stated stated_key

  -- ---- kinds 2, 3 and 4: the same permissions
  module _ (i : ℕ) (m : carries_mask k ≡ true) where
    abbrev bit_test : Record → Bool
    bit_test r = has_key a b c r && bit r.mask i

    bit_stated : some_in (fact_kind p k) bit_test ≡ true → permits p k a b c i ≡ true
    bit_stated e =
        let s = fact_some p k bit_test key_numbers e in
        let x : ℕ = s.0 in
        let r = fact_record p k x in
        let K = key_own p k x a b c s.2 (and_first (has_key a b c r) (bit r.mask i) s.3) in
        let h = and_second (has_key a b c r) (bit r.mask i) s.3 in
        let f : ℕ → Bool = permits p k (key_a x) (key_b x) (key_c x) in
        let l = bit_below r.mask 32 (mask_small f 32) i h in
        sym (at_key (λ a b c. permits p k a b c i) a b c x K) ∙ sym (mask_bit f 32 i l) ∙ h

    stated_bit : permits p k a b c i ≡ true → some_in (fact_kind p k) bit_test ≡ true
    stated_bit e =
        let s = permits_record p k a b c i e in
        let w = mask_within k m in
        let n = stated_number s.0 w s.1 s.2 in
        let x : ℕ = n.0 in
        let r = fact_record p k x in
        let l : i < 32 = bit_below (p.rec s.0).mask 32 (fact_fields p C E k s.0 w s.1).mask i s.3 in
        let h : permits p k (key_a x) (key_b x) (key_c x) i ≡ true = at_key (λ a b c. permits p k a b c i) a b c x n.2 ∙ e in
        let t : Written p k x = mask_written p k (key_a x) (key_b x) (key_c x) m i l h in
        fact_yes p k bit_test key_numbers x n.1 t
        (and_true (has_key a b c r) (bit r.mask i) (own_key p k x a b c t n.2) (mask_bit (permits p k (key_a x) (key_b x) (key_c x)) 32 i l ∙ h))

    pub permits_canonical : permits (canonical_of p) k a b c i ≡ permits p k a b c i
    permits_canonical =
        permits_some (canonical_of p) k a b c i ∙ some_fact p k bit_test (λ n r. refl) (mask_within k m)
        ∙ same_truth (some_in (fact_kind p k) bit_test) (permits p k a b c i) bit_stated stated_bit
