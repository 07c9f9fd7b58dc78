-- Policies that say the same have one canonical policy.
use Prim.Native.Nat.{ℕ, ◌+◌, ◌≤◌, ◌<◌}
use mathlib.Core.Path.{◌≡◌, refl, sym, ap, ap₂, ◌∙◌}
use mathlib.Core.Bool.{Bool, true, false, not, cond}
use mathlib.Core.List.{List, [], ◌∷◌, map, map-map}
use mathlib.Core.Logic.{⊎_elim}
use native.Mathlib.Omega.{arith}
use lib.Dec.{eqb}
use lib.ListN.{length, length-map}
use Rattle.base.specs.Ranges.{Within}
use Rattle.base.proofs.Numbers.{split_le, two_of}
use Rattle.base.proofs.BoolLaws.{true_or_false}
use Rattle.policy_image.specs.declared.records.Record.{Record}
use Rattle.policy_image.specs.Counts.{CountsInRange}
use Rattle.policy_image.specs.Layout.{left_of}
use Rattle.policy_image.specs.Policy.{Policy}
use Rattle.policy_fields.specs.Fields.{FieldsInRange}
use Rattle.policy_lists.specs.Lists.{kind_list, with_next, policy_from}
use Rattle.policy_lists.specs.Joined.{nodes_upto, kinds_upto, renumbered}
use Rattle.policy_lists.proofs.NodeLaws.{most_length}
use Rattle.policy_facts.specs.Facts.{is_stated, permits, united_mask, carries_mask, is_written}
use Rattle.policy_facts.specs.Canonical.{key_a, key_b, key_c, key_numbers, fact_at, fact_kind, canonical_node, canonical_kind, canonical_list, canonical_of}
use Rattle.policy_facts.specs.Cases.Same.{by_place, Same}
use Rattle.policy_facts.proofs.KindsLaws.{kinds_map, kinds_same}
use Rattle.policy_facts.proofs.FactListLaws.{facts_same}
use Rattle.policy_facts.proofs.MaskLaws.{mask_same}
use Rattle.policy_facts.proofs.StatedLaws.{canonical_fact, no_mask}
use Rattle.policy_facts.proofs.CanonicalTurnLaws.{canonical_kept}
use Rattle.policy_facts.proofs.RenumberTwiceLaws.{renumbered_next, renumber_twice}
use Rattle.policy_facts.proofs.PolicyFromLaws.{from_bare}

-- ---- "say the same" is an equality
pub same_refl : (p : Policy) → Same p p
same_refl p =
    record {
      types = refl;
      roles = refl;
      users = refl;
      classes = refl;
      keys = λ k a b c w m. refl;
      permissions = λ k a b c i m. refl;
      constraints = refl;
      nodes = refl;
    }

pub same_sym : {p q : Policy} → Same p q → Same q p
same_sym S =
    record {
      types = sym S.types;
      roles = sym S.roles;
      users = sym S.users;
      classes = sym S.classes;
      keys = λ k a b c w m. sym (S.keys k a b c w m);
      permissions = λ k a b c i m. sym (S.permissions k a b c i m);
      constraints = sym S.constraints;
      nodes = sym S.nodes;
    }

pub same_trans : {p q o : Policy} → Same p q → Same q o → Same p o
same_trans S T =
    record {
      types = S.types ∙ T.types;
      roles = S.roles ∙ T.roles;
      users = S.users ∙ T.users;
      classes = S.classes ∙ T.classes;
      keys = λ k a b c w m. S.keys k a b c w m ∙ T.keys k a b c w m;
      permissions = λ k a b c i m. S.permissions k a b c i m ∙ T.permissions k a b c i m;
      constraints = S.constraints ∙ T.constraints;
      nodes = S.nodes ∙ T.nodes;
    }

-- ---- kinds 8 and 9: a place in the list of nodes, behind the records of all other kinds
abbrev front_of : Policy → ℕ
front_of p = length (kinds_upto (fact_kind p) 7) + length (kind_list p 8)

place_fits : (p : Policy) (r : Record) → nodes_upto p (left_of r) < 65536
place_fits p r = let h = most_length p.rec 9 (left_of r) in let l : left_of r < 65536 = omega arith in omega arith

by_place_lem : (p : Policy) (k : ℕ) → 7 < k → map (with_next 0) (canonical_kind p k) ≡ map (renumbered (λ n. front_of p + n)) (by_place p k)
by_place_lem p k h =
    ap (map (with_next 0)) (canonical_kept p k h)
    ∙ map-map (with_next 0) (renumbered (canonical_node p)) (kind_list p k)
    ∙ (λ j. map (λ r. each r j) (kind_list p k))
    ∙ sym (map-map (renumbered (λ n. front_of p + n)) (λ r. with_next 0 (renumbered (nodes_upto p) r)) (kind_list p k))
  where
    each : (r : Record) → with_next 0 (renumbered (canonical_node p) r) ≡ renumbered (λ n. front_of p + n) (with_next 0 (renumbered (nodes_upto p) r))
    each r =
        ap (with_next 0) (sym (renumber_twice (nodes_upto p) (λ n. front_of p + n) r (λ h. place_fits p r)))
        ∙ sym (renumbered_next (λ n. front_of p + n) 0 (renumbered (nodes_upto p) r))

-- ---- kinds 1 to 7: what is written for a key
module _ (p q : Policy) (C : CountsInRange p.counts) (D : CountsInRange q.counts) (E : FieldsInRange p) (F : FieldsInRange q) (S : Same p q) where
  module _ (k : ℕ) (w : Within 1 7 k) where
    united_same : (a b c : ℕ) → united_mask p k a b c ≡ united_mask q k a b c
    united_same a b c =
        ⊎_elim
        (λ m. mask_same (permits p k a b c) (permits q k a b c) 32 (λ i l. S.permissions k a b c i m))
        (λ m. no_mask p C E k a b c w m ∙ sym (no_mask q D F k a b c w m))
        (true_or_false (carries_mask k))

    written_same : (a b c : ℕ) → is_written p k a b c ≡ is_written q k a b c
    written_same a b c = go (carries_mask k) refl
      where
        go : (t : Bool) → carries_mask k ≡ t
            → cond t (not (eqb (united_mask p k a b c) 0)) (is_stated p k a b c) ≡ cond t (not (eqb (united_mask q k a b c) 0)) (is_stated q k a b c)
        go true m = ap (λ (n : ℕ). not (eqb n 0)) (united_same a b c)
        go false m = S.keys k a b c w m

    fact_same : (x : ℕ) → fact_at p k x ≡ fact_at q k x
    fact_same x =
        ap₂
        (λ (t : Bool) (n : ℕ). cond t (record { next = 0; kind = k; a = key_a x; b = key_b x; c = key_c x; d = 0; e = 0; mask = n } ∷ []) [])
        (written_same (key_a x) (key_b x) (key_c x)) (united_same (key_a x) (key_b x) (key_c x))

    kind_same : fact_kind p k ≡ fact_kind q k
    kind_same = facts_same p q k key_numbers (λ x h. fact_same x)

  -- ---- the canonical lists
  facts_kinds_same : kinds_upto (fact_kind p) 7 ≡ kinds_upto (fact_kind q) 7
  facts_kinds_same = kinds_same (fact_kind p) (fact_kind q) 7 (λ k a b. kind_same k (record { low = a; high = b }))

  front_same : front_of p ≡ front_of q
  front_same =
      let x = length-map (kind_list p 8) (λ r. with_next 0 (renumbered (nodes_upto p) r)) in
      let y = length-map (kind_list q 8) (λ r. with_next 0 (renumbered (nodes_upto q) r)) in
      ap₂ ◌+◌ (ap length facts_kinds_same) (sym x ∙ ap length S.constraints ∙ y)

  bare_same : (k : ℕ) → 1 ≤ k → k ≤ 9 → map (with_next 0) (canonical_kind p k) ≡ map (with_next 0) (canonical_kind q k)
  bare_same k a b =
      ⊎_elim
      (λ h. ap (map (with_next 0)) (canonical_fact p k h ∙ kind_same k (record { low = a; high = h }) ∙ sym (canonical_fact q k h)))
      (λ h.
      by_place_lem p k h
      ∙ ap₂ (λ (n : ℕ) (l : List Record). map (renumbered (λ m. n + m)) l) front_same
      (two_of (λ j. by_place p j ≡ by_place q j) 8 k h b S.constraints S.nodes)
      ∙ sym (by_place_lem q k h))
      (split_le k 7)

  pub same_list : map (with_next 0) (canonical_list p) ≡ map (with_next 0) (canonical_list q)
  same_list =
      kinds_map (with_next 0) (canonical_kind p) 9
      ∙ kinds_same (λ k. map (with_next 0) (canonical_kind p k)) (λ k. map (with_next 0) (canonical_kind q k)) 9 bare_same
      ∙ sym (kinds_map (with_next 0) (canonical_kind q) 9)

  counts_same : (l : List Record) → policy_from p.counts l ≡ policy_from q.counts l
  counts_same l =
      λ j.
      policy_from (record { types = S.types j; roles = S.roles j; users = S.users j; classes = S.classes j; records = 0 }) l

  pub same_canonical : canonical_of p ≡ canonical_of q
  same_canonical =
      from_bare p.counts (canonical_list p)
      ∙ ap (policy_from p.counts) same_list
      ∙ counts_same (map (with_next 0) (canonical_list q))
      ∙ sym (from_bare q.counts (canonical_list q))
