-- Each record of the canonical list is the record of a fact, or stems from one constraint or node of the policy, renumbered; and the nodes
-- stand where renumbering says.
use Prim.Native.Nat.{ℕ, zero, suc, ◌+◌, ◌≤◌, ◌<◌}
use mathlib.Core.Path.{◌≡◌, ap, subst, ◌∙◌}
use mathlib.Core.List.{List, map}
use mathlib.Core.Logic.{◌⊎◌, inl, inr, ⊎_elim}
use native.Mathlib.Omega.{arith}
use lib.ListN.{length, get_or, get_or-map}
use lib.Seq.{get_or-append-add}
use Rattle.base.specs.Ranges.{Within}
use Rattle.base.proofs.Numbers.{split_le}
use Rattle.policy_image.specs.declared.records.Record.{Record}
use Rattle.policy_image.specs.Policy.{Policy}
use Rattle.policy_expressions.specs.Nodes.{IsNode}
use Rattle.policy_lists.specs.Lists.{kind_list, no_record, record_in}
use Rattle.policy_lists.specs.Joined.{nodes_upto, kinds_upto, renumbered}
use Rattle.policy_lists.proofs.NodeLaws.{place_length, place_at}
use Rattle.policy_lists.proofs.PlaceLaws.{ending_next, endings_rise}
use Rattle.policy_lists.proofs.StemLaws.{InKind, find_kind, Stems, stems_at}
use Rattle.policy_lists.proofs.StemNodeLaws.{nodes_first, nodes_most, moved_is}
use Rattle.policy_facts.specs.Canonical.{key_numbers, fact_record, fact_kind, canonical_node, canonical_kind, canonical_list, canonical_of}
use Rattle.policy_facts.specs.Inner.FactTable.{Written}
use Rattle.policy_facts.proofs.FactListLaws.{fact_in}
use Rattle.policy_facts.proofs.StatedLaws.{canonical_fact}
use Rattle.policy_facts.proofs.CanonicalTurnLaws.{canonical_kept, constraints_end, canonical_size}

module _ (p : Policy) where
  -- record i of the list is the record of a key that is written
  pub record FactRecord (i : ℕ) : Type 0 where
    pub kind : ℕ
    pub key : ℕ
    pub range : Within 1 7 kind
    pub low : key < key_numbers
    pub written : Written p kind key
    pub same : record_in (canonical_list p) i ≡ fact_record p kind key
    pub place : i ≤ length (kinds_upto (fact_kind p) 7)

  -- where the records of a kind begin
  abbrev pub canonical_begin : ℕ → ℕ
  canonical_begin zero = 0
  canonical_begin (suc k) = length (kinds_upto (canonical_kind p) k)

  abbrev pub KeptRecord : ℕ → Type 0
  KeptRecord i = Stems p (canonical_node p) canonical_begin (canonical_list p) i

  -- a place of kinds 1 to 7, and one of kinds 8 and 9
  fact_there : (i : ℕ) (f : InKind (canonical_kind p) 9 i) → suc f.below ≤ 7 → FactRecord (suc i)
  fact_there i f h =
      let k : ℕ = suc f.below in
      let e = canonical_fact p k h in
      let g = fact_in p k key_numbers f.at (subst (λ (l : List Record). f.at < length l) e f.room) in
      let n = ending_next (canonical_kind p) f.below in
      let r = endings_rise (canonical_kind p) k 7 h in
      record {
        kind = k;
        key = g.0;
        range = record { low = omega arith; high = h };
        low = g.1;
        written = g.2;
        same = f.same ∙ ap (λ (l : List Record). get_or l f.at no_record) e ∙ g.3;
        place = omega (arith, f.place, f.room, n, r);
      }

  kept_there : (i : ℕ) (f : InKind (canonical_kind p) 9 i) → 7 < suc f.below → KeptRecord (suc i)
  kept_there i f h =
      let k : ℕ = suc f.below in
      let e = canonical_kept p k h in
      stems_at (canonical_list p) p (canonical_node p) canonical_begin k i f.at (subst (λ (l : List Record). f.at < length l) e f.room)
      (omega (arith, f.place)) (f.same ∙ ap (λ (l : List Record). get_or l f.at no_record) e)

  pub canonical_stems : (i : ℕ) → 1 ≤ i → i ≤ length (canonical_list p) → FactRecord i ⊎ KeptRecord i
  canonical_stems zero a b = let z : ⊥ = omega arith in absurd z
  canonical_stems (suc i) a b =
      let f = find_kind (canonical_kind p) 9 i (omega arith) in
      ⊎_elim (λ h. inl (fact_there i f h)) (λ h. inr (kept_there i f h)) (split_le (suc f.below) 7)

  -- ---- the nodes
  -- node n is record canonical_node p n of the result, renumbered
  pub canonical_node_lem : (n : ℕ) → IsNode p n → record_in (canonical_list p) (canonical_node p n) ≡ renumbered (canonical_node p) (p.rec n)
  canonical_node_lem zero N = let z : ⊥ = omega (arith, N.low) in absurd z
  canonical_node_lem (suc n) N =
      let c = constraints_end p in
      let a = place_length p.rec 9 n N.nine in
      let nodes : List Record = map (renumbered (canonical_node p)) (kind_list p 9) in
      ap (record_in (canonical_list p))
      (let e : canonical_node p (suc n) ≡ suc (length (kinds_upto (canonical_kind p) 8) + nodes_upto p n) = omega (arith, c, a) in e)
      ∙ get_or-append-add (kinds_upto (canonical_kind p) 8) nodes (nodes_upto p n) no_record
      ∙ get_or-map (renumbered (canonical_node p)) (kind_list p 9) (nodes_upto p n) no_record
      ∙ ap (renumbered (canonical_node p)) (place_at p.rec 9 n p.size N.high N.nine)

  pub canonical_is : (n : ℕ) → IsNode p n → IsNode (canonical_of p) (canonical_node p n)
  canonical_is n I =
      let a = nodes_first p n I in
      let b = nodes_most p n I in
      let c = canonical_size p in
      moved_is p.counts (canonical_list p) p (canonical_node p) n I (omega arith) (omega arith) (canonical_node_lem n I)

  -- they stand in a row
  pub canonical_nine : (n : ℕ) → canonical_begin 9 + nodes_upto p n ≡ canonical_node p n
  canonical_nine n = let a = constraints_end p in omega arith
