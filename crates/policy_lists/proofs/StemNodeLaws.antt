-- Question 6 of a policy made of a list, where its records stem from other policies, renumbered: nodes stay nodes, in their order, and used at
-- most once.
use Prim.Native.Nat.{ℕ, zero, suc, ◌+◌, ◌≤◌, ◌<◌}
use mathlib.Core.Path.{◌≡◌, refl, sym, ap, subst, ◌∙◌}
use mathlib.Core.List.{List}
use mathlib.Core.Logic.{⊎_elim}
use native.Mathlib.Omega.{arith}
use lib.ListN.{length}
use Rattle.base.proofs.Numbers.{split_le}
use Rattle.policy_image.specs.declared.counts.Counts.{Counts}
use Rattle.policy_image.specs.declared.records.Record.{Record}
use Rattle.policy_image.specs.Policy.{Policy}
use Rattle.std.specs.Prelude.{Some}
use Rattle.policy_expressions.specs.Nodes.{use_of, Uses, IsNode, UsedWell, NodesInOrder}
use Rattle.policy_lists.specs.Lists.{records_upto, of_kind_in, kind_list, record_in, link_in, with_next, policy_from}
use Rattle.policy_lists.specs.Joined.{nodes_upto, renumbered}
use Rattle.policy_lists.proofs.RenumberLaws.{renumbered_kind}
use Rattle.policy_lists.proofs.RenumberUseLaws.{use_back}
use Rattle.policy_lists.proofs.NodeLaws.{place_length, upto_more_length}
use Rattle.policy_lists.proofs.StemLaws.{Stems}

-- what a record uses does not depend on its next
pub use_any_next : (n : ℕ) (r : Record) (s : ℕ) → use_of (with_next n r) s ≡ use_of r s
unfolding use_of
use_any_next n r zero = refl
use_any_next n r (suc zero) = refl
use_any_next n r (suc (suc s)) = refl

-- ---- nodes of a policy, counted
module _ (o : Policy) where
  -- a node is counted after those below it
  pub nodes_rise : (m n : ℕ) → m < n → IsNode o n → nodes_upto o m < nodes_upto o n
  nodes_rise m zero l I = let z : ⊥ = omega arith in absurd z
  nodes_rise m (suc n) l I =
      let a = place_length o.rec 9 n I.nine in
      let b = upto_more_length o.rec 9 m n (omega arith) in
      omega arith

  pub nodes_same : (m n : ℕ) → IsNode o m → IsNode o n → nodes_upto o m ≡ nodes_upto o n → m ≡ n
  nodes_same m n I K e =
      ⊎_elim
      (λ l. ⊎_elim (λ h. omega arith) (λ h. let a = nodes_rise m n (omega (arith, h, l)) K in let z : ⊥ = omega arith in absurd z) (split_le n m))
      (λ g. let a = nodes_rise n m g I in let z : ⊥ = omega arith in absurd z)
      (split_le m n)

  pub nodes_first : (n : ℕ) → IsNode o n → 1 ≤ nodes_upto o n
  nodes_first n I = let a = nodes_rise 0 n I.low I in omega arith

  pub nodes_most : (n : ℕ) → IsNode o n → nodes_upto o n ≤ length (kind_list o 9)
  nodes_most n I = upto_more_length o.rec 9 n o.size I.high

module _ (c : Counts) (l : List Record) where
  abbrev made : Policy
  made = policy_from c l

  -- a node that stands in the list, renumbered, is a node of the result
  pub moved_is : (o : Policy) (to : ℕ → ℕ) (n : ℕ) → IsNode o n → 1 ≤ to n → to n ≤ length l → record_in l (to n) ≡ renumbered to (o.rec n) → IsNode made (to n)
  moved_is o to n I a b at =
      record { low = a; high = b; nine = ap (λ (r : Record). r.kind) at ∙ renumbered_kind to (o.rec n) ∙ I.nine }

  -- ---- what a record of the result uses, by the record that it stems from
  -- the policy o that passes question 6, whose nodes are nodes of the result
  module _ (small : length l < 65536) (o : Policy) (to begin : ℕ → ℕ) (N : NodesInOrder o) (is : (n : ℕ) → IsNode o n → IsNode made (to n)) where
    -- nodes of the result have numbers that fit two bytes
    pub stem_small : (i : ℕ) (S : Stems o to begin l i) (s n : ℕ) → use_of (o.rec S.of) s ≡ Some n → to n < 65536
    stem_small i S s n h =
        let w = N.well S.of s n (record { low = S.low; high = S.high; at = h }) in
        let k = (is n w.node).high in
        omega (arith, k, small)

    pub stem_uses : (i s m : ℕ) (S : Stems o to begin l i) → use_of (made.rec i) s ≡ Some m → (n : ℕ) × Uses o S.of s n × (m ≡ to n)
    stem_uses i s m S e =
        let r : Record = o.rec S.of in
        let u : use_of (renumbered to r) s ≡ Some m =
        ap (λ (x : Record). use_of x s) (sym S.same) ∙ sym (use_any_next (link_in l i) (record_in l i) s) ∙ e in
        let b = use_back to r (stem_small i S 0) s m u in
        (b.0, record { low = S.low; high = S.high; at = b.1 }, b.2)

    -- where its nodes stand in a row
    module _ (nine : (n : ℕ) → begin 9 + nodes_upto o n ≡ to n) where
      pub stem_well : (i s m : ℕ) → Stems o to begin l i → use_of (made.rec i) s ≡ Some m → UsedWell made i (made.rec i).kind m
      stem_well i s m S e =
          let u = stem_uses i s m S e in
          let w = N.well S.of s u.0 u.1 in
          let κ : (made.rec i).kind ≡ (o.rec S.of).kind = ap (λ (r : Record). r.kind) S.same ∙ renumbered_kind to (o.rec S.of) in
          record {
            node = subst (IsNode made) (sym u.2) (is u.0 w.node);
            lower = λ k.
                let k' : (o.rec S.of).kind ≡ 9 = sym κ ∙ k in
                let a = nodes_rise o u.0 S.of (w.lower k') (record { low = S.low; high = S.high; nine = k' }) in
                let b = subst (λ (y : ℕ). i ≡ begin y + length (of_kind_in y (records_upto o.rec S.of))) k' S.place in
                omega (arith, a, b, nine u.0, u.2);
          }

      pub stem_once : (i s j t m : ℕ) → Stems o to begin l i → Stems o to begin l j → use_of (made.rec i) s ≡ Some m → use_of (made.rec j) t ≡ Some m
          → (i ≡ j) × (s ≡ t)
      stem_once i s j t m S T e f =
          let u = stem_uses i s m S e in
          let v = stem_uses j t m T f in
          let x = (N.well S.of s u.0 u.1).node in
          let y = (N.well T.of t v.0 v.1).node in
          let k = nodes_same o u.0 v.0 x y (omega (arith, u.2, v.2, nine u.0, nine v.0)) in
          let o' = N.once S.of s T.of t v.0 (subst (Uses o S.of s) k u.1) v.1 in
          (S.place ∙ ap (λ (z : ℕ). begin (o.rec z).kind + length (of_kind_in (o.rec z).kind (records_upto o.rec z))) o'.0 ∙ sym T.place, o'.1)
