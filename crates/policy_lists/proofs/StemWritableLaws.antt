-- A policy made of a list can be written, where each of its records can and they are few enough.
use Prim.Native.Nat.{ℕ, ◌≤◌, ◌<◌}
use mathlib.Core.Path.{◌≡◌, refl, sym, subst}
use mathlib.Core.Bool.{true, false}
use mathlib.Core.List.{List}
use mathlib.Core.Logic.{⊎_elim}
use native.Mathlib.Omega.{arith}
use lib.ListN.{length}
use Rattle.base.specs.Ranges.{Within}
use Rattle.policy_image.specs.declared.counts.Counts.{Counts}
use Rattle.policy_image.specs.declared.records.Record.{Record}
use Rattle.policy_image.specs.Layout.{root_of, left_of, right_of}
use Rattle.policy_image.specs.Policy.{Policy}
use Rattle.policy_image.specs.Inner.Sizes.{most_records}
use Rattle.policy_image.specs.Inner.Writable.{WritableRecord, WritableCounts, Writable}
use Rattle.std.specs.Prelude.{Some}
use Rattle.policy_expressions.specs.Nodes.{use_of, IsNode, NodesInOrder}
use Rattle.policy_lists.specs.Lists.{record_in, link_in, with_next, policy_from}
use Rattle.policy_lists.specs.Joined.{with_root, with_children, renumbered}
use Rattle.policy_lists.proofs.RenumberUseLaws.{use_first, use_second, moved_cases}
use Rattle.policy_lists.proofs.TurnLaws.{from_rises}
use Rattle.policy_lists.proofs.StemLaws.{Stems}
use Rattle.policy_lists.proofs.StemNodeLaws.{stem_small}

-- ---- a record with other root, left, right and next
root_writable : (n : ℕ) (r : Record) → n < 65536 → WritableRecord r → WritableRecord (with_root n r)
root_writable n r h R =
    let B = R.bytes in
    record {
      next = R.next;
      bytes = record { kind = B.kind; a = B.a; b = B.b; c = B.c; d = omega arith; e = omega arith };
      mask = R.mask;
    }

children_writable : (x y : ℕ) (r : Record) → x < 65536 → y < 65536 → WritableRecord r → WritableRecord (with_children x y r)
children_writable x y r h k R =
    let B = R.bytes in
    record {
      next = R.next;
      bytes = record { kind = B.kind; a = B.a; b = B.b; c = B.c; d = B.d; e = B.e };
      mask = omega arith;
    }

next_writable : (n : ℕ) (r : Record) → n < 65536 → WritableRecord r → WritableRecord (with_next n r)
next_writable n r h R =
    let B = R.bytes in
    record { next = h; bytes = record { kind = B.kind; a = B.a; b = B.b; c = B.c; d = B.d; e = B.e }; mask = R.mask }

-- ---- renumbering, where what `to` gives fits two bytes
pub renumbered_writable : (to : ℕ → ℕ) (r : Record) → ((s n : ℕ) → use_of r s ≡ Some n → to n < 65536) → WritableRecord r
    → WritableRecord (renumbered to r)
renumbered_writable to r fits R =
    moved_cases to r WritableRecord
    (λ a b d. root_writable (to (root_of r)) r (fits 0 (root_of r) (use_first r true false a b)) R)
    (λ a b d.
    let m = R.mask in
    children_writable (to (left_of r)) (right_of r) r (fits 0 (left_of r) (use_first r false true a b)) (omega arith) R)
    (λ a b d.
    children_writable (to (left_of r)) (to (right_of r)) r (fits 0 (left_of r) (use_first r false true a b)) (fits 1 (right_of r) (use_second r true d)) R)
    (λ a b d. R)

-- ---- the policy of a list
module _ (c : Counts) (l : List Record) where
  abbrev made : Policy
  made = policy_from c l

  module _ (few : length l ≤ most_records) where
    -- links lead to records, and these have numbers that fit two bytes
    link_fits : (i : ℕ) → 1 ≤ i → i ≤ length l → link_in l i < 65536
    link_fits i a b = ⊎_elim (λ z. omega (arith, z)) (λ n. let h = n.1 in omega (arith, h, few)) ((from_rises c l).nexts i a b)

    -- its records are those of the list, but for their next
    pub from_writable : WritableCounts made.counts → ((i : ℕ) → Within 1 (length l) i → WritableRecord (record_in l i)) → Writable made
    from_writable C h =
        record {
          counts = C;
          size = refl;
          heads = λ k w. let b = (from_rises c l).heads k w.low w.high in omega (arith, b, few);
          fields = λ i w. next_writable (link_in l i) (record_in l i) (link_fits i w.low w.high) (h i w);
        }

  -- a record that stems from a policy o that can be written and passes question 6, whose nodes are nodes of the result
  pub stem_writable : length l < 65536 → (o : Policy) (to begin : ℕ → ℕ) → NodesInOrder o → Writable o → ((n : ℕ) → IsNode o n → IsNode made (to n))
      → (i : ℕ) → Stems o to begin l i → WritableRecord (record_in l i)
  stem_writable small o to begin N O is i S =
      subst WritableRecord (sym S.same)
      (renumbered_writable to (o.rec S.of) (stem_small c l small o to begin N is i S)
      (O.fields S.of (record { low = S.low; high = S.high })))
