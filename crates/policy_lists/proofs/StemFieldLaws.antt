-- Question 5 of a policy made of a list: a renumbered record stays within its ranges, and these grow with the counts.
use Prim.Native.Nat.{ℕ, ◌+◌, ◌*◌, ◌≤◌, ◌<◌}
use mathlib.Core.Path.{◌≡◌, refl, sym, subst}
use mathlib.Core.Bool.{true, false, ◌&&◌}
use mathlib.Core.List.{List}
use mathlib.Core.Logic.{⊎_elim}
use native.Mathlib.Omega.{arith}
use borrow.Author.Tests.{eqb-true, leb-true, le-leb}
use lib.Dec.{eqb, leb}
use lib.ListN.{length}
use Rattle.base.proofs.BoolLaws.{clash, and_true, and_first, and_second}
use Rattle.base.proofs.Numbers.{split_le, two_of}
use Rattle.policy_image.specs.declared.counts.Counts.{Counts}
use Rattle.policy_image.specs.declared.records.Record.{Record}
use Rattle.policy_image.specs.Layout.{root_of, left_of, right_of}
use Rattle.policy_image.specs.Policy.{Policy}
use Rattle.policy_fields.specs.declared.Limits.{Limits}
use Rattle.policy_fields.specs.Fields.{limits_of, WithinLimits, Fits, FieldsInRange}
use Rattle.std.specs.Prelude.{Some}
use Rattle.policy_expressions.specs.Nodes.{has_root, has_left, has_right, use_of, IsNode, NodesInOrder}
use Rattle.policy_lists.specs.Lists.{record_in, link_in, with_next, policy_from}
use Rattle.policy_lists.specs.Joined.{with_root, with_children, renumbered}
use Rattle.policy_lists.proofs.RenumberUseLaws.{use_first, use_second, moved_cases}
use Rattle.policy_lists.proofs.StemLaws.{Stems}
use Rattle.policy_lists.proofs.StemNodeLaws.{stem_small}
use Rattle.policy_lists.proofs.LimitLaws.{AtLeast, fits_more}

-- ---- a record with other root, left and right
with_root_lem : (l : Limits) (n : ℕ) (r : Record) → l.d.low ≡ 0 → l.d.high ≡ 255 → l.e.low ≡ 0 → l.e.high ≡ 255 → n < 65536
    → WithinLimits l r → WithinLimits l (with_root n r)
with_root_lem l n r x y z w h F =
    record {
      a = F.a;
      b = F.b;
      c = F.c;
      d = record { low = omega arith; high = omega arith };
      e = record { low = omega arith; high = omega arith };
      mask = F.mask;
    }

with_children_lem : (l : Limits) (x y : ℕ) (r : Record) → l.mask.low ≡ 0 → x + 65536 * y ≤ l.mask.high → WithinLimits l r → WithinLimits l (with_children x y r)
with_children_lem l x y r z h F =
    record { a = F.a; b = F.b; c = F.c; d = F.d; e = F.e; mask = record { low = omega arith; high = h } }

with_next_lem : (l : Limits) (n : ℕ) (r : Record) → WithinLimits l r → WithinLimits l (with_next n r)
with_next_lem l n r F = record { a = F.a; b = F.b; c = F.c; d = F.d; e = F.e; mask = F.mask }

-- ---- renumbering: where what `to` gives fits two bytes, the record stays within the ranges of its kind and operator
module _ (c : Counts) (to : ℕ → ℕ) (r : Record) (fits : (s n : ℕ) → use_of r s ≡ Some n → to n < 65536) (F : Fits c r) where
  fits_root : has_root r ≡ true → Fits c (with_root (to (root_of r)) r)
  fits_root a =
      let k = eqb-true r.kind 8 a in
      let n = fits 0 (root_of r) (use_first r true (has_left r) a refl) in
      subst (λ (κ : ℕ). WithinLimits (limits_of c κ r.a) (with_root (to (root_of r)) r)) (sym k)
      (with_root_lem (limits_of c 8 r.a) (to (root_of r)) r refl refl refl refl n (subst (λ (κ : ℕ). WithinLimits (limits_of c κ r.a) r) k F))

  is_node : has_left r ≡ true → (r.kind ≡ 9) × (1 ≤ r.a) × (r.a ≤ 3)
  is_node b =
      let m = and_second (eqb r.kind 9) (leb 1 r.a && leb r.a 3) b in (
        eqb-true r.kind 9 (and_first (eqb r.kind 9) (leb 1 r.a && leb r.a 3) b),
        leb-true 1 r.a (and_first (leb 1 r.a) (leb r.a 3) m),
        leb-true r.a 3 (and_second (leb 1 r.a) (leb r.a 3) m),
      )

  -- by the operator of a node
  as_node : (w : Record) → r.kind ≡ 9 → (WithinLimits (limits_of c 9 r.a) r → WithinLimits (limits_of c 9 r.a) w) → WithinLimits (limits_of c r.kind r.a) w
  as_node w k f =
      subst (λ (κ : ℕ). WithinLimits (limits_of c κ r.a) w) (sym k) (f (subst (λ (κ : ℕ). WithinLimits (limits_of c κ r.a) r) k F))

  fits_left : has_root r ≡ false → has_left r ≡ true → has_right r ≡ false → Fits c (with_children (to (left_of r)) (right_of r) r)
  fits_left a b d =
      let w = with_children (to (left_of r)) (right_of r) r in
      let N = is_node b in
      let n = fits 0 (left_of r) (use_first r false true a b) in
      as_node w N.0
      (subst (λ (x : ℕ). WithinLimits (limits_of c 9 x) r → WithinLimits (limits_of c 9 x) w) (sym (one N.0 N.1 N.2))
      (λ G. let h = G.mask.high in with_children_lem (limits_of c 9 1) (to (left_of r)) (right_of r) r refl (omega arith) G))
    where
      one : r.kind ≡ 9 → 1 ≤ r.a → r.a ≤ 3 → r.a ≡ 1
      one k l h =
          ⊎_elim
          (λ g.
          absurd
          (clash
          (and_true (eqb r.kind 9) (leb 2 r.a && leb r.a 3) (and_first (eqb r.kind 9) (leb 1 r.a && leb r.a 3) b)
          (and_true (leb 2 r.a) (leb r.a 3) (le-leb 2 r.a g) (le-leb r.a 3 h)))
          d))
          (λ g. omega arith)
          (split_le 2 r.a)

  fits_both : has_root r ≡ false → has_left r ≡ true → has_right r ≡ true → Fits c (with_children (to (left_of r)) (to (right_of r)) r)
  fits_both a b d =
      let w = with_children (to (left_of r)) (to (right_of r)) r in
      let N = is_node b in
      let m = and_second (eqb r.kind 9) (leb 2 r.a && leb r.a 3) d in
      let x = fits 0 (left_of r) (use_first r false true a b) in
      let y = fits 1 (right_of r) (use_second r true d) in
      as_node w N.0
      (two_of (λ (x : ℕ). WithinLimits (limits_of c 9 x) r → WithinLimits (limits_of c 9 x) w) 2 r.a
      (leb-true 2 r.a (and_first (leb 2 r.a) (leb r.a 3) m)) N.2
      (λ G. with_children_lem (limits_of c 9 2) (to (left_of r)) (to (right_of r)) r refl (omega arith) G)
      (λ G. with_children_lem (limits_of c 9 3) (to (left_of r)) (to (right_of r)) r refl (omega arith) G))

  pub renumbered_fits : Fits c (renumbered to r)
  renumbered_fits = moved_cases to r (Fits c) (λ a b d. fits_root a) fits_left fits_both (λ a b d. F)

-- ---- the policy of a list
module _ (c : Counts) (l : List Record) where
  abbrev made : Policy
  made = policy_from c l

  -- its records are those of the list, but for their next
  pub from_fields : ((i : ℕ) → 1 ≤ i → i ≤ length l → Fits made.counts (record_in l i)) → FieldsInRange made
  from_fields h =
      record {
        each = λ i a b. let r = record_in l i in with_next_lem (limits_of made.counts r.kind r.a) (link_in l i) r (h i a b);
      }

  -- a record that stems from a policy o that passes questions 5 and 6, whose nodes are nodes of the result
  pub stem_fits : length l < 65536 → (o : Policy) (to begin : ℕ → ℕ) → NodesInOrder o → FieldsInRange o → ((n : ℕ) → IsNode o n → IsNode made (to n))
      → AtLeast o.counts made.counts → (i : ℕ) → Stems o to begin l i → Fits made.counts (record_in l i)
  stem_fits small o to begin N E is G i S =
      let r = o.rec S.of in
      subst (Fits made.counts) (sym S.same)
      (renumbered_fits made.counts to r (stem_small c l small o to begin N is i S)
      (fits_more o.counts made.counts G r (E.each S.of S.low S.high)))
