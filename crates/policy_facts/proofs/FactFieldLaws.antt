-- Question 5 of a policy, for records of kinds 1 to 7: a, b and c are bytes, masks have 32 bits, and a kind that carries none has the mask 0.
use Prim.Native.Nat.{ℕ, ◌^◌, ◌≤◌, ◌<◌}
use mathlib.Core.Path.{◌≡◌, refl, ap, subst}
use mathlib.Core.Bool.{Bool, true, false, cond}
use mathlib.Core.Logic.{⊎_elim}
use native.Mathlib.Omega.{arith}
use borrow.Author.Tests.{leb-true}
use lib.Dec.{leb}
use Rattle.base.specs.Ranges.{Within}
use Rattle.base.proofs.Numbers.{split_le, three_of}
use Rattle.base.proofs.BoolLaws.{and_first, and_second}
use Rattle.policy_image.specs.declared.counts.Counts.{Counts}
use Rattle.policy_image.specs.declared.records.Record.{Record}
use Rattle.policy_image.specs.Counts.{CountsInRange}
use Rattle.policy_image.specs.Policy.{Policy}
use Rattle.policy_links.proofs.KindLaws.{OfKind}
use Rattle.policy_fields.specs.declared.Limits.{Limits}
use Rattle.policy_fields.specs.Fields.{limits_of, WithinLimits, FieldsInRange}
use Rattle.policy_facts.specs.Facts.{carries_mask}

-- the kinds that carry a mask are some of them
pub mask_within : (k : ℕ) → carries_mask k ≡ true → Within 1 7 k
mask_within k m =
    let l = leb-true 2 k (and_first (leb 2 k) (leb k 4) m) in
    let h = leb-true k 4 (and_second (leb 2 k) (leb k 4) m) in
    record { low = omega arith; high = omega arith }

-- the mask of a kind is any, or 0 where it carries none
abbrev pub most_mask : Bool → ℕ
most_mask carries = cond carries 4294967295 0

most_mask_lem : (t : Bool) → most_mask t ≤ 4294967295
most_mask_lem true = omega arith
most_mask_lem false = omega arith

-- ---- the ranges of kind k
pub record FactLimits (k : ℕ) (l : Limits) : Type 0 where
  pub a : l.a.high ≤ 255
  pub b : l.b.high ≤ 255
  pub c : l.c.high ≤ 255
  pub d : l.d.low ≡ 0
  pub e : l.e.low ≡ 0
  pub least : l.mask.low ≡ 0
  pub most : l.mask.high ≡ most_mask (carries_mask k)

module _ (n : Counts) (C : CountsInRange n) (op : ℕ) where
  abbrev Limited : ℕ → Type 0
  Limited k = FactLimits k (limits_of n k op)

  pub fact_limits : (k : ℕ) → Within 1 7 k → FactLimits k (limits_of n k op)
  fact_limits k w =
      ⊎_elim
      (λ h. three_of Limited 1 k w.low h one two three)
      (λ h. ⊎_elim (λ g. three_of Limited 4 k h g four five six) (λ g. let b = w.high in subst Limited (let e : 7 ≡ k = omega arith in e) seven) (split_le k 6))
      (split_le k 3)
    where
      one : Limited 1
      one = record { a = omega arith; b = omega arith; c = omega arith; d = refl; e = refl; least = refl; most = refl }

      two : Limited 2
      two = record { a = omega arith; b = omega arith; c = omega arith; d = refl; e = refl; least = refl; most = refl }

      three : Limited 3
      three = record { a = omega arith; b = omega arith; c = omega arith; d = refl; e = refl; least = refl; most = refl }

      four : Limited 4
      four = record { a = omega arith; b = omega arith; c = omega arith; d = refl; e = refl; least = refl; most = refl }

      five : Limited 5
      five = record { a = omega arith; b = omega arith; c = omega arith; d = refl; e = refl; least = refl; most = refl }

      six : Limited 6
      six = record { a = omega arith; b = omega arith; c = omega arith; d = refl; e = refl; least = refl; most = refl }

      seven : Limited 7
      seven = record { a = omega arith; b = omega arith; c = omega arith; d = refl; e = refl; least = refl; most = refl }

-- ---- the records of kind k
pub record FactFields (k : ℕ) (r : Record) : Type 0 where
  pub a : r.a < 256
  pub b : r.b < 256
  pub c : r.c < 256
  pub mask : r.mask < 2 ^ 32
  pub bare : carries_mask k ≡ false → r.mask ≡ 0

pub fact_fields : (p : Policy) → CountsInRange p.counts → FieldsInRange p → (k i : ℕ) → Within 1 7 k → OfKind p k i → FactFields k (p.rec i)
fact_fields p C E k i w o =
    let r = p.rec i in
    let F : WithinLimits (limits_of p.counts k r.a) r =
    subst (λ (κ : ℕ). WithinLimits (limits_of p.counts κ r.a) r) o.kind (E.each i o.low o.high) in
    let L = fact_limits p.counts C r.a k w in
    record {
      a = omega (arith, F.a.high, L.a);
      b = omega (arith, F.b.high, L.b);
      c = omega (arith, F.c.high, L.c);
      mask = omega (arith, F.mask.high, L.most, most_mask_lem (carries_mask k));
      bare = λ e. let h = ap most_mask e in omega (arith, F.mask.high, L.most, h);
    }
