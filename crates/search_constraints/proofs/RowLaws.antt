-- The words of pairs: one pair after the other gets its bits.
use Prim.Native.Nat.{ℕ, ◌+◌, ◌*◌, ◌/◌, ◌%◌, ◌^◌, ◌≤◌, ◌<◌}
use mathlib.Core.Path.{◌≡◌, refl, sym, ap, ap₂, subst, ◌∙◌}
use mathlib.Core.Bool.{Bool, true, false, ◌&&◌, ◌||◌}
use mathlib.Core.List.{List}
use mathlib.Core.Logic.{⊎_elim}
use native.Mathlib.Nat.{one-mul, mod-eq_of_lt, mul-le-mul}
use native.Mathlib.Omega.{arith}
use borrow.Author.Tests.{eq-eqb, ne_eqb, lt-ltb, le-ltb}
use lib.Bits.{bit_or}
use lib.Dec.{eqb, ltb}
use lib.ListN.{length, get_or, set, length-set, replicate, length-replicate}
use lib.Pow.{pow-lt}
use lib.Seq.{get_or-set_same, get_or-set_other}
use Rattle.base.specs.Bits.{bit}
use Rattle.base.proofs.BitLaws.{bit_or_lem, bit_pow, bit_zero}
use Rattle.base.proofs.BoolLaws.{or_none, and_no}
use Rattle.base.proofs.Numbers.{split_eq, split_le, zeros}
use Rattle.policy_image.specs.declared.counts.Counts.{Counts}
use Rattle.context.specs.Inner.Places.{Countable, pair_count, role_at, user_at}
use Rattle.context.proofs.TypeLaws.{role_high}
use Rattle.search_constraints.specs.Inner.Pairs.{row_entries, BitPut, RowsOf}

pub pair_few : (n : Counts) → n.roles ≤ 15 → n.users ≤ 15 → pair_count n ≤ 225
pair_few n r u = mul-le-mul {n₂ = 15} {m₂ = 15} r u

-- `1 << k` in 64 bits
one_bit : (k j : ℕ) → k < 64 → bit (1 * 2 ^ k % 2 ^ 64) j ≡ eqb k j
one_bit k j h = ap (λ (z : ℕ). bit z j) (ap (λ (z : ℕ). z % 2 ^ 64) (one-mul (2 ^ k)) ∙ mod-eq_of_lt (pow-lt h)) ∙ bit_pow k j

pub bit_put : {l : List ℕ} {at k : ℕ} → at < length l → k < 64 → BitPut l (set l at (bit_or (get_or l at 0) (1 * 2 ^ k % 2 ^ 64))) at k
bit_put {l} {at} {k} h lk = record { size = simp length-set refl; bits = λ i j. ⊎_elim (here i j) (there i j) (split_eq at i) }
  where
    v : ℕ
    v = bit_or (get_or l at 0) (1 * 2 ^ k % 2 ^ 64)

    here : (i j : ℕ) → at ≡ i → bit (get_or (set l at v) i 0) j ≡ (bit (get_or l i 0) j || (eqb at i && eqb k j))
    here i j q =
        subst (λ (z : ℕ). bit (get_or (set l at v) z 0) j ≡ (bit (get_or l z 0) j || (eqb at z && eqb k j))) q
        (ap (λ (z : ℕ). bit z j) (get_or-set_same l at v 0 h) ∙ bit_or_lem (get_or l at 0) (1 * 2 ^ k % 2 ^ 64) j
        ∙ ap₂ (λ (b c : Bool). bit (get_or l at 0) j || (b && c)) (sym (eq-eqb at at refl)) (one_bit k j lk))

    there : (i j : ℕ) → (at ≡ i → ⊥) → bit (get_or (set l at v) i 0) j ≡ (bit (get_or l i 0) j || (eqb at i && eqb k j))
    there i j d =
        ap (λ (z : ℕ). bit z j) (get_or-set_other l at i v 0 (λ e. d (sym e)))
        ∙ sym (or_none (bit (get_or l i 0) j) (eqb at i && eqb k j) (ap (λ (b : Bool). b && eqb k j) (ne_eqb at i d)))

-- whether b is the role of pair k, or 16 more than its user
abbrev pub pair_has : Counts → ℕ → ℕ → Bool
pair_has n k b = eqb (role_at n k) b || eqb (16 + user_at n k) b

-- the pairs below i have their bits
pub record RowsTo (n : Counts) (rows : List ℕ) (i : ℕ) : Type 0 where
  pub size : length rows ≡ row_entries
  pub bits : (k b : ℕ) → k < 256 → b < 32 → bit (get_or rows (32 * (k / 64) + b) 0) (k % 64) ≡ (ltb k i && pair_has n k b)

pub rows_begin : (n : Counts) → RowsTo n (replicate 128 0) 0
rows_begin n =
    record {
      size = length-replicate {A = ℕ} 128 0;
      bits = λ k b hk hb. ap (λ (z : ℕ). bit z (k % 64)) (zeros 128 (32 * (k / 64) + b)) ∙ bit_zero (k % 64) ∙ sym (ap (λ (c : Bool). c && pair_has n k b) (le-ltb k 0 (omega arith)));
    }

-- two places in one row are the same where the numbers are
same_at : (base c b : ℕ) → eqb (base + c) (base + b) ≡ eqb c b
same_at base c b =
    ⊎_elim (λ (q : c ≡ b). eq-eqb (base + c) (base + b) (omega arith) ∙ sym (eq-eqb c b q)) (λ (d : c ≡ b → ⊥). ne_eqb (base + c) (base + b) (λ e. d (omega arith)) ∙ sym (ne_eqb c b d)) (split_eq c b)

module _ {n : Counts} {rows mid new : List ℕ} {i role user : ℕ} (R : RowsTo n rows i) (qr : role ≡ role_at n i) (qu : user ≡ user_at n i) (lr : role < 16) (lu : user < 16)
    (A : BitPut rows mid (32 * (i / 64) + role) (i % 64)) (B : BitPut mid new (32 * (i / 64) + 16 + user) (i % 64)) where
  added : (k b : ℕ) → bit (get_or new (32 * (k / 64) + b) 0) (k % 64)
      ≡ ((bit (get_or rows (32 * (k / 64) + b) 0) (k % 64) || (eqb (32 * (i / 64) + role) (32 * (k / 64) + b) && eqb (i % 64) (k % 64)))
      || (eqb (32 * (i / 64) + 16 + user) (32 * (k / 64) + b) && eqb (i % 64) (k % 64)))
  added k b = B.bits (32 * (k / 64) + b) (k % 64) ∙ ap (λ (c : Bool). c || (eqb (32 * (i / 64) + 16 + user) (32 * (k / 64) + b) && eqb (i % 64) (k % 64))) (A.bits (32 * (k / 64) + b) (k % 64))

  -- another pair's bit stands in another word, or at another place of it
  apart : (k b c : ℕ) → (i ≡ k → ⊥) → b < 32 → c < 32 → (eqb (32 * (i / 64) + c) (32 * (k / 64) + b) && eqb (i % 64) (k % 64)) ≡ false
  apart k b c d lb lc =
      ⊎_elim
      (λ (q : i % 64 ≡ k % 64). ap (λ (z : Bool). z && eqb (i % 64) (k % 64)) (ne_eqb (32 * (i / 64) + c) (32 * (k / 64) + b) (λ e. d (omega arith))))
      (λ (e : i % 64 ≡ k % 64 → ⊥). and_no (eqb (32 * (i / 64) + c) (32 * (k / 64) + b)) (eqb (i % 64) (k % 64)) (ne_eqb (i % 64) (k % 64) e))
      (split_eq (i % 64) (k % 64))

  pub rows_more : RowsTo n new (i + 1)
  rows_more = record { size = B.size ∙ A.size ∙ R.size; bits = λ k b hk hb. ⊎_elim (here k b hk hb) (there k b hk hb) (split_eq i k) }
    where
      place : 32 * (i / 64) + 16 + user ≡ 32 * (i / 64) + (16 + user)
      place = omega arith

      here : (k b : ℕ) → k < 256 → b < 32 → i ≡ k → bit (get_or new (32 * (k / 64) + b) 0) (k % 64) ≡ (ltb k (i + 1) && pair_has n k b)
      here k b hk hb q =
          subst (λ (z : ℕ). z < 256 → bit (get_or new (32 * (z / 64) + b) 0) (z % 64) ≡ (ltb z (i + 1) && pair_has n z b)) q
          (λ hi.
          added i b
          ∙ ap₂ ◌||◌
          (ap₂ ◌||◌ (R.bits i b hi hb ∙ ap (λ (c : Bool). c && pair_has n i b) (le-ltb i i (omega arith)))
          (ap₂ ◌&&◌ (same_at (32 * (i / 64)) role b ∙ ap (λ (z : ℕ). eqb z b) qr) (eq-eqb (i % 64) (i % 64) refl)))
          (ap₂ ◌&&◌ (ap (λ (z : ℕ). eqb z (32 * (i / 64) + b)) place ∙ same_at (32 * (i / 64)) (16 + user) b ∙ ap (λ (z : ℕ). eqb (16 + z) b) qu) (eq-eqb (i % 64) (i % 64) refl))
          ∙ both (eqb (role_at n i) b) (eqb (16 + user_at n i) b)
          ∙ sym (ap (λ (c : Bool). c && pair_has n i b) (lt-ltb i (i + 1) (omega arith)))) hk
        where
          both : (a c : Bool) → ((false || (a && true)) || (c && true)) ≡ (a || c)
          both true c = refl
          both false true = refl
          both false false = refl

      there : (k b : ℕ) → k < 256 → b < 32 → (i ≡ k → ⊥) → bit (get_or new (32 * (k / 64) + b) 0) (k % 64) ≡ (ltb k (i + 1) && pair_has n k b)
      there k b hk hb d =
          added k b
          ∙ or_none (bit (get_or rows (32 * (k / 64) + b) 0) (k % 64) || (eqb (32 * (i / 64) + role) (32 * (k / 64) + b) && eqb (i % 64) (k % 64))) (eqb (32 * (i / 64) + 16 + user) (32 * (k / 64) + b) && eqb (i % 64) (k % 64))
          (ap (λ (z : ℕ). eqb z (32 * (k / 64) + b) && eqb (i % 64) (k % 64)) place ∙ apart k b (16 + user) d hb (omega arith))
          ∙ or_none (bit (get_or rows (32 * (k / 64) + b) 0) (k % 64)) (eqb (32 * (i / 64) + role) (32 * (k / 64) + b) && eqb (i % 64) (k % 64)) (apart k b role d hb (omega arith))
          ∙ R.bits k b hk hb
          ∙ ap (λ (c : Bool). c && pair_has n k b) (⊎_elim (λ (h : i ≤ k). le-ltb k i h ∙ sym (le-ltb k (i + 1) (omega (arith, d)))) (λ (h : k < i). lt-ltb k i h ∙ sym (lt-ltb k (i + 1) (omega arith))) (split_le i k))

pub rows_end : {n : Counts} {rows : List ℕ} {i : ℕ} → Countable n → n.roles ≤ 15 → n.users ≤ 15 → i ≡ pair_count n → RowsTo n rows i → RowsOf n rows
rows_end {n} {rows} {i} C lr lu q R =
    record {
      role = λ k b hk hb. has k b hk (omega arith) ∙ or_none (eqb (role_at n k) b) (eqb (16 + user_at n k) b) (ne_eqb (16 + user_at n k) b (λ e. let z : ⊥ = omega arith in z));
      user = λ k b hk hb.
          ap (λ (z : ℕ). bit (get_or rows z 0) (k % 64)) (let e : 32 * (k / 64) + 16 + b ≡ 32 * (k / 64) + (16 + b) = omega arith in e)
          ∙ has k (16 + b) hk (omega arith)
          ∙ ap (λ (c : Bool). c || eqb (16 + user_at n k) (16 + b)) (ne_eqb (role_at n k) (16 + b) (λ e. let h = role_high C hk in let z : ⊥ = omega arith in z))
          ∙ same_at 16 (user_at n k) b;
    }
  where
    has : (k b : ℕ) → k < pair_count n → b < 32 → bit (get_or rows (32 * (k / 64) + b) 0) (k % 64) ≡ pair_has n k b
    has k b hk hb = let few = pair_few n lr lu in R.bits k b (omega arith) hb ∙ ap (λ (c : Bool). c && pair_has n k b) (lt-ltb k i (omega arith))
