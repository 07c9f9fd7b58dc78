-- The loop that splits the entries: what stands where it is at type t and entry j.
use mathlib.Core.Path.{◌≡◌, refl, ◌∙◌, ap, subst}
use mathlib.Core.Logic.{⊎_elim}
use mathlib.Core.List.{List}
use Prim.Native.Nat.{ℕ, ◌+◌, ◌%◌, ◌≤◌, ◌<◌}
use native.Mathlib.Omega.{arith}
use lib.ListN.{length, get_or, set}
use lib.Seq.{get_or-set_same, get_or-set_other}
use Rattle.base.proofs.Numbers.{split_eq, split_le, below_or}
use Rattle.plan_index.specs.Inner.Codes.{key_codes}
use Rattle.plan_index.specs.Inner.Split.{own_of, Splittable, Starts, Split}

-- the blocks of the types up to t start where they should; the entries before j are of those types, the others of t and those behind it
pub record Splitting (types m : ℕ) (codes first keys : List ℕ) (t j : ℕ) : Type 0 where
  pub low : 1 ≤ t
  pub high : t ≤ types + 1
  pub few : j ≤ m
  pub starts : (s : ℕ) → 1 ≤ s → s ≤ t → Starts codes m s (get_or first s 0)
  pub passed : (k : ℕ) → k < j → own_of codes k ≤ t
  pub ahead : (k : ℕ) → j ≤ k → k < m → t ≤ own_of codes k
  pub done : (k : ℕ) → k < j → get_or keys k 0 ≡ get_or codes k 0 % key_codes
  pub left : (k : ℕ) → j ≤ k → get_or keys k 0 ≡ get_or codes k 0

module _ {types m : ℕ} {start codes : List ℕ} (D : Splittable types m start codes) where
  pub split_begin : Splitting types m codes (set start 1 0) codes 1 0
  split_begin =
      record {
        low = omega arith;
        high = omega arith;
        few = omega arith;
        starts = λ s a b.
            let e : 1 ≡ s = omega arith in
            subst (λ (x : ℕ). Starts codes m x (get_or (set start 1 0) x 0)) e
            (rw (get_or-set_same start 1 0 0 (omega (arith, D.starts))) (record { few = omega arith; below = λ k h. absurd (omega arith); above = λ k a h. (D.own k h).low }));
        passed = λ k h. absurd (omega arith);
        ahead = λ k a h. (D.own k h).low;
        done = λ k h. absurd (omega arith);
        left = λ k h. refl;
      }

  module _ {first keys : List ℕ} {t j : ℕ} (S : Splitting types m codes first keys t j) where
    -- entry j is of type t
    pub split_entry : j < m → own_of codes j ≡ t → j < length keys → Splitting types m codes first (set keys j (get_or keys j 0 % key_codes)) t (j + 1)
    split_entry l e room =
        record {
          low = S.low;
          high = S.high;
          few = omega arith;
          starts = S.starts;
          passed = λ k h. ⊎_elim (λ (q : k ≡ j). omega (arith, ap (own_of codes) q)) (λ (l' : k < j). S.passed k l') (below_or h);
          ahead = λ k a h. S.ahead k (omega arith) h;
          done = λ k h.
              ⊎_elim
              (λ (q : k ≡ j). rw (q, get_or-set_same keys j (get_or keys j 0 % key_codes) 0 room) (ap (λ (x : ℕ). x % key_codes) (S.left j (omega arith))))
              (λ (l' : k < j). get_or-set_other keys j k (get_or keys j 0 % key_codes) 0 (λ q. omega arith) ∙ S.done k l') (below_or h);
          left = λ k a. get_or-set_other keys j k (get_or keys j 0 % key_codes) 0 (λ q. omega arith) ∙ S.left k (omega arith);
        }

    -- entry j is of a type behind t, or there is none
    pub split_type : t ≤ types → (j < m → own_of codes j ≡ t → ⊥) → t + 1 < length first → Splitting types m codes (set first (t + 1) j) keys (t + 1) j
    split_type l n room =
        record {
          low = omega arith;
          high = omega arith;
          few = S.few;
          starts = λ s a b.
              ⊎_elim
              (λ (q : s ≡ t + 1).
              subst (λ (x : ℕ). Starts codes m x (get_or (set first (t + 1) j) x 0)) (let e : t + 1 ≡ s = omega arith in e)
              (rw (get_or-set_same first (t + 1) j 0 room) (record { few = S.few; below = λ k h. omega (arith, S.passed k h); above = behind })))
              (λ (q : s ≡ t + 1 → ⊥). rw (get_or-set_other first (t + 1) s j 0 q) (S.starts s a (omega (arith, q)))) (split_eq s (t + 1));
          passed = λ k h. omega (arith, S.passed k h);
          ahead = behind;
          done = S.done;
          left = S.left;
        }
      where
        behind : (k : ℕ) → j ≤ k → k < m → t + 1 ≤ own_of codes k
        behind k a h =
            let x = S.ahead j (omega arith) (omega arith) in
            let y = n (omega arith) in
            ⊎_elim (λ (q : j ≡ k). omega (arith, y, ap (own_of codes) q)) (λ (q : j ≡ k → ⊥). omega (arith, y, D.sorted.rising j k (omega arith) (omega (arith, q)) h)) (split_eq j k)

    pub split_end : types < t → Split types m codes first keys
    split_end l =
        record {
          starts = λ s w. let h = w.high in S.starts s w.low (omega arith);
          key = λ k h. ⊎_elim (λ (a : j ≤ k). absurd (omega (arith, S.ahead k a h, (D.own k h).high))) (λ (b : k < j). S.done k b) (split_le j k);
        }
