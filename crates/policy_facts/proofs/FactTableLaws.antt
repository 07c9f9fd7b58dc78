-- A table of the facts of a policy has the records of kinds 1 to 7 of its canonical policy, in their order.
use Prim.Native.Nat.{ℕ, zero, suc, ◌+◌, ◌-◌, ◌*◌, ◌/◌, ◌%◌, ◌≤◌, ◌<◌}
use mathlib.Core.Path.{◌≡◌, refl, sym, ap, ap₂, ◌∙◌}
use mathlib.Core.Bool.{Bool, cond}
use mathlib.Core.List.{List, [], ◌∷◌, ◌++◌, append-nil}
use mathlib.Core.Logic.{⊎_elim}
use native.Mathlib.Nat.{eq-or-lt_of_le}
use native.Mathlib.Omega.{arith}
use borrow.Author.Tests.{eq-eqb, ne_eqb}
use lib.Dec.{eqb}
use lib.ListN.{length, get_or}
use Rattle.base.proofs.Numbers.{split_eq, split_le}
use Rattle.base.proofs.BoolLaws.{true_or_false}
use Rattle.policy_image.specs.declared.records.Record.{Record}
use Rattle.policy_image.specs.Policy.{Policy}
use Rattle.policy_lists.specs.Lists.{records_upto, of_kind_in, no_record, record_in}
use Rattle.policy_lists.specs.Joined.{kinds_upto}
use Rattle.policy_lists.proofs.ListLaws.{upto_length}
use Rattle.policy_facts.specs.Facts.{is_written}
use Rattle.policy_facts.specs.Canonical.{key_a, key_b, key_c, key_numbers, fact_record, fact_at, fact_kind}
use Rattle.policy_facts.specs.Inner.FactTable.{kind_in, number_in, table_record, FactTable}
use Rattle.policy_facts.proofs.KindsLaws.{upto_at, kinds_of}
use Rattle.policy_facts.proofs.GatherLaws.{gather, gather_same, gather_next, gather_none, gather_more}
use Rattle.policy_facts.proofs.FactListLaws.{facts_gather, fact_own}

-- ---- kinds 1 to n, key by key
-- what is written for a key, the kind above a, b and c; kind 0 has no facts
abbrev keyed_at : Policy → ℕ → List Record
keyed_at p key = cond (eqb (kind_in key) 0) [] (fact_at p (kind_in key) (number_in key))

module _ (p : Policy) where
  keyed_none : (key : ℕ) → kind_in key ≡ 0 → keyed_at p key ≡ []
  keyed_none key e = ap (λ (t : Bool). cond t [] (fact_at p (kind_in key) (number_in key))) (eq-eqb (kind_in key) 0 e)

  keyed_kind : (key : ℕ) → (kind_in key ≡ 0 → ⊥) → keyed_at p key ≡ fact_at p (kind_in key) (number_in key)
  keyed_kind key d = ap (λ (t : Bool). cond t [] (fact_at p (kind_in key) (number_in key))) (ne_eqb (kind_in key) 0 d)

  -- the keys of kind k + 1 stand from 16777216 * (k + 1) on
  keyed_more : (k x : ℕ) → x < key_numbers → fact_at p (suc k) x ≡ keyed_at p (16777216 * suc k + x)
  keyed_more k x h =
      ap₂ (fact_at p)
      (let e : suc k ≡ (16777216 * suc k + x) / 16777216 = omega arith in e)
      (let e : x ≡ (16777216 * suc k + x) % 16777216 = omega arith in e)
      ∙ sym (keyed_kind (16777216 * suc k + x) (λ e. let z : ⊥ = omega arith in z))

  kinds_gather : (n : ℕ) → kinds_upto (fact_kind p) n ≡ gather (keyed_at p) (16777216 * suc n)
  kinds_gather zero = sym (gather_none (keyed_at p) (16777216 * 1) (λ x h. keyed_none x (omega arith)))
  kinds_gather (suc n) =
      ap₂ ◌++◌ (kinds_gather n)
      (facts_gather p (suc n) key_numbers
      ∙ gather_same (fact_at p (suc n)) (λ x. keyed_at p (16777216 * suc n + x)) key_numbers (keyed_more n))
      ∙ sym (gather_more (keyed_at p) (16777216 * suc n) key_numbers)
      ∙ ap (gather (keyed_at p)) (let e : 16777216 * suc n + key_numbers ≡ 16777216 * suc (suc n) = omega arith in e)

-- ---- lists that hold one record each at rising numbers, and none elsewhere
module _ (f : ℕ → List Record) (key : ℕ → ℕ) (row : ℕ → Record) (m bound : ℕ)
    (rising : (i j : ℕ) → i < j → j < m → key i < key j)
    (low : (i : ℕ) → i < m → key i < bound)
    (here : (i : ℕ) → i < m → f (key i) ≡ row (suc i) ∷ [])
    (none : (x : ℕ) → x < bound → ((i : ℕ) → i < m → key i ≡ x → ⊥) → f x ≡ []) where
  -- the lists below x hold the first i records
  record Below (x i : ℕ) : Type 0 where
    most : i ≤ m
    before : (j : ℕ) → j < i → key j < x
    after : (j : ℕ) → i ≤ j → j < m → x ≤ key j
    same : gather f x ≡ records_upto row i

  -- list x holds the next one ..
  below_here : (x i : ℕ) → Below x i → i < m → key i ≡ x → Below (suc x) (suc i)
  below_here x i B h e =
      record {
        most = h;
        before = λ j l.
            ⊎_elim (λ q. let k = ap key q in omega arith) (λ q. let a = rising j i q h in omega arith) (eq-or-lt_of_le (let b : j ≤ i = omega arith in b));
        after = λ j l b. let a = rising i j l b in omega arith;
        same = gather_next f x ∙ ap₂ ◌++◌ B.same (ap f (sym e) ∙ here i h);
      }

  -- .. or none: the keys before i are lower, and those behind it higher
  below_none : (x i : ℕ) → x < bound → Below x i → (i < m → key i ≡ x → ⊥) → Below (suc x) i
  below_none x i b B d =
      record {
        most = B.most;
        before = λ j l. let a = B.before j l in omega arith;
        after = λ j l h. let a = B.after j l h in let n = no_key j h in omega arith;
        same = gather_next f x ∙ ap₂ ◌++◌ B.same (none x b no_key) ∙ append-nil (records_upto row i);
      }
    where
      no_key : (j : ℕ) → j < m → key j ≡ x → ⊥
      no_key j h e =
          ⊎_elim
          (λ l.
          ⊎_elim (λ (q : i ≡ j). d (omega arith) (ap key q ∙ e))
          (λ (q : i < j). let a = rising i j q h in let c = B.after i (omega arith) (omega arith) in omega arith)
          (eq-or-lt_of_le l))
          (λ l. let a = B.before j l in omega arith)
          (split_le i j)

  below : (x : ℕ) → x ≤ bound → (i : ℕ) × Below x i
  unfolding gather
  below zero h =
      (0, record { most = omega arith; before = λ j l. let z : ⊥ = omega arith in absurd z; after = λ j a b. omega arith; same = refl })
  below (suc x) h = go (below x (omega arith))
    where
      go : (i : ℕ) × Below x i → (i : ℕ) × Below (suc x) i
      go B =
          ⊎_elim
          (λ l.
          ⊎_elim (λ e. (suc B.0, below_here x B.0 B.1 l e)) (λ d. (B.0, below_none x B.0 h B.1 (λ q. d)))
          (split_eq (key B.0) x))
          (λ l. (B.0, below_none x B.0 h B.1 (λ q. let z : ⊥ = omega arith in absurd z)))
          (split_le (suc B.0) m)

  -- all of them hold all the records
  keys_gather : gather f bound ≡ records_upto row m
  keys_gather =
      let B = below bound (omega arith) in
      let i : ℕ = B.0 in
      B.1.same
      ∙ ap (records_upto row) {x = i} {y = m}
      (⊎_elim (λ l. let a = B.1.after i (omega arith) l in let b = low i l in let z : ⊥ = omega arith in absurd z)
      (λ l. let a = B.1.most in omega arith) (split_le (suc i) m))

-- ---- the table
module _ {p : Policy} {keys masks : List ℕ} {m : ℕ} (T : FactTable p keys masks m) where
  abbrev key_at : ℕ → ℕ
  key_at i = get_or keys i 0

  abbrev entry_at : ℕ → Record
  entry_at i = table_record (get_or keys i 0) (get_or masks i 0)

  -- what is written for a key of the table is its record ..
  table_here : (i : ℕ) → i < m → keyed_at p (key_at i) ≡ entry_at i ∷ []
  table_here i h =
      let E = T.entry i h in
      let a = E.kind.low in
      keyed_kind p (key_at i) (λ e. let z : ⊥ = omega arith in z)
      ∙ ap (λ (t : Bool). cond t (fact_record p (kind_in (key_at i)) (number_in (key_at i)) ∷ []) []) E.written
      ∙ ap (λ (n : ℕ). table_record (key_at i) n ∷ []) (sym E.united)

  -- .. and for other keys nothing is written
  table_none : (x : ℕ) → x < 16777216 * 8 → ((i : ℕ) → i < m → key_at i ≡ x → ⊥) → keyed_at p x ≡ []
  table_none x b d =
      ⊎_elim (λ e. keyed_none p x e)
      (λ n.
      keyed_kind p x n
      ∙ ⊎_elim
      (λ w.
      let s = T.every (kind_in x) (number_in x) (record { low = omega (arith, n); high = omega arith }) (omega arith) w in
      absurd (d s.at s.low (omega (arith, s.same))))
      (λ w. ap (λ (t : Bool). cond t (fact_record p (kind_in x) (number_in x) ∷ []) []) w)
      (true_or_false (is_written p (kind_in x) (key_a (number_in x)) (key_b (number_in x)) (key_c (number_in x)))))
      (split_eq (kind_in x) 0)

  -- so the table has the records of kinds 1 to 7, in their order; `row` gives its records from 1 on
  module _ (row : ℕ → Record) (rows : (i : ℕ) → i < m → row (suc i) ≡ table_record (get_or keys i 0) (get_or masks i 0)) where
    pub table_list : kinds_upto (fact_kind p) 7 ≡ records_upto row m
    table_list =
        kinds_gather p 7
        ∙ keys_gather (keyed_at p) key_at row m (16777216 * 8) T.rising
        (λ i h. let a = (T.entry i h).kind.high in omega arith)
        (λ i h. table_here i h ∙ ap (λ (r : Record). r ∷ []) (sym (rows i h))) table_none

    -- and as many of each kind
    pub table_kind : (k : ℕ) → 1 ≤ k → k ≤ 7 → length (fact_kind p k) ≡ length (of_kind_in k (records_upto row m))
    table_kind k a b =
        sym (ap length (kinds_of (fact_kind p) (λ j. fact_own p j key_numbers) k 7 a b)) ∙ ap (λ (l : List Record). length (of_kind_in k l)) table_list

  abbrev row_at : ℕ → Record
  row_at i = entry_at (i - 1)

  row_at_lem : (i : ℕ) → i < m → row_at (suc i) ≡ entry_at i
  row_at_lem i h = ap entry_at (let e : suc i - 1 ≡ i = omega arith in e)

  pub table_length : length (kinds_upto (fact_kind p) 7) ≡ m
  table_length = ap length (table_list row_at row_at_lem) ∙ upto_length row_at m

  pub table_record_lem : (i : ℕ) → i < m → record_in (kinds_upto (fact_kind p) 7) (suc i) ≡ table_record (get_or keys i 0) (get_or masks i 0)
  table_record_lem i h = ap (λ (l : List Record). get_or l i no_record) (table_list row_at row_at_lem) ∙ upto_at row_at m i h ∙ row_at_lem i h

  pub table_kinds : (k : ℕ) → 1 ≤ k → k ≤ 7
      → length (fact_kind p k) ≡ length (of_kind_in k (records_upto (λ i. table_record (get_or keys (i - 1) 0) (get_or masks (i - 1) 0)) m))
  table_kinds = table_kind row_at row_at_lem
