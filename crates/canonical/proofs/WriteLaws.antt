-- What is known of an image whose canonical image can be written: the tables are those of the canonical policy, its header, its rows and its
-- two runs can be written, and make the whole image.
use Prim.Native.Nat.{ℕ, zero, suc, ◌+◌, ◌-◌, ◌≤◌, ◌<◌}
use mathlib.Core.Path.{◌≡◌, refl, sym, ap, ap₂, subst, ◌∙◌}
use mathlib.Core.Bool.{Bool, cond}
use mathlib.Core.List.{List}
use mathlib.Core.Logic.{⊎_elim}
use native.Mathlib.Omega.{arith}
use borrow.Author.Tests.{le-leb, lt-leb}
use lib.ListN.{length, get_or}
use Rattle.base.specs.Bytes.{byte_at}
use Rattle.base.specs.Inner.Fill.{Filled}
use Rattle.base.proofs.Numbers.{split_le}
use Rattle.policy_image.specs.Inner.Kinds.{kind_number}
use Rattle.policy_image.specs.declared.counts.Counts.{Counts}
use Rattle.policy_image.specs.declared.records.Record.{Record}
use Rattle.policy_image.specs.Layout.{counts_of}
use Rattle.policy_image.specs.Policy.{Policy, policy_of}
use Rattle.policy_image.specs.Inner.Sizes.{size_of, start_of, most_records}
use Rattle.policy_image.specs.Inner.Writable.{WritableRecord}
use Rattle.policy_image.proofs.EncodingLaws.{image_writable}
use Rattle.policy_image.proofs.SizeLaws.{size_le}
use Rattle.policy_lists.specs.Lists.{kind_list, with_records}
use Rattle.policy_lists.proofs.NodeLaws.{most_length, other_length}
use Rattle.policy_lists.proofs.PlaceLaws.{ending, ending_next, endings_rise}
use Rattle.policy_facts.specs.Canonical.{canonical_kind, canonical_of}
use Rattle.policy_facts.specs.Inner.FactTable.{kind_in, table_record}
use Rattle.policy_facts.proofs.FactTableLaws.{table_length, table_kinds}
use Rattle.policy_facts.proofs.StatedLaws.{canonical_own, canonical_fact}
use Rattle.policy_facts.proofs.CanonicalWritableLaws.{canonical_writable}
use Rattle.policy_runs.specs.declared.Run.{Run}
use Rattle.policy_runs.specs.Inner.Runs.{KindTable, NodeTable, run_bytes, RunFits}
use Rattle.policy_runs.specs.Inner.Tables.{sum_upto, Summed, FewOfEach}
use Rattle.policy_runs.proofs.TableLaws.{added_up}
use Rattle.policy_runs.proofs.RunImageLaws.{RecordsTo, records_more}
use Rattle.policy_runs.proofs.ImageWriteLaws.{WritableLists, EndTable, ends_most, run_fits}
use Rattle.canonical.specs.Inner.Rows.{keys_of_kind, KeyCounts, FactKinds, RowsFit}
use Rattle.canonical.specs.Inner.Parts.{KeptKinds, Canonizable}
use Rattle.canonical.proofs.PlacedLaws.{kinds_count, row_is, kept_end, kept_run}

-- no key of a fact has kind 8 or 9
no_keys : (keys : List ℕ) (k n : ℕ) → FactKinds keys n → 7 < k → keys_of_kind keys n k ≡ 0
no_keys keys k zero F h = refl
no_keys keys k (suc n) F h =
    let w = F n (omega arith) in
    let e : n ≡ suc n - 1 = omega arith in
    other_length (λ i. table_record (get_or keys (i - 1) 0) 0) k n (λ q. let z : ⊥ = omega (arith, ap (λ (x : ℕ). kind_in (get_or keys x 0)) e ∙ q, w.high, h) in z)
    ∙ no_keys keys k n (λ i l. F i (omega arith)) h

module _ {s : List ℕ} {c : Counts} {keys masks : List ℕ} {m room : ℕ} (G : Canonizable s c keys masks m room) where
  abbrev p : Policy
  p = policy_of s

  abbrev j : Policy
  j = canonical_of p

  abbrev lists : ℕ → List Record
  lists = canonical_kind p

  abbrev ends : ℕ → ℕ
  ends k = ending lists k

  pub writable_lists : WritableLists lists p.counts
  writable_lists =
      record { own = canonical_own p; writable = canonical_writable p G.few G.sound.nodes (image_writable s G.bytes G.sound.exact) }

  -- ---- the facts
  pub facts_are : m ≡ ends 7
  facts_are = sym (table_length G.table)

  pub few_facts : m ≤ most_records
  few_facts = let e = facts_are in omega (arith, e, ends_most writable_lists 7 (omega arith))

  pub fact_kinds : FactKinds keys m
  fact_kinds i h = (G.table.entry i h).kind

  -- ---- the tables
  module _ (of facts kept : List ℕ) (O : KindTable p of) (F : KeyCounts keys m facts) (K : KeptKinds of kept) where
    kept_low : (k : ℕ) → k ≤ 7 → get_or kept k 0 ≡ 0
    kept_low k h = K k (omega arith) ∙ ap (λ (t : Bool). cond t 0 (get_or of k 0)) (le-leb k 7 h)

    kept_high : (k : ℕ) → 7 < k → k ≤ 9 → get_or kept k 0 ≡ length (kind_list p k)
    kept_high k l h = K k h ∙ ap (λ (t : Bool). cond t 0 (get_or of k 0)) (lt-leb k 7 l) ∙ O k (omega arith) h

    pub few_of_each : FewOfEach facts kept
    few_of_each =
        record {
          first = λ k l h.
              let e = F k l h in
              let n = most_length (λ i. table_record (get_or keys (i - 1) 0) 0) k m in
              omega (arith, e, n, few_facts);
          second = λ k l h.
              ⊎_elim (λ (a : k ≤ 7). omega (arith, kept_low k a))
              (λ (a : 7 < k). let n = most_length p.rec k p.size in omega (arith, kept_high k a h, n, G.sound.exact.few))
              (split_le k 7);
        }

    -- how many records there are of kind k
    many : (k : ℕ) → 1 ≤ k → k ≤ 9 → added_up facts kept k ≡ length (lists k)
    many k l h =
        ⊎_elim
        (λ (a : k ≤ 7).
        let z = kept_low k a in
        let e = F k l h
        ∙ kinds_count (λ i. table_record (get_or keys (i - 1) 0) 0) (λ i. table_record (get_or keys (i - 1) 0) (get_or masks (i - 1) 0)) (λ i. refl) k m
        ∙ sym (table_kinds G.table k l a) ∙ ap length (sym (canonical_fact p k a)) in
        omega (arith, z, e))
        (λ (a : 7 < k).
        let z = F k l h ∙ no_keys keys k m fact_kinds a in
        let e = kept_high k a h in
        let n = kept_end p (k - 1) (omega arith) (omega arith) in
        let q : suc (k - 1) ≡ k = omega arith in
        let x = ending_next lists (k - 1) in
        let y = ap (λ (i : ℕ). length (lists i)) q in
        let v = ap (λ (i : ℕ). length (kind_list p i)) q in
        omega (arith, z, e, n, x, y, v))
        (split_le k 7)

    sums : (k : ℕ) → k ≤ 9 → sum_upto (added_up facts kept) k ≡ ends k
    sums zero h = refl
    sums (suc k) h =
        let a = sums k (omega arith) in
        let b = many (suc k) (omega arith) h in
        let n = ending_next lists k in
        omega arith

    pub ends_are : (e : List ℕ) → Summed (added_up facts kept) e 9 → EndTable lists e
    ends_are e S k h = S k h ∙ sums k h

  -- ---- the counts, and the rows
  pub counts_are : (e : List ℕ) → EndTable lists e → with_records (get_or e 9 0) c ≡ j.counts
  unfolding counts_of
  counts_are e E = ap₂ with_records (E 9 (omega arith)) G.counts

  pub rows_fit : (e : List ℕ) → EndTable lists e → (output : ℕ) → room ≤ output → RowsFit keys masks e m output
  rows_fit e E output long =
      let r = endings_rise lists 7 9 (omega arith) in
      record {
        few = few_facts;
        keyed = G.keyed;
        masked = G.masked;
        kinds = fact_kinds;
        room = omega (arith, size_le (let n : m ≤ j.size = omega (arith, facts_are, r) in n), G.room, long);
        writable = λ i a b.
            subst WritableRecord (sym (row_is p G.table e E i a b))
            (writable_lists.writable.fields i (record { low = a; high = omega (arith, b, facts_are, r) }));
      }

  -- ---- the runs: constraints, then nodes
  module _ (k : ℕ) (low : 7 ≤ k) (high : suc k ≤ 9) (run : Run) (kind : kind_number run.kind ≡ suc k) (last : run.last ≡ ends (suc k)) (before : run.before ≡ ends k) (shift : run.shift ≡ ends 8) where
    pub kept_fits : (output : ℕ) (nodes : List ℕ) → room ≤ output → NodeTable p nodes → RunFits s nodes run output
    kept_fits output nodes long =
        let S = G.sound in
        let y = ap (λ (i : ℕ). length (kind_list p i)) kind in
        let e = kept_end p k low high in
        let n = kept_end p 8 (omega arith) (omega arith) in
        let r = endings_rise lists (suc k) 9 high in
        run_fits writable_lists.writable S.exact S.links S.chains S.nodes run (kept_run p k low high run kind last before shift)
        (omega (arith, y, e, r, before)) (omega (arith, shift, n)) output nodes (omega (arith, G.room, long))

    pub kept_put : {old mid new : List ℕ} → RecordsTo j (ends k) old mid
        → Filled (λ i v. v ≡ byte_at (run_bytes p run p.size) i) mid new (start_of (suc run.before)) 0 (size_of (length (kind_list p (kind_number run.kind))))
        → RecordsTo j (ends (suc k)) old new
    kept_put {old} {mid} {new} F R =
        subst (λ (x : ℕ). RecordsTo j x old new) (ap₂ (λ (x y : ℕ). x + length (kind_list p y)) before kind ∙ sym (kept_end p k low high))
        (records_more j p run (kept_run p k low high run kind last before shift) (subst (λ (x : ℕ). RecordsTo j x old mid) (sym before) F) R)

    pub behind : run.before + length (kind_list p (kind_number run.kind)) ≡ ends (suc k)
    behind = ap₂ (λ (x y : ℕ). x + length (kind_list p y)) before kind ∙ sym (kept_end p k low high)
