-- An image is written: its header, by the tables of ends and heads, then its records, run by run.
use Prim.Native.Nat.{ℕ, zero, suc, ◌+◌, ◌-◌, ◌≤◌}
use mathlib.Core.Path.{◌≡◌, sym, ap, ap₂, subst, ◌∙◌}
use mathlib.Core.List.{List, ◌++◌}
use native.Mathlib.Omega.{arith}
use lib.ListN.{length, get_or, drop}
use Rattle.base.specs.Bytes.{byte_at}
use Rattle.base.specs.Writing.{low16}
use Rattle.base.specs.Inner.Fill.{Filled}
use Rattle.base.proofs.FillLaws.{fill_then, fill_end}
use Rattle.base.proofs.WritingLaws.{list_same}
use Rattle.policy_image.specs.Inner.Kinds.{kind_number}
use Rattle.policy_image.specs.declared.counts.Counts.{Counts}
use Rattle.policy_image.specs.declared.records.Record.{Record}
use Rattle.policy_image.specs.Layout.{PolicyExact, record_count, counts_of}
use Rattle.policy_image.specs.Policy.{Policy, policy_of}
use Rattle.policy_image.specs.Encoding.{count_bytes, header_bytes, image_of}
use Rattle.policy_image.specs.Inner.Sizes.{header_size, image_size, most_records}
use Rattle.policy_image.specs.Inner.Writable.{WritableRecord, WritableCounts, WritableHeads, Writable}
use Rattle.policy_image.proofs.SizeLaws.{size_le}
use Rattle.policy_links.specs.Chains.{LinksRise, ChainsByKind}
use Rattle.policy_expressions.specs.Nodes.{NodesInOrder}
use Rattle.policy_lists.specs.Lists.{kind_list, policy_from}
use Rattle.policy_lists.specs.Joined.{kinds_upto}
use Rattle.policy_lists.specs.Inner.Places.{next_upto}
use Rattle.policy_lists.proofs.JoinTurnLaws.{Each}
use Rattle.policy_lists.proofs.NodeLaws.{upto_more_length}
use Rattle.policy_lists.proofs.PlaceLaws.{ending, endings_rise, head_at}
use Rattle.policy_writing.proofs.ImageLaws.{image_begun, image_done}
use Rattle.policy_runs.specs.declared.Run.{Run}
use Rattle.policy_runs.specs.Inner.Runs.{NodeTable, run_place, RunFits}
use Rattle.policy_runs.specs.Inner.Tables.{FewUpto, HeadTable}
use Rattle.policy_runs.proofs.RunImageLaws.{RunIn, RecordsTo}

-- the number of records, as the header has it
pub records_of : (s : List ℕ) {c : Counts} → c ≡ counts_of s → c.records ≡ record_count s
unfolding counts_of
records_of s e = ap (λ (c : Counts). c.records) e

-- ---- the header of a policy whose records are lists of kinds 1 to 9, one behind the other
-- each list has its own kind, and the policy can be written
pub record WritableLists (lists : ℕ → List Record) (c : Counts) : Type 0 where
  pub own : (k : ℕ) → Each (λ r. r.kind ≡ k) (lists k)
  pub writable : Writable (policy_from c (kinds_upto lists 9))

-- the table t has, for each kind, how many records of kinds up to it there are
abbrev pub EndTable : (ℕ → List Record) → List ℕ → Type 0
EndTable lists t = (k : ℕ) → k ≤ 9 → get_or t k 0 ≡ ending lists k

module _ {lists : ℕ → List Record} {c : Counts} (L : WritableLists lists c) where
  abbrev made : Policy
  made = policy_from c (kinds_upto lists 9)

  pub ends_most : (k : ℕ) → k ≤ 9 → ending lists k ≤ most_records
  ends_most k h = let r = endings_rise lists k 9 h in omega (arith, r, L.writable.counts.records)

  pub counts_writable : {n : Counts} → n ≡ made.counts → WritableCounts n
  counts_writable e = subst WritableCounts (sym e) L.writable.counts

  module _ (t : List ℕ) (E : EndTable lists t) where
    pub few_upto : FewUpto t
    few_upto k h = let m = ends_most k h in let e = E k h in omega arith

    module _ (h : List ℕ) (H : HeadTable t h) where
      heads_are : (k : ℕ) → 1 ≤ k → k ≤ 9 → get_or h k 0 ≡ made.head k
      heads_are zero l u = let z : ⊥ = omega arith in absurd z
      heads_are (suc k) l u =
          let n : suc k - 1 ≡ k = omega arith in
          H (suc k) l u
          ∙ ap₂ next_upto (E (suc k) u) (ap (λ (i : ℕ). get_or t i 0) n ∙ E k (omega arith))
          ∙ sym (head_at lists L.own k u)

      pub heads_writable : WritableHeads (λ k. get_or h k 0)
      heads_writable k w = let x = heads_are k w.low w.high in let f = L.writable.heads k w in omega (arith, x, f)

      pub header_put : {n : Counts} {old new : List ℕ} → n ≡ made.counts → Filled (λ i v. v ≡ byte_at (header_bytes n (λ k. get_or h k 0)) i) old new 0 0 header_size
          → Filled (λ i v. v ≡ byte_at (image_of made) i) old new 0 0 header_size
      unfolding header_bytes
      header_put {n} {old} {new} e F =
          image_begun made
          (subst (λ (l : List ℕ). Filled (λ i v. v ≡ byte_at l i) old new 0 0 header_size)
          (ap₂ ◌++◌ (ap count_bytes e) (list_same (λ k. low16 (get_or h k 0)) (λ k. low16 (made.head k)) 9 (λ k l u. ap low16 (heads_are k l u)))) F)

-- ---- a run of the image s, which a policy j has at its place, fits where the image of j does
pub run_fits : {j : Policy} → Writable j → {s : List ℕ} → PolicyExact s → LinksRise (policy_of s) → ChainsByKind (policy_of s) → NodesInOrder (policy_of s)
    → (run : Run) → RunIn j (policy_of s) run
    → run.before + length (kind_list (policy_of s) (kind_number run.kind)) ≤ j.size → run.shift + length (kind_list (policy_of s) 9) ≤ j.size
    → (output : ℕ) (nodes : List ℕ) → image_size j.size ≤ output → NodeTable (policy_of s) nodes → RunFits s nodes run output
run_fits {j} W {s} exact links chains order run R place shift output nodes room T =
    let o : Policy = policy_of s in
    let few : j.size ≤ most_records = omega (arith, W.size, W.counts.records) in
    record {
      exact = exact;
      links = links;
      chains = chains;
      nodes = order;
      table = T;
      most = omega (arith, place, few);
      room = omega (arith, size_le place, room);
      shifted = λ i h. let f = upto_more_length o.rec 9 i o.size h in omega (arith, f, shift, few);
      writable = λ i h e. subst WritableRecord (R.same i h e) (W.fields (run_place o run i) (record { low = omega arith; high = R.high i h e }));
    }

-- ---- the whole image: the header, then all records
pub all_put : (j : Policy) {old mid new : List ℕ} → length new ≡ length old → image_size j.size ≤ length old → Filled (λ i v. v ≡ byte_at (image_of j) i) old mid 0 0 header_size
    → RecordsTo j j.size mid new → new ≡ image_of j ++ drop (image_size j.size) old
all_put j same room F R = image_done j same room (fill_end (fill_then _ F R (omega arith) (omega arith) (λ i v b e. e)) (omega arith))
