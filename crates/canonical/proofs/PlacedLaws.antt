-- Where the rows of the facts, and the constraints and nodes, stand in the canonical policy.
use Prim.Native.Nat.{ℕ, zero, suc, ◌+◌, ◌-◌, ◌≤◌, ◌<◌}
use mathlib.Core.Path.{◌≡◌, refl, sym, ap, ap₂, subst, ◌∙◌}
use mathlib.Core.List.{List}
use mathlib.Core.Logic.{⊎_elim}
use native.Mathlib.Omega.{arith}
use lib.ListN.{length, get_or, length-map, get_or-append, get_or-map}
use Rattle.base.specs.Bytes.{byte_at}
use Rattle.base.proofs.FillLaws.{fill_map}
use Rattle.base.proofs.Numbers.{split_eq}
use Rattle.policy_image.specs.Inner.Kinds.{kind_number}
use Rattle.policy_image.specs.declared.records.Record.{Record}
use Rattle.policy_image.specs.Policy.{Policy}
use Rattle.policy_image.specs.Encoding.{record_bytes, image_of}
use Rattle.policy_image.specs.Inner.Sizes.{header_size}
use Rattle.policy_image.proofs.EncodingLaws.{record_at}
use Rattle.policy_image.proofs.SizeLaws.{size_split}
use Rattle.policy_lists.specs.Lists.{records_upto, of_kind_in, kind_list, no_record, record_in, with_next}
use Rattle.policy_lists.specs.Joined.{nodes_upto, kinds_upto, renumbered}
use Rattle.policy_lists.specs.Inner.Places.{next_upto}
use Rattle.policy_lists.proofs.NodeLaws.{place_length, other_length, place_at, upto_more_length}
use Rattle.policy_lists.proofs.PlaceLaws.{ending, ending_next, endings_rise, StandsIn, kinds_at, kind_stands, link_at}
use Rattle.policy_facts.specs.Canonical.{fact_kind, canonical_node, canonical_kind, canonical_list, canonical_of}
use Rattle.policy_facts.specs.Inner.FactTable.{kind_in, table_record, FactTable}
use Rattle.policy_facts.proofs.FactTableLaws.{table_length, table_record_lem}
use Rattle.policy_facts.proofs.StatedLaws.{canonical_own}
use Rattle.policy_facts.proofs.CanonicalTurnLaws.{canonical_kept, constraints_end}
use Rattle.policy_runs.specs.declared.Run.{Run}
use Rattle.policy_runs.specs.Inner.Runs.{many_upto, run_place}
use Rattle.policy_runs.proofs.RunImageLaws.{RunIn, RecordsTo}
use Rattle.policy_runs.proofs.ImageWriteLaws.{EndTable}
use Rattle.canonical.specs.Inner.Rows.{fact_row, row_bytes}
use Rattle.canonical.proofs.RowLaws.{row_at_lem, RowsTo}

-- how many records there are of a kind rests on the kinds alone
pub kinds_count : (f g : ℕ → Record) → ((i : ℕ) → (f i).kind ≡ (g i).kind) → (k n : ℕ)
    → length (of_kind_in k (records_upto f n)) ≡ length (of_kind_in k (records_upto g n))
kinds_count f g same k zero = refl
kinds_count f g same k (suc n) =
    ⊎_elim
    (λ (e : (f (suc n)).kind ≡ k). place_length f k n e ∙ ap suc (kinds_count f g same k n) ∙ sym (place_length g k n (sym (same (suc n)) ∙ e)))
    (λ (d : (f (suc n)).kind ≡ k → ⊥). other_length f k n d ∙ kinds_count f g same k n ∙ sym (other_length g k n (λ e. d (same (suc n) ∙ e))))
    (split_eq (f (suc n)).kind k)

module _ (p : Policy) where
  abbrev lists : ℕ → List Record
  lists = canonical_kind p

  -- the place of a record, and its next
  abbrev stands : ℕ → ℕ → Type 0
  stands k i = StandsIn lists (canonical_own p) k i

  -- ---- the facts
  front : (i : ℕ) → i < ending lists 7 → get_or (canonical_list p) i no_record ≡ get_or (kinds_upto (fact_kind p) 7) i no_record
  front i h =
      let n = ending_next lists 7 in
      get_or-append (kinds_upto lists 8) (lists 9) no_record i (omega arith) ∙ get_or-append (kinds_upto lists 7) (lists 8) no_record i h

  module _ {keys masks : List ℕ} {m : ℕ} (T : FactTable p keys masks m) (ends : List ℕ) (E : EndTable lists ends) where
    -- row i + 1 of the table is record i + 1 of the canonical policy
    row_next : (i : ℕ) → i < m → fact_row keys masks ends (suc i) ≡ (canonical_of p).rec (suc i)
    row_next i h =
        let n = table_length T in
        let r = endings_rise lists 7 9 (omega arith) in
        let e : i ≡ suc i - 1 = omega arith in
        let made : record_in (canonical_list p) (suc i) ≡ table_record (get_or keys i 0) (get_or masks i 0) = front i (omega arith) ∙ table_record_lem T i h in
        let w = (T.entry i h).kind in
        let k : ℕ = kind_in (get_or keys i 0) - 1 in
        let kind : kind_in (get_or keys i 0) ≡ suc k = omega (arith, w.low) in
        let s = kind_stands lists (canonical_own p) k (suc i) (omega arith) (omega arith) (ap (λ (r : Record). r.kind) made ∙ kind) in
        subst (λ (x : ℕ). with_next (next_upto (get_or ends (kind_in (get_or keys x 0)) 0) (suc i)) (table_record (get_or keys x 0) (get_or masks x 0)) ≡ (canonical_of p).rec (suc i)) e
        (ap₂ with_next
        (ap (λ (x : ℕ). next_upto x (suc i)) (ap (λ (x : ℕ). get_or ends x 0) kind ∙ E (suc k) (omega (arith, kind, w.high)))
        ∙ sym (link_at lists (canonical_own p) k (suc i) (omega (arith, kind, w.high)) s))
        (sym made))

    pub row_is : (i : ℕ) → 1 ≤ i → i ≤ m → fact_row keys masks ends i ≡ (canonical_of p).rec i
    row_is zero a b = let z : ⊥ = omega arith in absurd z
    row_is (suc i) a b = row_next i b

    pub rows_put : {old new : List ℕ} → RowsTo (fact_row keys masks ends) m m old new → RecordsTo (canonical_of p) (ending lists 7) old new
    rows_put {old} {new} F =
        let n = table_length T in
        let r = endings_rise lists 7 9 (omega arith) in
        subst (λ (y : ℕ). RecordsTo (canonical_of p) y old new) (sym n)
        (fill_map
        (λ x v h q.
        let I = size_split m x h in
        q ∙ ap (byte_at (row_bytes (fact_row keys masks ends) m)) I.same ∙ row_at_lem (fact_row keys masks ends) m I.before I.byte I.low I.within
        ∙ ap (λ (r : Record). byte_at (record_bytes r) I.byte) (row_next I.before I.low)
        ∙ sym (record_at (canonical_of p) I.before I.byte (omega (arith, I.low, n, r)) I.within)
        ∙ ap (λ (i : ℕ). byte_at (image_of (canonical_of p)) (header_size + i)) (sym I.same))
        F)

  -- ---- constraints and nodes: kind k + 1
  module _ (k : ℕ) (low : 7 ≤ k) (high : suc k ≤ 9) where
    pub kept_end : ending lists (suc k) ≡ ending lists k + length (kind_list p (suc k))
    kept_end =
        ending_next lists k ∙ ap (λ (n : ℕ). ending lists k + n) (ap length (canonical_kept p (suc k) (omega arith)) ∙ length-map (kind_list p (suc k)) (renumbered (canonical_node p)))

    module _ (n : ℕ) (kind : (p.rec (suc n)).kind ≡ suc k) (there : suc n ≤ p.size) where
      abbrev place : ℕ
      place = many_upto p (suc k) n

      before : place < length (kind_list p (suc k))
      before =
          let a = place_length p.rec (suc k) n kind in
          let b = upto_more_length p.rec (suc k) (suc n) p.size there in
          omega arith

      kept_stands : stands k (suc (ending lists k + place))
      kept_stands = let b = before in let e = kept_end in record { low = omega arith; high = omega arith }

      kept_at : record_in (canonical_list p) (suc (ending lists k + place)) ≡ renumbered (canonical_node p) (p.rec (suc n))
      kept_at =
          let b = before in
          let e = canonical_kept p (suc k) (omega arith) in
          let l = ap length e ∙ length-map (kind_list p (suc k)) (renumbered (canonical_node p)) in
          kinds_at lists 9 k place high (omega arith)
          ∙ ap (λ (l : List Record). get_or l place no_record) e
          ∙ get_or-map (renumbered (canonical_node p)) (kind_list p (suc k)) place no_record
          ∙ ap (renumbered (canonical_node p)) (place_at p.rec (suc k) n p.size there kind)

    module _ (run : Run) (kind : kind_number run.kind ≡ suc k) (last : run.last ≡ ending lists (suc k)) (from : run.before ≡ ending lists k) (shift : run.shift ≡ ending lists 8) where
      place_is : (n : ℕ) → run_place p run n ≡ suc (ending lists k + many_upto p (suc k) n)
      place_is n = ap₂ (λ (a b : ℕ). suc (a + many_upto p b n)) from kind

      run_stands : (n : ℕ) → suc n ≤ p.size → (p.rec (suc n)).kind ≡ kind_number run.kind → stands k (run_place p run n)
      run_stands n l e = subst (stands k) (sym (place_is n)) (kept_stands n (e ∙ kind) l)

      pub kept_run : RunIn (canonical_of p) p run
      kept_run =
          record {
            high = λ n l e. let s = run_stands n l e in let r = endings_rise lists (suc k) 9 high in omega (arith, s.high, r);
            same = λ n l e.
                ap₂ with_next
                (link_at lists (canonical_own p) k (run_place p run n) high (run_stands n l e) ∙ ap (λ (x : ℕ). next_upto x (run_place p run n)) (sym last))
                (ap (record_in (canonical_list p)) (place_is n) ∙ kept_at n (e ∙ kind) l
                ∙ ap (λ (x : ℕ). renumbered (λ i. x + nodes_upto p i) (p.rec (suc n))) (sym (shift ∙ constraints_end p)));
          }
