-- A run whose records are those of a policy j at its place: its bytes are those of the image of j there.
use Prim.Native.Nat.{ℕ, zero, suc, ◌+◌, ◌-◌, ◌≤◌, ◌<◌}
use mathlib.Core.Path.{◌≡◌, sym, ap, ◌∙◌}
use mathlib.Core.List.{List, [], ◌++◌}
use mathlib.Core.Logic.{⊎_elim}
use native.Mathlib.Omega.{arith}
use lib.ListN.{length, get_or-append}
use lib.Seq.{get_or-append-add}
use Rattle.base.specs.Bytes.{byte_at}
use Rattle.base.specs.Inner.Fill.{Filled}
use Rattle.base.proofs.FillLaws.{fill_begin, fill_then, fill_end}
use Rattle.base.proofs.Numbers.{split_eq, split_le}
use Rattle.policy_image.specs.Inner.Kinds.{kind_number}
use Rattle.policy_image.specs.declared.records.Record.{Record}
use Rattle.policy_image.specs.Policy.{Policy}
use Rattle.policy_image.specs.Encoding.{record_bytes, image_of}
use Rattle.policy_image.specs.Inner.Sizes.{header_size, size_of, start_of}
use Rattle.policy_image.proofs.EncodingLaws.{record_at}
use Rattle.policy_image.proofs.SizeLaws.{size_none, size_add, start_size}
use Rattle.policy_lists.specs.Lists.{kind_list}
use Rattle.policy_lists.proofs.NodeLaws.{other_length}
use Rattle.policy_runs.specs.declared.Run.{Run}
use Rattle.policy_runs.specs.Inner.Runs.{many_upto, run_place, run_record, run_bytes}
use Rattle.policy_runs.proofs.RunLaws.{run_here, run_passed, many_size, run_length}

-- record n + 1 of o, where it is of the run's kind, is the record of j at its place
pub record RunIn (j o : Policy) (run : Run) : Type 0 where
  pub high : (n : ℕ) → suc n ≤ o.size → (o.rec (suc n)).kind ≡ kind_number run.kind → run_place o run n ≤ j.size
  pub same : (n : ℕ) → suc n ≤ o.size → (o.rec (suc n)).kind ≡ kind_number run.kind → j.rec (run_place o run n) ≡ run_record o run n

module _ (j o : Policy) (run : Run) (R : RunIn j o run) where
  abbrev many : ℕ → ℕ
  many n = many_upto o (kind_number run.kind) n

  -- the bytes of a run, by those of the image of j
  pub run_image : (n i : ℕ) → n ≤ o.size → i < size_of (many n) → byte_at (run_bytes o run n) i ≡ byte_at (image_of j) (header_size + (size_of run.before + i))
  run_image zero i h b = let z : ⊥ = omega (arith, size_none, b) in absurd z
  run_image (suc n) i h b =
      ⊎_elim
      (λ (e : (o.rec (suc n)).kind ≡ kind_number run.kind).
      ap (λ (l : List ℕ). byte_at l i) (run_here o run n e)
      ∙ ⊎_elim
      (λ (past : size_of (many n) ≤ i).
      let x : ℕ = i - size_of (many n) in
      let l = run_length o run n in
      let p = many_size o run n e in
      let place = size_add run.before (many n) in
      let high = R.high n h e in
      ap (byte_at (run_bytes o run n ++ record_bytes (run_record o run n))) (let q : i ≡ length (run_bytes o run n) + x = omega arith in q)
      ∙ get_or-append-add (run_bytes o run n) (record_bytes (run_record o run n)) x 0
      ∙ ap (λ (r : Record). byte_at (record_bytes r) x) (sym (R.same n h e))
      ∙ sym (record_at j (run.before + many n) x (omega arith) (omega arith))
      ∙ ap (byte_at (image_of j)) (let q : header_size + (size_of (run.before + many n) + x) ≡ header_size + (size_of run.before + i) = omega arith in q))
      (λ (before : i < size_of (many n)).
      get_or-append (run_bytes o run n) (record_bytes (run_record o run n)) 0 i (omega (arith, run_length o run n, before))
      ∙ run_image n i (omega arith) before)
      (split_le (size_of (many n)) i))
      (λ (d : (o.rec (suc n)).kind ≡ kind_number run.kind → ⊥).
      let m = ap size_of (other_length o.rec (kind_number run.kind) n d) in
      ap (λ (l : List ℕ). byte_at l i) (run_passed o run n d)
      ∙ get_or-append (run_bytes o run n) [] 0 i (omega (arith, run_length o run n, m, b))
      ∙ run_image n i (omega arith) (omega (arith, m, b)))
      (split_eq (o.rec (suc n)).kind (kind_number run.kind))

-- records 1 to n of j stand in the output
abbrev pub RecordsTo : Policy → ℕ → List ℕ → List ℕ → Type 0
RecordsTo j n old new = Filled (λ i v. v ≡ byte_at (image_of j) (header_size + i)) old new header_size 0 (size_of n)

pub records_none : (j : Policy) (l : List ℕ) → RecordsTo j 0 l l
records_none j l = fill_end (fill_begin _ l _ 0) (sym size_none)

-- .. and those of a run behind them
pub records_more : (j o : Policy) (run : Run) → RunIn j o run → {old mid new : List ℕ} → RecordsTo j run.before old mid
    → Filled (λ i v. v ≡ byte_at (run_bytes o run o.size) i) mid new (start_of (suc run.before)) 0 (size_of (length (kind_list o (kind_number run.kind))))
    → RecordsTo j (run.before + length (kind_list o (kind_number run.kind))) old new
records_more j o run R F G =
    fill_end
    (fill_then _ F G (start_size run.before) (omega arith) (λ i v b q. q ∙ run_image j o run R o.size i (omega arith) b))
    (sym (size_add run.before (length (kind_list o (kind_number run.kind)))))
