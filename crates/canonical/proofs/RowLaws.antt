-- Rows that are written one behind the other.
use Prim.Native.Nat.{ℕ, suc, ◌+◌, ◌<◌}
use mathlib.Core.Path.{◌≡◌, sym, ap, ◌∙◌}
use mathlib.Core.List.{List}
use native.Mathlib.Omega.{arith}
use Rattle.base.specs.Bytes.{byte_at}
use Rattle.base.specs.Inner.Fill.{Filled}
use Rattle.base.proofs.FillLaws.{fill_then, fill_end}
use Rattle.base.proofs.WritingLaws.{list_at}
use Rattle.policy_image.specs.declared.records.Record.{Record}
use Rattle.policy_image.specs.Encoding.{record_bytes}
use Rattle.policy_image.specs.Inner.Sizes.{header_size, stride, size_of, start_of}
use Rattle.policy_image.proofs.EncodingLaws.{record_length}
use Rattle.policy_image.proofs.SizeLaws.{size_more, size_times, start_size}
use Rattle.canonical.specs.Inner.Rows.{row_bytes}

module _ (row : ℕ → Record) (m : ℕ) where
  -- byte x of row i + 1
  pub row_at_lem : (i x : ℕ) → i < m → x < stride → byte_at (row_bytes row m) (size_of i + x) ≡ byte_at (record_bytes (row (suc i))) x
  row_at_lem i x h b =
      ap (λ (n : ℕ). byte_at (row_bytes row m) (n + x)) (size_times i) ∙ list_at (λ k. record_bytes (row k)) stride (λ k. record_length (row k)) m i x h b

  -- the first i rows are written
  abbrev pub RowsTo : ℕ → List ℕ → List ℕ → Type 0
  RowsTo i old new = Filled (λ j v. v ≡ byte_at (row_bytes row m) j) old new header_size 0 (size_of i)

  pub row_more : {old mid new : List ℕ} (i : ℕ) → i < m → (r : Record) → r ≡ row (i + 1) → RowsTo i old mid
      → Filled (λ j v. v ≡ byte_at (record_bytes r) j) mid new (start_of (i + 1)) 0 stride → RowsTo (i + 1) old new
  row_more i h r e F G =
      let n : i + 1 ≡ suc i = omega arith in
      fill_end
      (fill_then _ F G (ap start_of n ∙ start_size i) (omega arith)
      (λ x v b q. q ∙ ap (λ (r : Record). byte_at (record_bytes r) x) (e ∙ ap row n) ∙ sym (row_at_lem i x h b)))
      (sym (ap size_of n ∙ size_more i))
