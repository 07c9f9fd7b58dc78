-- The rows of a table of facts, as they are written: row i is record i of the result.
use Rattle.std.specs.Prelude.{ℕ, ◌-◌, ◌≤◌, ◌<◌, ◌≡◌, List, length, get_or}
use Rattle.base.specs.Ranges.{Within}
use Rattle.base.specs.Writing.{list_upto}
use Rattle.policy_image.specs.declared.records.Record.{Record}
use Rattle.policy_image.specs.Encoding.{record_bytes}
use Rattle.policy_image.specs.Inner.Sizes.{image_size, most_records}
use Rattle.policy_image.specs.Inner.Writable.{WritableRecord}
use Rattle.policy_lists.specs.Lists.{records_upto, of_kind_in, with_next}
use Rattle.policy_lists.specs.Inner.Places.{next_upto}
use Rattle.policy_facts.specs.Inner.FactTable.{kind_in, table_record}

-- how many of the first m keys have the kind k
abbrev pub keys_of_kind : List ℕ → ℕ → ℕ → ℕ
keys_of_kind keys m k = length (of_kind_in k (records_upto (λ i. table_record (get_or keys (i - 1) 0) 0) m))

-- the table t has it for each kind
abbrev pub KeyCounts : List ℕ → ℕ → List ℕ → Type 0
KeyCounts keys m t = (k : ℕ) → 1 ≤ k → k ≤ 9 → get_or t k 0 ≡ keys_of_kind keys m k

-- the kinds of the first m keys are those of facts
abbrev pub FactKinds : List ℕ → ℕ → Type 0
FactKinds keys m = (i : ℕ) → i < m → Within 1 7 (kind_in (get_or keys i 0))

-- row i, linked to the next of its kind: the table `ends` has for each kind the number of its last record
abbrev pub fact_row : List ℕ → List ℕ → List ℕ → ℕ → Record
fact_row keys masks ends i =
    with_next (next_upto (get_or ends (kind_in (get_or keys (i - 1) 0)) 0) i) (table_record (get_or keys (i - 1) 0) (get_or masks (i - 1) 0))

-- the bytes of the first m rows, one behind the other
abbrev pub row_bytes : (ℕ → Record) → ℕ → List ℕ
row_bytes row m = list_upto (λ i. record_bytes (row i)) m

-- the first m rows can be written into so many bytes
pub record RowsFit (keys masks ends : List ℕ) (m output : ℕ) : Type 0 where
  pub few : m ≤ most_records
  pub keyed : m ≤ length keys
  pub masked : m ≤ length masks
  pub kinds : FactKinds keys m
  pub room : image_size m ≤ output
  pub writable : (i : ℕ) → 1 ≤ i → i ≤ m → WritableRecord (fact_row keys masks ends i)
