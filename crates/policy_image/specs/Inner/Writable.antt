-- Which policies can be written, so that reading gives them back.
use Rattle.std.specs.Prelude.{ℕ, ◌+◌, ◌*◌, ◌≤◌, ◌<◌, ◌^◌, ◌≡◌}
use Rattle.base.specs.Ranges.{Within}
use Rattle.policy_image.specs.declared.counts.Counts.{Counts}
use Rattle.policy_image.specs.declared.records.Record.{Record}
use Rattle.policy_image.specs.Policy.{Policy}
use Rattle.policy_image.specs.Inner.Reading.{Bytes}
use Rattle.policy_image.specs.Inner.Sizes.{most_records}

-- where the head of kind k stands
abbrev pub head_start : ℕ → ℕ
head_start k = 4 + 2 * k

-- a record whose every field fits its bytes
pub record WritableRecord (r : Record) : Type 0 where
  pub next : r.next < 65536
  pub bytes : Bytes r
  pub mask : r.mask < 2 ^ 32

-- counts that fit theirs
pub record WritableCounts (c : Counts) : Type 0 where
  pub types : c.types < 256
  pub roles : c.roles < 256
  pub users : c.users < 256
  pub classes : c.classes < 256
  pub records : c.records ≤ most_records

-- heads that fit theirs
abbrev pub WritableHeads : (ℕ → ℕ) → Type 0
WritableHeads head = (k : ℕ) → Within 1 9 k → head k < 65536

-- a policy that can be written: everything fits, and the header's N is the number of records
pub record Writable (p : Policy) : Type 0 where
  pub counts : WritableCounts p.counts
  pub size : p.counts.records ≡ p.size
  pub heads : WritableHeads p.head
  pub fields : (k : ℕ) → Within 1 p.size k → WritableRecord (p.rec k)
