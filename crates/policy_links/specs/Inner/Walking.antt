-- What the iterator over the records of a kind gives.
use Rattle.std.specs.Prelude.{ℕ, ◌≡◌, ◌≤◌, Option, None, Some}
use Rattle.std.specs.Iterator.{Count, at_most}
use Rattle.base.specs.Inner.Left.{left}
use Rattle.policy_image.specs.declared.records.Record.{Record}
use Rattle.policy_image.specs.Layout.{record_count}
use Rattle.policy_image.specs.Inner.Reading.{Reads}
use Rattle.policy_links.specs.declared.records.Records.{Records}
use Rattle.policy_links.specs.declared.records.Numbered.{Numbered}

-- r is the record where the iterator s stood, and t stands at its next
pub record GivesNext (s : Records) (r : Record) (t : Records) : Type 0 where
  pub low : 1 ≤ s.next
  pub read : Reads s.image.now s.next r
  pub next : t.next ≡ r.next
  pub image : t.image.now ≡ s.image.now

-- a call of next at s gave a record and left t, or gave none at the chain's end
abbrev pub GivesRecord : Records → Option Record → Records → Type 0
GivesRecord s None t = s.next ≡ 0
GivesRecord s (Some r) t = GivesNext s r t

-- the same where a record is given with its number
abbrev pub GivesNumbered : Numbered → Option (ℕ × Record) → Numbered → Type 0
GivesNumbered s None t = s.records.next ≡ 0
GivesNumbered s (Some x) t = (x.0 ≡ s.records.next) × GivesNext s.records x.1 t.records

-- how many records are left at most
abbrev pub records_left : Records → Count
records_left s = at_most (left (record_count s.image.now) s.next)
