-- Items with the same code become one entry.
use Rattle.std.specs.Prelude.{List, ℕ, ◌≤◌, length}
use Rattle.sorting.specs.Inner.Entries.{EntryKeys, Unites}
use Rattle.plan_index.specs.Inner.Codes.{items}

-- room for an entry for each item
pub record EntryRoom (keys ws rs : List ℕ) : Type 0 where
  pub keys_size : items ≤ length keys
  pub writes_size : items ≤ length ws
  pub reads_size : items ≤ length rs

-- the m entries have the codes of the first n items, and two masks: what the items give to one side, and what they give to the other
pub record UnitedItems (code write read : ℕ → ℕ) (n : ℕ) (keys ws rs : List ℕ) (m : ℕ) : Type 0 where
  pub entries : EntryKeys code n keys m
  pub writes : Unites code write n keys ws m
  pub reads : Unites code read n keys rs m
