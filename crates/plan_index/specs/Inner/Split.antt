-- Entries in the order of their codes, split into the blocks of the types.
use Rattle.std.specs.Prelude.{◌≡◌, List, ℕ, ◌+◌, ◌/◌, ◌%◌, ◌≤◌, ◌<◌, length, get_or}
use Rattle.base.specs.Ranges.{Within}
use Rattle.plan_tables.specs.Inner.Tables.{type_entries}
use Rattle.plan_index.specs.Inner.Codes.{key_codes, items}
use Rattle.plan_index.specs.Inner.Index.{RisingKeys}

-- the type in whose block entry j is, by its whole code
abbrev pub own_of : List ℕ → ℕ → ℕ
own_of codes j = get_or codes j 0 / key_codes

-- there is a place for the start of each block, and for the end of the last; the codes rise, and name types
pub record Splittable (types m : ℕ) (first codes : List ℕ) : Type 0 where
  pub starts : types + 1 < length first
  pub few_types : types < type_entries
  pub few : m ≤ length codes
  pub small : m ≤ items
  pub sorted : RisingKeys codes 0 m
  pub own : (j : ℕ) → j < m → Within 1 types (own_of codes j)

-- the entries of the types from t on start at f
pub record Starts (codes : List ℕ) (m t f : ℕ) : Type 0 where
  pub few : f ≤ m
  pub below : (j : ℕ) → j < f → own_of codes j < t
  pub above : (j : ℕ) → f ≤ j → j < m → t ≤ own_of codes j

-- the block of type t starts at first t, and an entry's key is its code without the type
pub record Split (types m : ℕ) (codes first keys : List ℕ) : Type 0 where
  pub starts : (t : ℕ) → Within 1 (types + 1) t → Starts codes m t (get_or first t 0)
  pub key : (j : ℕ) → j < m → get_or keys j 0 ≡ get_or codes j 0 % key_codes
