-- The index: for each type a block of entries. An entry is a key, the code of a class and the other type, and two masks: the
-- permissions with which the type may act on the other, and those with which the other may act on it.
use Rattle.std.specs.Prelude.{◌≡◌, List, ℕ, ◌/◌, ◌%◌, ◌≤◌, ◌<◌, get_or}
use Rattle.base.specs.Ranges.{Within}
-- what is said of entries in general
pub use Rattle.sorting.specs.Inner.Entries.{Bears, RisingKeys}
use Rattle.plan_index.specs.Inner.Codes.{type_codes, key_code}

-- an entry of the block lo .. hi has the key k
pub record Has (keys : List ℕ) (lo hi k : ℕ) : Type 0 where
  pub place : ℕ
  pub low : lo ≤ place
  pub high : place < hi
  pub key : get_or keys place 0 ≡ k

-- the key k names a class, and one of the types
pub record Ranged (types k : ℕ) : Type 0 where
  pub class : Within 1 31 (k / type_codes)
  pub other : Within 1 types (k % type_codes)

-- the masks of a block say for class c, other type o and permission q just what R says
pub record MasksShow (R : ℕ → ℕ → ℕ → Type 0) (keys masks : List ℕ) (lo hi : ℕ) : Type 0 where
  pub sound : (k q : ℕ) → q < 32 → Bears keys masks lo hi k q → R (k / type_codes) (k % type_codes) q
  pub whole : (c o q : ℕ) → c < 32 → o < type_codes → q < 32 → R c o q → Bears keys masks lo hi (key_code c o) q
