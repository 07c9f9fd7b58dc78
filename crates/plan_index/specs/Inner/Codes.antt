-- The numbers of the index: the twins of the constants of src/codes.rt, the key of a class and a type, and the code of an item.
use Rattle.std.specs.Prelude.{ℕ, ◌+◌, ◌*◌}
-- how many items there are at most: two for each record, and as many as are sorted
pub use Rattle.sorting.specs.Inner.Order.{items}

-- a key is a class and a type: type_codes times the first and the second
abbrev pub type_codes : ℕ
type_codes = 4096

-- the code of an item is the type in whose block it goes and a key: key_codes times the first and the second
abbrev pub key_codes : ℕ
key_codes = 131072

-- the numbers of records lie below it: one more than the most records of a policy
abbrev pub record_numbers : ℕ
record_numbers = 4096

-- how many words a set of them has
abbrev pub record_words : ℕ
record_words = 128

abbrev pub key_code : ℕ → ℕ → ℕ
key_code class ty = type_codes * class + ty

abbrev pub item_code : ℕ → ℕ → ℕ
item_code own key = key_codes * own + key
