-- Which allow records count, as a set of record numbers.
use Rattle.std.specs.Prelude.{ℕ, ◌/◌, ◌%◌, Bool, not, ◌||◌, List, ltb, get_or}
use Rattle.base.specs.Bits.{bit}
use Rattle.plan_index.specs.Inner.Codes.{record_numbers}

-- the predicate that a set of record numbers is, 32 numbers to a word; what is no record's number is in every set
abbrev pub is_counted : List ℕ → ℕ → Bool
is_counted words k = not (ltb k record_numbers) || bit (get_or words (k / 32) 0) (k % 32)

-- a word with every bit: the set of such words has every number
abbrev pub all_bits : ℕ
all_bits = 4294967295
