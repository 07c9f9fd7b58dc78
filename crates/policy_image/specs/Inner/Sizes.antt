-- How long the parts of an image are, and where its records start. These are shut: the crates that write images go by their laws
-- (`proofs/SizeLaws.antt`) and not by their numbers, which stand in the layout.
use Rattle.std.specs.Prelude.{ℕ, ◌+◌, ◌*◌}
use Rattle.policy_image.specs.Layout.{record_start}

-- the bytes of the header, and those of a record
unfoldable pub header_size : ℕ
header_size = 24

unfoldable pub stride : ℕ
stride = 12

-- the bytes of n records, one behind the other
unfoldable pub size_of : ℕ → ℕ
size_of n = 12 * n

-- where record k starts
unfoldable pub start_of : ℕ → ℕ
start_of k = record_start k

-- the bytes of an image of n records
abbrev pub image_size : ℕ → ℕ
image_size n = header_size + size_of n

-- the most records that an image has
abbrev pub most_records : ℕ
most_records = 4095
