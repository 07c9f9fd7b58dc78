-- What the parts of the join hand on to each other.
use Rattle.std.specs.Prelude.{ℕ, ◌+◌, ◌≤◌, ◌≡◌, List}
use Rattle.base.specs.Inner.AllBytes.{AllBytes}
use Rattle.policy_image.specs.declared.counts.Counts.{Counts}
use Rattle.policy_image.specs.Layout.{record_count, counts_of}
use Rattle.policy_image.specs.Inner.Sizes.{image_size, most_records}
use Rattle.policy_check.specs.Inner.Sound.{Sound}

-- the images s and t can be joined into so many bytes, and the counts are theirs
pub record Joinable (s t : List ℕ) (c d : Counts) (output : ℕ) : Type 0 where
  pub maker : Sound s
  pub board : Sound t
  pub maker_bytes : AllBytes s
  pub board_bytes : AllBytes t
  pub makers : c ≡ counts_of s
  pub boards : d ≡ counts_of t
  pub makers_size : c.records ≡ record_count s
  pub boards_size : d.records ≡ record_count t
  pub few : record_count s + record_count t ≤ most_records
  pub room : image_size (record_count s + record_count t) ≤ output
