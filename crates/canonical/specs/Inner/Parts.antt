-- What the parts of the canonical image hand on to each other.
use Rattle.std.specs.Prelude.{ℕ, ◌≤◌, ◌≡◌, cond, List, leb, length, get_or}
use Rattle.base.specs.Inner.AllBytes.{AllBytes}
use Rattle.policy_image.specs.declared.counts.Counts.{Counts}
use Rattle.policy_image.specs.Layout.{record_count, counts_of}
use Rattle.policy_image.specs.Policy.{policy_of}
use Rattle.policy_image.specs.Inner.Sizes.{image_size, most_records}
use Rattle.policy_check.specs.Inner.Sound.{Sound}
use Rattle.policy_facts.specs.Canonical.{canonical_of}
use Rattle.policy_facts.specs.Inner.FactTable.{FactTable}

-- the table r has the entries of t for kinds 8 and 9, whose records stay, and 0 for the others
abbrev pub KeptKinds : List ℕ → List ℕ → Type 0
KeptKinds t r = (k : ℕ) → k ≤ 9 → get_or r k 0 ≡ cond (leb k 7) 0 (get_or t k 0)

-- the canonical image of s can be written into so many bytes: the first m keys and masks are its table of facts, and c are its counts
pub record Canonizable (s : List ℕ) (c : Counts) (keys masks : List ℕ) (m output : ℕ) : Type 0 where
  pub sound : Sound s
  pub bytes : AllBytes s
  pub counts : c ≡ counts_of s
  pub size : c.records ≡ record_count s
  pub table : FactTable (policy_of s) keys masks m
  pub keyed : m ≤ length keys
  pub masked : m ≤ length masks
  pub few : (canonical_of (policy_of s)).size ≤ most_records
  pub room : image_size (canonical_of (policy_of s)).size ≤ output
