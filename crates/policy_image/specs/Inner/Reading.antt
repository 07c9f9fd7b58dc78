-- What the functions that read an image hand on to their callers.
use Rattle.std.specs.Prelude.{ℕ, ◌<◌, ◌≡◌, List}
use Rattle.policy_image.specs.declared.counts.Counts.{Counts}
use Rattle.policy_image.specs.declared.records.Record.{Record}
use Rattle.policy_image.specs.Layout.{PolicyExact, record_count, counts_of, record_of}

-- the fields of a record that are single bytes
pub record Bytes (r : Record) : Type 0 where
  pub kind : r.kind < 256
  pub a : r.a < 256
  pub b : r.b < 256
  pub c : r.c < 256
  pub d : r.d < 256
  pub e : r.e < 256

-- r is record k of the image, as read
pub record Reads (s : List ℕ) (k : ℕ) (r : Record) : Type 0 where
  pub same : r ≡ record_of s k
  pub bytes : Bytes r

-- c are the counts of an image whose length is exact
pub record Counted (s : List ℕ) (c : Counts) : Type 0 where
  pub exact : PolicyExact s
  pub same : c ≡ counts_of s
  pub size : c.records ≡ record_count s
