-- A policy, decoded. All that is said of a policy is said of this, and not of bytes.
use Rattle.std.specs.Prelude.{ℕ, Bool, true, List}
use Rattle.base.specs.Chain.{Linked}
use Rattle.policy_image.specs.declared.counts.Counts.{Counts}
use Rattle.policy_image.specs.declared.records.Record.{Record}
use Rattle.policy_image.specs.Layout.{record_count, counts_of, policy_head, record_of}

-- its counts, its number of records N, the heads of the chains of kinds 1 to 9, records 1 to N, and which of its allow records count
pub record Policy : Type 0 where
  pub counts : Counts
  pub size : ℕ
  pub head : ℕ → ℕ
  pub rec : ℕ → Record
  pub counted : ℕ → Bool

-- the policy that the bytes of an image state: all its allow records count
abbrev pub policy_of : List ℕ → Policy
policy_of s = record { counts = counts_of s; size = record_count s; head = policy_head s; rec = record_of s; counted = λ i. true }

-- its records as chains
abbrev pub policy_links : Policy → Linked
policy_links p = record { size = p.size; head = p.head; next = λ i. (p.rec i).next }
