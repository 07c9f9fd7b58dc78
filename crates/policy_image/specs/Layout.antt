-- Where the fields of a policy image stand (paper 01, "The policy image"). Only this file speaks of byte offsets.
use Rattle.std.specs.Prelude.{ℕ, ◌+◌, ◌*◌, ◌-◌, ◌/◌, ◌%◌, ◌≤◌, ◌≡◌, Bool, ◌&&◌, cond, List, [], leb, length, take, drop}
use Rattle.base.specs.Bytes.{byte_at, u16_at, u32_at}
use Rattle.policy_image.specs.declared.counts.Counts.{Counts}
use Rattle.policy_image.specs.declared.records.Record.{Record}

-- "Bytes 4–5: N records (0 to 4,095)"
unfoldable pub record_count : List ℕ → ℕ
record_count s = u16_at s 4

-- "Bytes 0 to 3: T types, R roles, U users, C classes"
unfoldable pub counts_of : List ℕ → Counts
counts_of s =
    record {
      types = byte_at s 0;
      roles = byte_at s 1;
      users = byte_at s 2;
      classes = byte_at s 3;
      records = record_count s;
    }

-- "Bytes 6–23: nine chain heads of two bytes, for kinds 1 to 9"
unfoldable pub policy_head : List ℕ → ℕ → ℕ
policy_head s k = u16_at s (4 + 2 * k)

-- Question 1: "Is it at least 24 bytes, N at most 4,095, the length exact?"
-- "The image is 24 + 12 × N bytes long."
pub record PolicyExact (s : List ℕ) : Type 0 where
  pub whole : 24 ≤ length s
  pub few : record_count s ≤ 4095
  pub exact : length s ≡ 24 + 12 * record_count s

-- "Records are numbered 1 to N; record k starts at 24 + 12 × (k − 1)."
abbrev pub record_start : ℕ → ℕ
record_start k = 24 + 12 * (k - 1)

-- whether the twelve bytes of record k are there
abbrev pub has_record : List ℕ → ℕ → Bool
has_record s k = leb 1 k && (leb k 4095 && leb (record_start k + 12) (length s))

-- "The rest of a record after its link is handed out as part of the image itself": ten bytes, none where there is no such record
unfoldable pub payload_of : List ℕ → ℕ → List ℕ
payload_of s k = cond (has_record s k) (take 10 (drop (record_start k + 2) s)) []

-- "A record: bytes 0–1 next, 2 kind, 3 a, 4 b, 5 c, 6 d, 7 e, 8–11 mask": from its link n and the rest p, which starts at byte 2
unfoldable pub decoded : ℕ → List ℕ → Record
decoded n p =
    record {
      next = n;
      kind = byte_at p 0;
      a = byte_at p 1;
      b = byte_at p 2;
      c = byte_at p 3;
      d = byte_at p 4;
      e = byte_at p 5;
      mask = u32_at p 6;
    }

-- record k
unfoldable pub record_of : List ℕ → ℕ → Record
record_of s k = decoded (u16_at s (record_start k)) (payload_of s k)

-- "d (low) and e together are the number of its root node"
abbrev pub root_of : Record → ℕ
root_of r = r.d + 256 * r.e

-- "Bytes 8–9 are left, 10–11 right": the low and the high half of the mask's four bytes
abbrev pub left_of : Record → ℕ
left_of r = r.mask % 65536

abbrev pub right_of : Record → ℕ
right_of r = r.mask / 65536
