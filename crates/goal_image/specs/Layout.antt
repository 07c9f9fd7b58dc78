-- Where the fields of a goal image stand (paper 01, "The goal image"). Only this file speaks of byte offsets.
use Rattle.std.specs.Prelude.{ℕ, ◌+◌, ◌*◌, ◌-◌, ◌≤◌, ◌≡◌, List, length}
use Rattle.base.specs.Bytes.{byte_at, u16_at, u32_at}
use Rattle.goal_image.specs.declared.records.ContextRecord.{ContextRecord}
use Rattle.goal_image.specs.declared.records.EventRecord.{EventRecord}

-- "Byte 0: n legs (1 to 6)."
unfoldable pub legs_of : List ℕ → ℕ
legs_of g = byte_at g 0

-- "Byte 1: bit i set when leg i is repeated"
unfoldable pub flags_of : List ℕ → ℕ
flags_of g = byte_at g 1

-- "Bytes 2–3: M records (0 to 255)."
unfoldable pub goal_count : List ℕ → ℕ
goal_count g = u16_at g 2

-- "Bytes 4–33: fifteen heads: σ0 to σ6, γ0 to γ5, σe, γe.", numbered from 0
unfoldable pub goal_head : List ℕ → ℕ → ℕ
goal_head g h = u16_at g (4 + 2 * h)

-- Question 7: "Is it at least 34 bytes, M at most 255, the length exact?"
-- "M records of 8 bytes follow, numbered 1 to M."
pub record GoalExact (g : List ℕ) : Type 0 where
  pub whole : 34 ≤ length g
  pub few : goal_count g ≤ 255
  pub exact : length g ≡ 34 + 8 * goal_count g

abbrev pub goal_record_start : ℕ → ℕ
goal_record_start k = 34 + 8 * (k - 1)

-- "bytes 0–1 next", on every chain
unfoldable pub next_of : List ℕ → ℕ → ℕ
next_of g k = u16_at g (goal_record_start k)

-- "On a σ chain: bytes 0–1 next, 2 type, 3 role, 4 user, 5–7 zero"; spare is what bytes 5 to 7 hold, low byte first
unfoldable pub context_record_of : List ℕ → ℕ → ContextRecord
context_record_of g k =
    record {
      ty = byte_at g (goal_record_start k + 2);
      role = byte_at g (goal_record_start k + 3);
      user = byte_at g (goal_record_start k + 4);
      spare = byte_at g (goal_record_start k + 5) + 256 * u16_at g (goal_record_start k + 6);
    }

-- "On a γ chain: 0–1 next, 2 class (0 any), 3 zero, 4–7 mask."
unfoldable pub event_record_of : List ℕ → ℕ → EventRecord
event_record_of g k =
    record { class = byte_at g (goal_record_start k + 2); spare = byte_at g (goal_record_start k + 3); mask = u32_at g (goal_record_start k + 4) }
