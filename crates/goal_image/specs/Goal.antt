-- A goal, decoded. All that is said of a goal is said of this, and not of bytes.
use Rattle.std.specs.Prelude.{ℕ, ◌+◌, Bool, ◌&&◌, ◌||◌, List, leb, ltb, eqb}
use Rattle.base.specs.Chain.{Linked}
use Rattle.goal_image.specs.declared.records.ContextRecord.{ContextRecord}
use Rattle.goal_image.specs.declared.records.EventRecord.{EventRecord}
use Rattle.goal_image.specs.Layout.{legs_of, flags_of, goal_count, goal_head, next_of, context_record_of, event_record_of}

-- n legs, the flag byte, M records, the fifteen heads, each record's next, and each record read as one of a σ or of a γ chain
pub record Goal : Type 0 where
  pub legs : ℕ
  pub flags : ℕ
  pub size : ℕ
  pub head : ℕ → ℕ
  pub next : ℕ → ℕ
  pub context : ℕ → ContextRecord
  pub event : ℕ → EventRecord

-- the goal that the bytes of an image state
abbrev pub goal_of : List ℕ → Goal
goal_of g =
    record {
      legs = legs_of g;
      flags = flags_of g;
      size = goal_count g;
      head = goal_head g;
      next = next_of g;
      context = context_record_of g;
      event = event_record_of g;
    }

abbrev pub goal_links : Goal → Linked
goal_links g = record { size = g.size; head = g.head; next = g.next }

-- the number of the head of σi, γi, σe and γe
abbrev pub σChain : ℕ → ℕ
σChain i = i

abbrev pub γChain : ℕ → ℕ
γChain i = 7 + i

abbrev pub σeChain : ℕ
σeChain = 13

abbrev pub γeChain : ℕ
γeChain = 14

-- whether h is the number of a σ chain (σ0 to σ6, σe), or of a γ chain (γ0 to γ5, γe)
abbrev pub is_context_chain : ℕ → Bool
is_context_chain h = ltb h 7 || eqb h σeChain

abbrev pub is_event_chain : ℕ → Bool
is_event_chain h = (leb 7 h && ltb h 13) || eqb h γeChain
