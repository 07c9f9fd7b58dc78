-- The codes of contexts and events (paper 01): "xj as 256t + 16r + u", "ej as 32c + p".
use Rattle.std.specs.Prelude.{ℕ, ◌+◌, ◌*◌, ◌<◌}
use Rattle.context.specs.declared.Context.{Context}
use Rattle.context.specs.declared.Event.{Event}
use Rattle.context.specs.Codes.{event_at}

abbrev pub context_code : Context → ℕ
context_code x = 256 * x.ty + 16 * x.role + x.user

abbrev pub event_code : Event → ℕ
event_code e = 32 * e.class + e.perm

-- process transition, and its code
abbrev pub transition : Event
transition = event_at 1 0

abbrev pub transition_code : ℕ
transition_code = event_code transition

-- an event that its code stands for; every event in range is one
pub record Coded (e : Event) : Type 0 where
  pub class : e.class < 65536
  pub perm : e.perm < 32
