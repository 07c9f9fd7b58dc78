-- The numbers that stand for contexts and events in a path slice (paper 01): "entry 2j is xj as 256t + 16r + u, entry 2j + 1
-- is ej as 32c + p".
use Rattle.std.specs.Prelude.{ℕ, ◌/◌, ◌%◌, Bool, ◌&&◌, eqb}
use Rattle.context.specs.declared.Context.{Context}
use Rattle.context.specs.declared.Event.{Event}

-- "A context is (type, role, user)."
abbrev pub context_at : ℕ → ℕ → ℕ → Context
context_at t r u = record { ty = t; role = r; user = u }

-- an event is a class and a permission of it
abbrev pub event_at : ℕ → ℕ → Event
event_at c p = record { class = c; perm = p }

-- the context with the code 256t + 16r + u: the laws `context_of_code` and `context_code_of` of proofs/CodeLaws.antt say that each
-- undoes the other
abbrev pub context_of : ℕ → Context
context_of n = context_at (n / 256) (n / 16 % 16) (n % 16)

-- the event with the code 32c + p: the laws `event_of_code` and `event_code_of` of proofs/CodeLaws.antt say that each undoes the
-- other
abbrev pub event_of : ℕ → Event
event_of n = event_at (n / 32) (n % 32)

-- "Event class 1, permission 0, is process transition."
abbrev pub is_transition : Event → Bool
is_transition e = eqb e.class 1 && eqb e.perm 0
