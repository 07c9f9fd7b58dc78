-- The sets of a goal: "A set is the union of its chain; an empty chain is the empty set." (paper 01)
use Rattle.std.specs.Prelude.{ℕ, zero, suc, Bool, false, ◌&&◌, ◌||◌, eqb}
use Rattle.base.specs.Bits.{bit}
use Rattle.base.specs.Chain.{Linked}
use Rattle.context.specs.declared.Context.{Context}
use Rattle.context.specs.declared.Event.{Event}
use Rattle.goal_image.specs.declared.records.ContextRecord.{ContextRecord}
use Rattle.goal_image.specs.declared.records.EventRecord.{EventRecord}
use Rattle.goal_image.specs.Goal.{Goal, goal_links}

-- "0 in a field means any"
abbrev pub fits : ℕ → ℕ → Bool
fits field value = eqb field 0 || eqb field value

-- whether a record of a σ chain matches a context, and one of a γ chain an event
abbrev pub matches_context : ContextRecord → Context → Bool
matches_context r x = fits r.ty x.ty && (fits r.role x.role && fits r.user x.user)

abbrev pub matches_event : EventRecord → Event → Bool
matches_event r e = fits r.class e.class && bit r.mask e.perm

-- whether some record passes the test, following the links from record k on, by at most so many steps. A chain of an accepted
-- goal has at most M records: the law `chain_iff` of proofs/SetLaws.antt says that the steps are enough
abbrev pub along : Linked → (ℕ → Bool) → ℕ → ℕ → Bool
along l f zero k = false
along l f (suc steps) zero = false
along l f (suc steps) (suc k) = f (suc k) || along l f steps (l.next (suc k))

-- whether a context, or an event, is in the set of chain h
unfoldable pub context_in : Goal → ℕ → Context → Bool
context_in g h x = along (goal_links g) (λ i. matches_context (g.context i) x) g.size (g.head h)

unfoldable pub event_in : Goal → ℕ → Event → Bool
event_in g h e = along (goal_links g) (λ i. matches_event (g.event i) e) g.size (g.head h)
