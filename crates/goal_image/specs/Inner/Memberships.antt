-- The sets of a goal that a context or an event is in, the chains that a record is on, and the permissions of a class that a set has, as the
-- bits of a number.
use Rattle.std.specs.Prelude.{ℕ, Bool, ◌&&◌, ◌≡◌, ◌≤◌, eqb}
use Rattle.base.specs.Bits.{bit}
use Rattle.context.specs.declared.Context.{Context}
use Rattle.context.specs.declared.Event.{Event}
use Rattle.context.specs.Codes.{event_at}
use Rattle.goal_image.specs.Goal.{Goal, goal_links, is_context_chain, is_event_chain}
use Rattle.goal_image.specs.Sets.{along, context_in, event_in}

-- whether some record on chain h passes the test
abbrev pub some_on : Goal → (ℕ → Bool) → ℕ → Bool
some_on g t h = along (goal_links g) t g.size (g.head h)

-- whether record k is on chain h
unfoldable pub on_chain : Goal → ℕ → ℕ → Bool
on_chain g k = some_on g (λ i. eqb i k)

-- a closure, by its predicates: it may be asked of each record, and what it says of them are the answers of the test t
abbrev pub TakesRecords : Goal → (ℕ → Type 0) → Type 0
TakesRecords g may = (i : ℕ) → 1 ≤ i → i ≤ g.size → may i

abbrev pub Tests : Goal → (ℕ → Bool → Type 0) → (ℕ → Bool) → Type 0
Tests g says t = (i : ℕ) → 1 ≤ i → i ≤ g.size → (b : Bool) → says i b → b ≡ t i

-- r says whether h is a σ chain and some record on it passes the test that the closure computes
abbrev pub PassesOn : Goal → (ℕ → Bool → Type 0) → ℕ → Bool → Type 0
PassesOn g says h r = (t : ℕ → Bool) → Tests g says t → r ≡ (is_context_chain h && some_on g t h)

-- "σ0 to σn", "σe": bit h of m says whether h is a σ chain and the context is in its set
pub record ContextSets (g : Goal) (x : Context) (m : ℕ) : Type 0 where
  pub at : (h : ℕ) → bit m h ≡ (is_context_chain h && context_in g h x)

-- bit h of m says whether h is a σ chain and record k is on it
pub record RecordSets (g : Goal) (k m : ℕ) : Type 0 where
  pub at : (h : ℕ) → bit m h ≡ (is_context_chain h && on_chain g k h)

-- "γ0 to γ(n−1)", "γe": bit h of m says whether h is a γ chain and the event is in its set
pub record EventSets (g : Goal) (e : Event) (m : ℕ) : Type 0 where
  pub at : (h : ℕ) → bit m h ≡ (is_event_chain h && event_in g h e)

-- bit q of m says whether h is a γ chain and the permission q of class c is in its set
pub record ChainMask (g : Goal) (h c m : ℕ) : Type 0 where
  pub at : (q : ℕ) → bit m q ≡ (is_event_chain h && event_in g h (event_at c q))
