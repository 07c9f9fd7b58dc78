-- The stages that are still possible after a step: "Several choices of the pi may be open together: the stages still possible
-- are a set, held in 32 bits, bit i for leg i. Bits above n count for nothing on entry to a step and are 0 after it." (paper 01)
-- Stage i: legs 0 to i − 1 are done, and leg i is under way. Stage n: all legs are done; no leg goes on from it (decision D37).
-- Bit i of repeated: leg i is repeated; of event: the event is in γi; of context: the step's new context is in σi.
use Rattle.std.specs.Prelude.{◌≡◌, Bool, false, ◌&&◌, ◌||◌, ℕ, zero, suc, ltb}
use Rattle.base.specs.Bits.{bit}

-- leg i is under way, and the event is one of its own: "all events from pi up to before p(i+1) in γi"
unfoldable pub goes_on : (stages event n i : ℕ) → Bool
goes_on stages event n i = ltb i n && (bit stages i && bit event i)

-- stage i is entered: the event ends leg i − 1, and the new context is in σi: "with x(pi) in σi"
unfoldable pub entered : (stages event context n i : ℕ) → Bool
entered stages event context n zero = false
entered stages event context n (suc i) = goes_on stages event n i && bit context (suc i)

-- stage i is possible after the step: leg i goes on, which a one-step leg does not, or stage i is entered
unfoldable pub stage_after : (stages repeated event context n i : ℕ) → Bool
stage_after stages repeated event context n i = (goes_on stages event n i && bit repeated i) || entered stages event context n i

-- r is the set of the stages after the step: each bit of it, also those above n
pub record Advanced (stages repeated event context n r : ℕ) : Type 0 where
  pub at : (i : ℕ) → bit r i ≡ stage_after stages repeated event context n i
