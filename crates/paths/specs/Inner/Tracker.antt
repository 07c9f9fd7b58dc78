-- What a path has seen, as far as order asks: bit 0 says that order is broken, and bit i, 0 < i < n, that some context so far is
-- in σi. There are no other bits (decision D38). Bit i of context: the next context is in σi. Before x0 the state is 0.
use Rattle.std.specs.Prelude.{◌≡◌, Bool, not, ◌&&◌, ◌||◌, ℕ, zero, suc, ltb}
use Rattle.base.specs.Bits.{bit}
use Rattle.paths.specs.Inner.Below.{any_below}

-- the next context is one too early: "for some i, 0 < i < n," it is "in σ(i+1)" and there is "no xl in σi" before it
unfoldable pub too_early : (state context n : ℕ) → Bool
too_early state context n = any_below n (λ i. ltb 0 i && (bit context (suc i) && not (bit state i)))

unfoldable pub track_after : (state context n i : ℕ) → Bool
track_after state context n zero = bit state 0 || too_early state context n
track_after state context n (suc i) = ltb (suc i) n && (bit state (suc i) || bit context (suc i))

-- r is the state after the next context: each bit of it, also those from n on
pub record Tracked (state context n r : ℕ) : Type 0 where
  pub at : (i : ℕ) → bit r i ≡ track_after state context n i
