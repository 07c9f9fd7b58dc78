-- What is made of masks, bit by bit.
use Rattle.std.specs.Prelude.{ℕ, ◌≤◌, ◌<◌, ◌≡◌, true, not, ◌&&◌, ◌||◌, eqb, Option, Some, None}
use Rattle.base.specs.Bits.{bit}

-- r is the least bit of m
pub record Lowest (m r : ℕ) : Type 0 where
  pub small : r < 32
  pub has : bit m r ≡ true
  pub before : (q : ℕ) → q < r → bit m q ≡ true → ⊥

-- r has the bits of m, and bit p
pub record With (m p r : ℕ) : Type 0 where
  pub at : (q : ℕ) → bit r q ≡ (bit m q || eqb p q)

-- r has the bits of a that are not in b
pub record Without (a b r : ℕ) : Type 0 where
  pub at : (q : ℕ) → bit r q ≡ (bit a q && not (bit b q))
  pub most : r ≤ a

-- p is the least bit of m, and r has the others
pub record Taken (m p r : ℕ) : Type 0 where
  pub least : Lowest m p
  pub at : (q : ℕ) → bit r q ≡ (bit m q && not (eqb p q))

-- what is left of the bits m once the least was given, if there was one
abbrev pub NextBit : ℕ → Option ℕ → ℕ → Type 0
NextBit m None r = (m ≡ 0) × (r ≡ 0)
NextBit m (Some p) r = Taken m p r
