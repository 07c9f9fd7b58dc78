-- A set of small numbers as the bits of a number.
use Rattle.std.specs.Prelude.{Bool, true, false, ℕ, zero, suc, ◌+◌, ◌*◌}

abbrev pub digit : Bool → ℕ
digit true = 1
digit false = 0

-- the number whose bit i is f i, for the i below k, and 0 from k on
abbrev pub pack : ℕ → (ℕ → Bool) → ℕ
pack zero f = 0
pack (suc k) f = digit (f 0) + 2 * pack k (λ i. f (suc i))
