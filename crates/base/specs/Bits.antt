-- Bits of a number: "Mask bit p (0 to 31) stands for permission p" (paper 01).
use Rattle.std.specs.Prelude.{ℕ, ◌/◌, ◌%◌, ◌^◌, Bool, eqb}

-- whether bit p of m is set
unfoldable pub bit : ℕ → ℕ → Bool
bit m p = eqb (m / 2 ^ p % 2) 1
