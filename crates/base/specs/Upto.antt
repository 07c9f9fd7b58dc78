-- Tests of the numbers from 1 to n.
use Rattle.std.specs.Prelude.{ℕ, zero, suc, Bool, true, false, ◌&&◌, ◌||◌}

-- whether f holds of some number from 1 to n
abbrev pub any_upto : (ℕ → Bool) → ℕ → Bool
any_upto f zero = false
any_upto f (suc n) = any_upto f n || f (suc n)

-- whether f holds of every number from 1 to n
abbrev pub all_upto : (ℕ → Bool) → ℕ → Bool
all_upto f zero = true
all_upto f (suc n) = all_upto f n && f (suc n)
