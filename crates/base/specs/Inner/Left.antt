-- How much of a chain is left.
use Rattle.std.specs.Prelude.{ℕ, zero, suc, ◌-◌}

-- how many numbers there are from i to n, where 0 is a chain's end: from record i on, no more records are left of n
abbrev pub left : ℕ → ℕ → ℕ
left n zero = 0
left n (suc i) = n - i
