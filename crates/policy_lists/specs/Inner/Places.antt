-- Numbers of records that stand one behind the other.
use Rattle.std.specs.Prelude.{ℕ, suc, cond, leb}

-- the number behind i, where it is at most the last, else 0: the next of record i of a run, and the head of a run behind record i
abbrev pub next_upto : ℕ → ℕ → ℕ
next_upto last i = cond (leb (suc i) last) (suc i) 0
