-- Tables by kinds: what is added up in them, and the heads that follow.
use Rattle.std.specs.Prelude.{ℕ, zero, suc, ◌+◌, ◌-◌, ◌≤◌, ◌≡◌, List, get_or}
use Rattle.policy_image.specs.Inner.Sizes.{most_records}
use Rattle.policy_lists.specs.Inner.Places.{next_upto}

-- f 1 to f n, added up
abbrev pub sum_upto : (ℕ → ℕ) → ℕ → ℕ
sum_upto f zero = 0
sum_upto f (suc n) = sum_upto f n + f (suc n)

-- the table t has the sums up to n
abbrev pub Summed : (ℕ → ℕ) → List ℕ → ℕ → Type 0
Summed f t n = (k : ℕ) → k ≤ n → get_or t k 0 ≡ sum_upto f k

-- the entries of two tables by kinds are numbers of records
pub record FewOfEach (a b : List ℕ) : Type 0 where
  pub first : (k : ℕ) → 1 ≤ k → k ≤ 9 → get_or a k 0 ≤ most_records
  pub second : (k : ℕ) → 1 ≤ k → k ≤ 9 → get_or b k 0 ≤ most_records

-- so are those of one
abbrev pub FewUpto : List ℕ → Type 0
FewUpto t = (k : ℕ) → k ≤ 9 → get_or t k 0 ≤ most_records

-- the table h has the heads of runs that end with the numbers of the table t
abbrev pub HeadTable : List ℕ → List ℕ → Type 0
HeadTable t h = (k : ℕ) → 1 ≤ k → k ≤ 9 → get_or h k 0 ≡ next_upto (get_or t k 0) (get_or t (k - 1) 0)
