-- Facts with the same code become one entry.
use Rattle.std.specs.Prelude.{ℕ, List}
use Rattle.sorting.specs.Inner.Entries.{EntryKeys, Unites}

-- the m entries have the codes of the first n facts, each with what they give
pub record UnitedFacts (code give : ℕ → ℕ) (n : ℕ) (keys masks : List ℕ) (m : ℕ) : Type 0 where
  pub entries : EntryKeys code n keys m
  pub united : Unites code give n keys masks m
