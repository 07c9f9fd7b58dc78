-- The number that C gets: "calls the goal question and gets a 64-bit number" (paper 01).
use Rattle.std.specs.Prelude.{ℕ, ◌≡◌}

-- n is the number of an answer that keeps the promise P
pub record Numbered {A : Type 0} (told : A → ℕ) (P : A → Type 0) (n : ℕ) : Type 0 where
  pub answer : A
  pub promised : P answer
  pub number : n ≡ told answer
