-- A region of a list of numbers is filled, entry by entry.
use Rattle.std.specs.Prelude.{ℕ, ◌+◌, ◌≤◌, ◌<◌, ◌≡◌, List, get_or}

-- the entries from a to below b of the region at a place have what P says of each, and what stands before and after them is as it was
pub record Filled (P : ℕ → ℕ → Type 0) (old new : List ℕ) (at a b : ℕ) : Type 0 where
  pub here : (i : ℕ) → a ≤ i → i < b → P i (get_or new (at + i) 0)
  pub below : (i : ℕ) → i < at + a → get_or new i 0 ≡ get_or old i 0
  pub above : (i : ℕ) → at + b ≤ i → get_or new i 0 ≡ get_or old i 0
