-- What the iterator over the records of a chain gives.
use Rattle.std.specs.Prelude.{ℕ, ◌≡◌, ◌≤◌, Option, None, Some}
use Rattle.std.specs.Iterator.{Count, at_most}
use Rattle.base.specs.Inner.Left.{left}
use Rattle.goal_image.specs.declared.chain.Chain.{Chain}
use Rattle.goal_image.specs.Layout.{goal_count, next_of}

-- i is the number of the record where the iterator s stood, and t stands at its next
pub record GivesNextNumber (s : Chain) (i : ℕ) (t : Chain) : Type 0 where
  pub low : 1 ≤ i
  pub high : i ≤ goal_count s.goal.now
  pub at : i ≡ s.next
  pub next : t.next ≡ next_of s.goal.now i
  pub goal : t.goal.now ≡ s.goal.now

-- a call of next at s gave a number and left t, or gave none at the chain's end
abbrev pub GivesNumber : Chain → Option ℕ → Chain → Type 0
GivesNumber s None t = s.next ≡ 0
GivesNumber s (Some i) t = GivesNextNumber s i t

-- how many records are left at most
abbrev pub numbers_left : Chain → Count
numbers_left s = at_most (left (goal_count s.goal.now) s.next)
