-- The answer to questions 1 and 2.
use Rattle.std.specs.Prelude.{ℕ, List, [], ◌∷◌, Result, Ok, Err}
use Rattle.base.specs.Questions.{Question, ask, AllYes}
use Rattle.base.specs.declared.refusals.Refusal.{Refusal}
use Rattle.base.specs.Refusals.{RefusedFor}
use Rattle.policy_image.specs.declared.counts.Counts.{Counts}
use Rattle.policy_image.specs.Layout.{PolicyExact, counts_of}
use Rattle.policy_image.specs.Counts.{CountsInRange}
use Rattle.policy_image.specs.Inner.Reading.{Counted}

abbrev pub count_questions : List ℕ → List Question
count_questions s = ask 1 (PolicyExact s) ∷ ask 2 (CountsInRange (counts_of s)) ∷ []

-- the answer to questions 1 and 2
abbrev pub CountsAnswer : List ℕ → Result Counts Refusal → Type 0
CountsAnswer s (Ok c) = Counted s c × AllYes (count_questions s)
CountsAnswer s (Err r) = RefusedFor (count_questions s) r
