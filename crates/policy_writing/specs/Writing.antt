-- What a call that writes a policy image promises (paper 02, c): "A refusal writes nothing, and bytes past the result are unchanged."
-- The promise fixes the answer and every byte of the output.
use Rattle.std.specs.Prelude.{ℕ, ◌+◌, ◌*◌, List, ◌++◌, ◌≡◌, length, drop, Result, Ok, Err}
use Rattle.base.specs.Questions.{Question, AllYes}
use Rattle.base.specs.declared.refusals.Refusal.{Refusal}
use Rattle.base.specs.Refusals.{question_number, RefusedFor}

-- what each case of the answer says, by the questions of the call and the image that it writes, with the output before and after the call
abbrev pub WritingPromise : List Question → List ℕ → List ℕ → List ℕ → Result ℕ Refusal → Type 0
-- the result's length; the output begins with the result, and "bytes past the result are unchanged"
WritingPromise questions image before after (Ok n) = AllYes questions × (n ≡ length image) × (after ≡ image ++ drop n before)
-- the first question whose answer is no; "A refusal writes nothing"
WritingPromise questions image before after (Err r) = RefusedFor questions r × (after ≡ before)

-- the number that C gets: 256 × length + 4 × number + answer, with 0 written, 3 refused; unused parts are 0
abbrev pub writing_number : Result ℕ Refusal → ℕ
writing_number (Ok n) = 256 * n
writing_number (Err r) = 4 * question_number r + 3
