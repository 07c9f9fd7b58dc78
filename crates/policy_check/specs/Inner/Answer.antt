-- The answer to the questions of a policy.
use Rattle.std.specs.Prelude.{ℕ, ◌≡◌, List, Result, Ok, Err}
use Rattle.base.specs.Questions.{AllYes}
use Rattle.base.specs.declared.refusals.Refusal.{Refusal}
use Rattle.base.specs.Refusals.{RefusedFor}
use Rattle.policy_image.specs.declared.counts.Counts.{Counts}
use Rattle.policy_image.specs.Layout.{counts_of}
use Rattle.policy_check.specs.Questions.{policy_questions}

-- what each case of the answer says of the image s: the counts of the image, where every answer is yes; or the refusal of the first
-- question whose answer is no
abbrev pub PolicyAnswer : List ℕ → Result Counts Refusal → Type 0
PolicyAnswer s (Ok c) = (c ≡ counts_of s) × AllYes (policy_questions s)
PolicyAnswer s (Err r) = RefusedFor (policy_questions s) r
