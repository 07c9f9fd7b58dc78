-- "One policy from maker and board" (paper 02, c): what is promised of the join, for all bytes of both policies and all outputs. What
-- stands in quotes is the paper's. The promise fixes everything: the answer, and every byte of the output.
use Rattle.std.specs.Prelude.{ℕ, ◌+◌, ◌≤◌, List, [], ◌∷◌, ◌++◌, length, Result}
use Rattle.base.specs.Questions.{Question, ask}
use Rattle.base.specs.declared.refusals.Refusal.{Refusal}
use Rattle.policy_image.specs.Layout.{record_count}
use Rattle.policy_image.specs.Policy.{policy_of}
use Rattle.policy_image.specs.Encoding.{image_of}
use Rattle.policy_check.specs.Questions.{policy_questions}
use Rattle.policy_lists.specs.Joined.{joined}
use Rattle.policy_writing.specs.Writing.{WritingPromise}

-- the bytes of "the maker's policy and the board's joined": s is the maker's image, t the board's
abbrev pub joined_image : List ℕ → List ℕ → List ℕ
joined_image s t = image_of (joined (policy_of s) (policy_of t))

-- "Each passes the checks alone, the maker's first". "After both policies come 15, more than 4,095 records together, then 16, output
-- shorter than the result."
abbrev pub join_questions : List ℕ → List ℕ → ℕ → List Question
join_questions s t output =
    policy_questions s
    ++ (policy_questions t ++ (ask 15 (record_count s + record_count t ≤ 4095) ∷ ask 16 (length (joined_image s t) ≤ output) ∷ []))

abbrev pub JoinPromise : List ℕ → List ℕ → List ℕ → List ℕ → Result ℕ Refusal → Type 0
JoinPromise s t before after w = WritingPromise (join_questions s t (length before)) (joined_image s t) before after w
