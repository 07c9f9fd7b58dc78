-- "A canonical policy image" (paper 02, e): what is promised of the call that writes it, for all bytes of the policy and all outputs. What
-- stands in quotes is the paper's. The promise fixes everything: the answer, and every byte of the output.
use Rattle.std.specs.Prelude.{ℕ, ◌≤◌, List, [], ◌∷◌, ◌++◌, length, Result}
use Rattle.base.specs.Questions.{Question, ask}
use Rattle.base.specs.declared.refusals.Refusal.{Refusal}
use Rattle.policy_image.specs.Policy.{policy_of}
use Rattle.policy_image.specs.Encoding.{image_of}
use Rattle.policy_check.specs.Questions.{policy_questions}
use Rattle.policy_facts.specs.Canonical.{canonical_of}
use Rattle.policy_writing.specs.Writing.{WritingPromise}

-- "the canonical image of an accepted policy": its bytes
abbrev pub canonical_image : List ℕ → List ℕ
canonical_image s = image_of (canonical_of (policy_of s))

-- The policy's questions; then "splitting flow may make more than 4,095 records, which gives 15, and output too short gives 16 after it"
abbrev pub canonical_questions : List ℕ → ℕ → List Question
canonical_questions s output =
    policy_questions s ++ (ask 15 ((canonical_of (policy_of s)).size ≤ 4095) ∷ ask 16 (length (canonical_image s) ≤ output) ∷ [])

-- "Refusals write nothing; bytes past the image are unchanged."
abbrev pub CanonicalPromise : List ℕ → List ℕ → List ℕ → Result ℕ Refusal → Type 0
CanonicalPromise s before after w = WritingPromise (canonical_questions s (length before)) (canonical_image s) before after w
