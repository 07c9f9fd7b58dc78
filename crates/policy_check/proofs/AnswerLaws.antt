-- The answer to the questions of a policy: it is one and the same for every program that keeps the promise, and what follows from it.
use Prim.Native.Nat.{ℕ}
use mathlib.Core.List.{List}
use Rattle.std.proofs.Common.{Result, Ok, Err}
use mathlib.Core.Path.{◌≡◌, sym, ap, ◌∙◌}
use Rattle.base.specs.Questions.{AllYes}
use Rattle.base.proofs.QuestionLaws.{passed_not_refused}
use Rattle.base.specs.declared.refusals.Refusal.{Refusal}
use Rattle.base.specs.Refusals.{question_number}
use Rattle.base.proofs.RefusalLaws.{one_refusal}
use Rattle.policy_image.specs.declared.counts.Counts.{Counts}
use Rattle.policy_check.specs.Inner.Answer.{PolicyAnswer}
use Rattle.policy_check.specs.Questions.{policy_questions}
use Rattle.policy_check.specs.Inner.Sound.{Sound}

-- two answers that the promise allows for one image are the same answer
pub one_answer : (s : List ℕ) (q r : Result Counts Refusal) → PolicyAnswer s q → PolicyAnswer s r → q ≡ r
one_answer s (Ok c) (Ok d) h k = ap Ok (h.0 ∙ sym k.0)
one_answer s (Ok c) (Err r) h k = absurd (passed_not_refused (policy_questions s) (question_number r) h.1 k)
one_answer s (Err q) (Ok d) h k = absurd (passed_not_refused (policy_questions s) (question_number q) k.1 h)
one_answer s (Err q) (Err r) h k = ap Err (one_refusal (policy_questions s) q r h k)

-- what a layer above learns from acceptance
pub sound : (s : List ℕ) → AllYes (policy_questions s) → Sound s
sound s a =
    record {
      exact = a.0;
      range = a.1.0;
      links = a.1.1.0;
      chains = a.1.1.1.0;
      fields = a.1.1.1.1.0;
      nodes = a.1.1.1.1.1.0;
      sources = a.1.1.1.1.1.1.0;
    }
