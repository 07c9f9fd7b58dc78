-- The answer to a bare question is one, and the number of a refusal.
use Prim.Native.Nat.{ℕ, ◌+◌, ◌*◌}
use mathlib.Core.Bool.{Bool}
use mathlib.Core.List.{List, [], ◌∷◌}
use Rattle.std.proofs.Common.{Result, Ok, Err}
use mathlib.Core.Path.{◌≡◌, sym, ap, ◌∙◌}
use Rattle.base.specs.Questions.{Question, ask, RefusedWith}
use Rattle.base.specs.declared.refusals.Refusal.{Refusal}
use Rattle.base.specs.Refusals.{question_number}
use Rattle.base.proofs.QuestionLaws.{passed_not_refused, one_number}
use Rattle.base.proofs.RefusalLaws.{one_refusal}
use Rattle.policy_image.specs.Layout.{counts_of}
use Rattle.context.specs.declared.Context.{Context}
use Rattle.context.specs.declared.Event.{Event}
use Rattle.bare_questions.specs.Bare.{AskedInRange, bare_questions, BareAnswer, number_of}

module _ (s : List ℕ) (x y : Context) (e : Event) where
  -- question 13, the only one after the policy's
  abbrev pub last : List Question
  last = ask 13 (AskedInRange (counts_of s) x y e) ∷ []

  -- two answers that the promise allows for one question are the same answer
  pub one_answer : (holds : Bool) (q r : Result Bool Refusal) → BareAnswer s x y e holds q → BareAnswer s x y e holds r → q ≡ r
  one_answer holds (Ok a) (Ok b) h k = ap Ok (sym h.1 ∙ k.1)
  one_answer holds (Ok a) (Err r) h k = absurd (passed_not_refused (bare_questions s x y e) (question_number r) h.0 k)
  one_answer holds (Err q) (Ok b) h k = absurd (passed_not_refused (bare_questions s x y e) (question_number q) k.0 h)
  one_answer holds (Err q) (Err r) h k = ap Err (one_refusal (bare_questions s x y e) q r h k)

  -- the number of an answer to what is refused with number k
  pub refused_number : (holds : Bool) (q : Result Bool Refusal) (k : ℕ) → BareAnswer s x y e holds q → RefusedWith (bare_questions s x y e) k
      → number_of q ≡ 4 * k + 3
  refused_number holds (Ok b) k h r = absurd (passed_not_refused (bare_questions s x y e) k h.0 r)
  refused_number holds (Err q) k h r = ap (λ (i : ℕ). 4 * i + 3) (one_number (bare_questions s x y e) (question_number q) k h r)
