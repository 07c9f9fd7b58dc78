-- The promise of a call that writes fixes the answer and the output: any two results that it allows for one input are the same.
use Prim.Native.Nat.{ℕ, ◌+◌, ◌*◌}
use mathlib.Core.List.{List, ◌++◌}
use mathlib.Core.Path.{◌≡◌, sym, ap, ◌∙◌}
use lib.ListN.{drop}
use Rattle.std.proofs.Common.{Result, Ok, Err}
use Rattle.base.specs.Questions.{Question, RefusedWith}
use Rattle.base.proofs.QuestionLaws.{passed_not_refused, one_number}
use Rattle.base.specs.declared.refusals.Refusal.{Refusal}
use Rattle.base.specs.Refusals.{question_number}
use Rattle.base.proofs.RefusalLaws.{one_refusal}
use Rattle.policy_writing.specs.Writing.{WritingPromise, writing_number}

module _ (qs : List Question) (image before : List ℕ) where
  pub one_writing : (after last : List ℕ) (w v : Result ℕ Refusal) → WritingPromise qs image before after w → WritingPromise qs image before last v
      → (w ≡ v) × (after ≡ last)
  one_writing a b (Ok n) (Ok m) p q =
      let e : n ≡ m = p.1 ∙ sym q.1 in
      (ap Ok e, p.2 ∙ ap (λ (k : ℕ). image ++ drop k before) e ∙ sym q.2)
  one_writing a b (Ok n) (Err r) p q = absurd (passed_not_refused qs (question_number r) p.0 q.0)
  one_writing a b (Err r) (Ok n) p q = absurd (passed_not_refused qs (question_number r) q.0 p.0)
  one_writing a b (Err q) (Err r) h k = (ap Err (one_refusal qs q r h.0 k.0), h.1 ∙ sym k.1)

  -- an answer to what is refused with number k is that refusal
  pub refused_writing : (after : List ℕ) (w : Result ℕ Refusal) (k : ℕ) → WritingPromise qs image before after w → RefusedWith qs k
      → (writing_number w ≡ 4 * k + 3) × (after ≡ before)
  refused_writing after (Ok n) k p r = absurd (passed_not_refused qs k p.0 r)
  refused_writing after (Err q) k p r = (ap (λ (i : ℕ). 4 * i + 3) (one_number qs (question_number q) k p.0 r), p.1)
