-- What fixes each answer (specs/Cases/Theorems.antt says what that is).
use Prim.Native.Nat.{ℕ}
use mathlib.Core.List.{List}
use mathlib.Core.Path.{◌≡◌, sym, ap, ◌∙◌}
use lib.ListN.{length}
use Rattle.std.proofs.Common.{Result}
use Rattle.base.specs.declared.refusals.Refusal.{Refusal}
use Rattle.policy_image.specs.Policy.{policy_of}
use Rattle.access.specs.Authorization.{authorized, flow}
use Rattle.policy_writing.proofs.WritingLaws.{one_writing}
use Rattle.bare_questions.proofs.BareLaws.{one_answer}
use Rattle.goal_question.proofs.GoalLaws.{one_outcome}
use Rattle.least_steps.proofs.StepsLaws.{one_steps}
use Rattle.join.specs.Join.{joined_image, join_questions, JoinPromise}
use Rattle.canonical.specs.Canonical.{canonical_image, canonical_questions, CanonicalPromise}
use Rattle.answer_laws.specs.Cases.Theorems.{One, OneResult}

-- where the answer is one, its number is
one : {A : Type 0} {told : A → ℕ} {P Q : A → Type 0} → ((q r : A) → P q → Q r → q ≡ r) → One told P Q
one {A} {told} o =
    record {
      answer = o;
      number = λ n k N K. N.number ∙ ap told (o N.answer K.answer N.promised K.promised) ∙ sym K.number;
    }

module _ (s t before after last : List ℕ) (q r : Result ℕ Refusal) (p : JoinPromise s t before after q) (o : JoinPromise s t before last r) where
  one_join : (q ≡ r) × (after ≡ last)
  one_join = one_writing (join_questions s t (length before)) (joined_image s t) before after last q r p o

module _ (s before after last : List ℕ) (q r : Result ℕ Refusal) (p : CanonicalPromise s before after q) (o : CanonicalPromise s before last r) where
  one_canonical : (q ≡ r) × (after ≡ last)
  one_canonical = one_writing (canonical_questions s (length before)) (canonical_image s) before after last q r p o

-- THE THEOREM
pub one_result : OneResult
one_result =
    record {
      authorization = λ s x y e. one (one_answer s x y e (authorized (policy_of s) e x y));
      flow = λ s x y e. one (one_answer s x y e (flow (policy_of s) e x y));
      goal = λ s g v w b a l. one (one_outcome s g v w b a l);
      steps = λ s x y v w b a l. one (one_steps s x y v w b a l);
      join = λ s t b a l. one (λ q r p o. (one_join s t b a l q r p o).0);
      join_output = λ s t b a l q r p o. (one_join s t b a l q r p o).1;
      canonical = λ s b a l. one (λ q r p o. (one_canonical s b a l q r p o).0);
      canonical_output = λ s b a l q r p o. (one_canonical s b a l q r p o).1;
    }
