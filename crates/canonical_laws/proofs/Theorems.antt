-- The claims of request e, for all policies whose canonical image is written (specs/Cases/Theorems.antt says what each of them is).
use Prim.Native.Nat.{ℕ, ◌≤◌}
use mathlib.Core.Path.{◌≡◌, refl, sym, ap, subst}
use mathlib.Core.List.{List, [], ◌∷◌}
use mathlib.Core.Logic.{◌↔◌}
use lib.ListN.{length}
use Rattle.base.specs.Questions.{Question, ask, AllYes}
use Rattle.base.proofs.QuestionLaws.{passed_first, passed_then, passed_both}
use Rattle.policy_image.specs.Policy.{Policy, policy_of}
use Rattle.policy_image.specs.Encoding.{image_of}
use Rattle.policy_check.specs.Questions.{policy_questions}
use Rattle.policy_check.proofs.AnswerLaws.{sound}
use Rattle.policy_facts.specs.Canonical.{canonical_of}
use Rattle.policy_facts.specs.Cases.Same.{Same}
use Rattle.policy_facts.proofs.RelationLaws.{same_facts}
use Rattle.policy_facts.proofs.SameLaws.{same_sym, same_trans, same_canonical}
use Rattle.canonical.specs.Canonical.{canonical_image}
use Rattle.canonical_laws.specs.Cases.Theorems.{ImageWritten, WritingTwice, SameRelations, SameAnswers, CanonicalClaims}
use Rattle.canonical_laws.proofs.CanonicalWrittenLaws.{canonical_passes, read_same, read_constraints, read_canonical}
use Rattle.canonical_laws.proofs.SameRelationLaws.{same_relations}
use Rattle.canonical_laws.proofs.SameAnswerLaws.{same_answers}

-- questions 15 and 16, behind those of the policy
abbrev room_questions : List ℕ → ℕ → List Question
room_questions s output = ask 15 ((canonical_of (policy_of s)).size ≤ 4095) ∷ ask 16 (length (canonical_image s) ≤ output) ∷ []

-- ---- an image s whose canonical image is written
module _ (s : List ℕ) (W : ImageWritten s) where
  accepted : AllYes (policy_questions s)
  accepted = passed_first (policy_questions s) (room_questions s W.output) W.asked

  few : (canonical_of (policy_of s)).size ≤ 4095
  few = (passed_then (policy_questions s) (room_questions s W.output) W.asked).0

  says_same : Same (policy_of s) (policy_of (canonical_image s))
  says_same = read_same s W.bytes accepted few

  -- "Writing twice changes nothing."
  pub writing_twice : WritingTwice s
  writing_twice =
      let passes = canonical_passes s W.bytes accepted few in
      let again = read_canonical s W.bytes accepted few in
      record {
        accepted = passes;
        asked = λ output room.
            passed_both (policy_questions (canonical_image s)) (room_questions (canonical_image s) output) passes (
              subst (λ (p : Policy). p.size ≤ 4095) (sym again) few,
              (subst (λ (p : Policy). length (image_of p) ≤ output) (sym again) room, tt),
            );
        same = ap image_of again;
      }

  -- "Every authorization answer survives the writing."
  pub relations_survive : SameRelations (policy_of s) (policy_of (canonical_image s))
  relations_survive = same_relations (same_facts says_same) (λ i. refl) (λ i. refl) (read_constraints s W.bytes accepted few)

  pub answers_survive : SameAnswers s (canonical_image s)
  answers_survive =
      let R = relations_survive in
      let S = says_same in
      same_answers s (canonical_image s)
      (record {
        first = accepted;
        second = canonical_passes s W.bytes accepted few;
        counts = record { types = S.types; roles = S.roles; users = S.users; classes = S.classes };
        rho = R.rho;
        mu = R.mu;
        authorizes = R.authorizes;
        flows = R.flows;
      })

-- ---- two of them
-- "Two policies give equal bytes exactly when their counts, their facts .. and their lists of kinds 8 and 9 agree"
pub equal_bytes : (s t : List ℕ) → ImageWritten s → ImageWritten t → (canonical_image s ≡ canonical_image t) ↔ Same (policy_of s) (policy_of t)
equal_bytes s t W X =
    let S = sound s (accepted s W) in
    let T = sound t (accepted t X) in (
      λ e. same_trans (says_same s W) (subst (λ (i : List ℕ). Same (policy_of i) (policy_of t)) (sym e) (same_sym (says_same t X))),
      λ e. ap image_of (same_canonical (policy_of s) (policy_of t) S.range T.range S.fields T.fields e),
    )

-- THE THEOREM
pub canonical_claims : CanonicalClaims
canonical_claims = record { equal_bytes = equal_bytes; twice = writing_twice; relations = relations_survive; answers = answers_survive }
