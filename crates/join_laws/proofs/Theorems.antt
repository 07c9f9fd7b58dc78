-- The claims of request c, for all images that are joined (specs/Cases/Theorems.antt says what each of them is).
use Prim.Native.Nat.{ℕ, ◌+◌, ◌≤◌}
use mathlib.Core.Path.{sym, ap}
use mathlib.Core.List.{List, [], ◌∷◌, ◌++◌}
use lib.ListN.{length}
use Rattle.base.specs.Questions.{Question, ask, AllYes}
use Rattle.base.proofs.QuestionLaws.{passed_first, passed_then}
use Rattle.policy_image.specs.declared.counts.Counts.{Counts}
use Rattle.policy_image.specs.Layout.{counts_of, record_count}
use Rattle.policy_check.specs.Questions.{policy_questions}
use Rattle.join.specs.Join.{joined_image}
use Rattle.join_laws.specs.Cases.Theorems.{ImageJoined, LargerOfEach, JoinClaims}
use Rattle.join_laws.proofs.WrittenLaws.{joined_passes, written_counts, written_together, written_authorized, written_flow}

module _ (s t : List ℕ) (J : ImageJoined s t) where
  -- questions 15 and 16, behind those of both policies
  abbrev room_questions : List Question
  room_questions = ask 15 (record_count s + record_count t ≤ 4095) ∷ ask 16 (length (joined_image s t) ≤ J.output) ∷ []

  maker : AllYes (policy_questions s)
  maker = passed_first (policy_questions s) (policy_questions t ++ room_questions) J.asked

  boards : AllYes (policy_questions t ++ room_questions)
  boards = passed_then (policy_questions s) (policy_questions t ++ room_questions) J.asked

  board : AllYes (policy_questions t)
  board = passed_first (policy_questions t) room_questions boards

  few : record_count s + record_count t ≤ 4095
  few = (passed_then (policy_questions t) room_questions boards).0

  larger_of_each : LargerOfEach (counts_of (joined_image s t)) (counts_of s) (counts_of t)
  larger_of_each =
      let e = sym (written_counts s t J.maker J.board maker board few) in
      record {
        types = ap (λ (c : Counts). c.types) e;
        roles = ap (λ (c : Counts). c.roles) e;
        users = ap (λ (c : Counts). c.users) e;
        classes = ap (λ (c : Counts). c.classes) e;
      }

-- THE THEOREM
pub join_claims : JoinClaims
join_claims =
    record {
      passes = λ s t J. joined_passes s t J.maker J.board (maker s t J) (board s t J) (few s t J);
      counts = larger_of_each;
      together = λ s t J. written_together s t J.maker J.board (maker s t J) (board s t J) (few s t J);
      authorizes = λ s t J. written_authorized s t J.maker J.board (maker s t J) (board s t J) (few s t J);
      flows = λ s t J. written_flow s t J.maker J.board (maker s t J) (board s t J) (few s t J);
    }
