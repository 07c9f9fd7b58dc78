-- The questions of the join in order: a refusal by each, and what is known where none refuses.
use Prim.Native.Nat.{ℕ, ◌+◌, ◌≤◌, ◌<◌}
use mathlib.Core.List.{List, [], ◌∷◌, ◌++◌}
use mathlib.Core.Logic.{inl, inr}
use mathlib.Core.Path.{◌≡◌, refl, sym, ap, ap₂, subst, ◌∙◌}
use native.Mathlib.Omega.{arith}
use lib.ListN.{length, drop}
use Rattle.std.proofs.Common.{Ok, Err}
use Rattle.base.specs.Questions.{Question, ask, AllYes, RefusedWith}
use Rattle.base.specs.declared.refusals.Refusal.{Refusal}
use Rattle.base.specs.declared.refusals.Refusal.TheVariants.{TooManyRecords, OutputSlice}
use Rattle.base.specs.Refusals.{question_number, RefusedFor}
use Rattle.base.specs.Inner.AllBytes.{AllBytes}
use Rattle.base.proofs.QuestionLaws.{refused_first, refused_then, passed_both}
use Rattle.policy_image.specs.declared.counts.Counts.{Counts}
use Rattle.policy_image.specs.Layout.{record_count}
use Rattle.policy_image.specs.Policy.{policy_of}
use Rattle.policy_image.specs.Inner.Sizes.{image_size, most_records}
use Rattle.policy_image.proofs.EncodingLaws.{image_length}
use Rattle.policy_check.specs.Questions.{policy_questions}
use Rattle.policy_check.specs.Inner.Answer.{PolicyAnswer}
use Rattle.policy_check.proofs.AnswerLaws.{sound}
use Rattle.policy_lists.specs.Joined.{joined}
use Rattle.policy_lists.proofs.JoinTurnLaws.{joined_size}
use Rattle.policy_runs.proofs.ImageWriteLaws.{records_of}
use Rattle.join.specs.Join.{joined_image, join_questions}
use Rattle.join.specs.Inner.Parts.{Joinable}

pub few_records : (s : List ℕ) {c : Counts} → PolicyAnswer s (Ok c) → c.records ≤ most_records
few_records s a = let x = records_of s a.0 in let f = (sound s a.1).exact.few in omega arith

module _ (s t : List ℕ) (output : ℕ) where
  -- the questions after those of both policies, and after the maker's
  abbrev last : List Question
  last = ask 15 (record_count s + record_count t ≤ most_records) ∷ ask 16 (length (joined_image s t) ≤ output) ∷ []

  abbrev later : List Question
  later = policy_questions t ++ last

  pub maker_refused : (r : Refusal) → PolicyAnswer s (Err r) → RefusedFor (join_questions s t output) r
  maker_refused r a = refused_first (policy_questions s) later (question_number r) a

  module _ {c : Counts} (a : PolicyAnswer s (Ok c)) where
    pub board_refused : (r : Refusal) → PolicyAnswer t (Err r) → RefusedFor (join_questions s t output) r
    board_refused r b =
        refused_then (policy_questions s) later (question_number r) a.1
        (refused_first (policy_questions t) last (question_number r) b)

    module _ {d : Counts} (b : PolicyAnswer t (Ok d)) where
      after_both : (k : ℕ) → RefusedWith last k → RefusedWith (join_questions s t output) k
      after_both k r = refused_then (policy_questions s) later k a.1 (refused_then (policy_questions t) last k b.1 r)

      pub too_many : most_records < c.records + d.records → RefusedFor (join_questions s t output) TooManyRecords
      too_many h =
          let x = records_of s a.0 in
          let y = records_of t b.0 in
          after_both 15 (inl ((λ few. omega arith), refl))

      module _ (few : c.records + d.records ≤ most_records) where
        fewer : record_count s + record_count t ≤ most_records
        fewer = let x = records_of s a.0 in let y = records_of t b.0 in omega arith

        pub result_length : length (joined_image s t) ≡ image_size (c.records + d.records)
        result_length =
            let x = records_of s a.0 in
            let y = records_of t b.0 in
            let z = joined_size (policy_of s) (policy_of t) (sound s a.1).chains (sound t b.1).chains in
            image_length (joined (policy_of s) (policy_of t)) ∙ ap image_size (let n : (joined (policy_of s) (policy_of t)).size ≡ c.records + d.records = omega arith in n)

        pub too_short : output < image_size (c.records + d.records) → RefusedFor (join_questions s t output) OutputSlice
        too_short h = let l = result_length in after_both 16 (inr (fewer, inl ((λ fits. omega arith), refl)))

        module _ (fits : image_size (c.records + d.records) ≤ output) where
          pub all_passed : AllYes (join_questions s t output)
          all_passed =
              let l = result_length in
              passed_both (policy_questions s) later a.1 (passed_both (policy_questions t) last b.1 (fewer, (omega arith, tt)))

          pub can_be_joined : AllBytes s → AllBytes t → Joinable s t c d output
          can_be_joined m n =
              let x = records_of s a.0 in
              let y = records_of t b.0 in
              record {
                maker = sound s a.1;
                board = sound t b.1;
                maker_bytes = m;
                board_bytes = n;
                makers = a.0;
                boards = b.0;
                makers_size = x;
                boards_size = y;
                few = fewer;
                room = subst (λ (n : ℕ). image_size n ≤ output) (ap₂ ◌+◌ x y) fits;
              }

          -- bytes past the result are counted from the two headers
          pub past_result : (n : ℕ) → n ≡ image_size (c.records + d.records) → (before after : List ℕ)
              → after ≡ joined_image s t ++ drop (image_size (record_count s + record_count t)) before → after ≡ joined_image s t ++ drop n before
          past_result n q before after e =
              e ∙ ap (λ (i : ℕ). joined_image s t ++ drop i before) (sym (q ∙ ap₂ (λ (x y : ℕ). image_size (x + y)) (records_of s a.0) (records_of t b.0)))
