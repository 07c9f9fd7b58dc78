-- The questions of the canonical image in order: a refusal by each, and what is known where none refuses.
use Prim.Native.Nat.{ℕ, ◌+◌, ◌≤◌, ◌<◌}
use mathlib.Core.List.{List, [], ◌∷◌, ◌++◌}
use mathlib.Core.Logic.{inl, inr}
use mathlib.Core.Path.{◌≡◌, refl, sym, ap, subst, ◌∙◌}
use native.Mathlib.Omega.{arith}
use lib.ListN.{length, get_or, drop}
use Rattle.std.proofs.Common.{Ok}
use Rattle.base.specs.Questions.{Question, ask, AllYes}
use Rattle.base.specs.declared.refusals.Refusal.TheVariants.{TooManyRecords, OutputSlice}
use Rattle.base.specs.Refusals.{RefusedFor}
use Rattle.base.specs.Inner.AllBytes.{AllBytes}
use Rattle.base.proofs.QuestionLaws.{refused_then, passed_both}
use Rattle.policy_image.specs.declared.counts.Counts.{Counts}
use Rattle.policy_image.specs.Policy.{policy_of}
use Rattle.policy_image.specs.Inner.Sizes.{image_size, most_records}
use Rattle.policy_image.proofs.EncodingLaws.{image_length}
use Rattle.policy_check.specs.Questions.{policy_questions}
use Rattle.policy_check.specs.Inner.Answer.{PolicyAnswer}
use Rattle.policy_check.proofs.AnswerLaws.{sound}
use Rattle.policy_facts.specs.Canonical.{canonical_of}
use Rattle.policy_facts.specs.Inner.FactTable.{FactTable}
use Rattle.policy_facts.proofs.FactTableLaws.{table_length}
use Rattle.policy_facts.proofs.CanonicalTurnLaws.{canonical_size}
use Rattle.policy_runs.specs.Inner.Runs.{KindTable}
use Rattle.policy_runs.proofs.ImageWriteLaws.{records_of}
use Rattle.canonical.specs.Canonical.{canonical_image, canonical_questions}
use Rattle.canonical.specs.Inner.Parts.{Canonizable}

module _ (s : List ℕ) (output : ℕ) where
  -- the questions after those of the policy
  abbrev last : List Question
  last = ask 15 ((canonical_of (policy_of s)).size ≤ most_records) ∷ ask 16 (length (canonical_image s) ≤ output) ∷ []

  module _ {c : Counts} (a : PolicyAnswer s (Ok c)) {keys masks : List ℕ} {m : ℕ} (T : FactTable (policy_of s) keys masks m) (of : List ℕ) (O : KindTable (policy_of s) of) where
    -- how many records the result has
    abbrev records : ℕ
    records = m + (get_or of 8 0 + get_or of 9 0)

    result_records : records ≡ (canonical_of (policy_of s)).size
    result_records =
        let t = table_length T in
        let x = O 8 (omega arith) (omega arith) in
        let y = O 9 (omega arith) (omega arith) in
        let z = canonical_size (policy_of s) in
        omega arith

    pub too_many : most_records < records → RefusedFor (canonical_questions s output) TooManyRecords
    too_many h = let e = result_records in refused_then (policy_questions s) last 15 a.1 (inl ((λ few. omega arith), refl))

    module _ (few : records ≤ most_records) where
      fewer : (canonical_of (policy_of s)).size ≤ most_records
      fewer = let e = result_records in omega arith

      pub result_length : length (canonical_image s) ≡ image_size records
      result_length = image_length (canonical_of (policy_of s)) ∙ ap image_size (sym result_records)

      pub too_short : output < image_size records → RefusedFor (canonical_questions s output) OutputSlice
      too_short h = let l = result_length in refused_then (policy_questions s) last 16 a.1 (inr (fewer, inl ((λ fits. omega arith), refl)))

      module _ (fits : image_size records ≤ output) where
        pub all_passed : AllYes (canonical_questions s output)
        all_passed = let l = result_length in passed_both (policy_questions s) last a.1 (fewer, (omega arith, tt))

        pub can_be_written : AllBytes s → m ≤ length keys → m ≤ length masks → Canonizable s c keys masks m output
        can_be_written bytes keyed masked =
            record {
              sound = sound s a.1;
              bytes = bytes;
              counts = a.0;
              size = records_of s a.0;
              table = T;
              keyed = keyed;
              masked = masked;
              few = fewer;
              room = subst (λ (n : ℕ). image_size n ≤ output) result_records fits;
            }

        -- bytes past the result are counted from the number of its records
        pub past_result : (n : ℕ) → n ≡ image_size records → (before after : List ℕ)
            → after ≡ canonical_image s ++ drop (image_size (canonical_of (policy_of s)).size) before → after ≡ canonical_image s ++ drop n before
        past_result n q before after e = e ∙ ap (λ (i : ℕ). canonical_image s ++ drop i before) (sym (q ∙ ap image_size result_records))
