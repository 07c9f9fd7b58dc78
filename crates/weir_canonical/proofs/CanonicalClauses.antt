-- Every clause of the promise of the canonical image is needed, and every question that it asks.
use Prim.Native.Nat.{ℕ, ◌≤◌}
use mathlib.Core.List.{List, ◌++◌}
use mathlib.Core.Path.{◌≡◌, refl, sym, ap, ◌∙◌}
use native.Mathlib.Omega.{arith}
use lib.ListN.{length, get_or, drop}
use Rattle.base.specs.declared.refusals.Refusal.TheVariants.{OutputSlice, PolicyCounts, TooManyRecords}
use Rattle.base.proofs.QuestionLaws.{passed_not_refused}
use Rattle.base.specs.Refusals.{question_number}
use Rattle.base.proofs.RefusalLaws.{one_refusal}
use Rattle.canonical.specs.Canonical.{canonical_image, canonical_questions}
use Rattle.weir.specs.Cases.Goals.{empty}
use Rattle.weir.specs.Cases.JoinPolicies.{no_type, blank, blank_then}
use Rattle.weir_canonical.specs.Cases.CanonicalPolicies.{crowded, one_flow}
use Rattle.weir_canonical.specs.Cases.CanonicalClauses.{Fits, LengthTold, BytesWritten, CanonicalClauses}
use Rattle.weir_canonical.proofs.CanonicalImages as images
use Rattle.weir_canonical.proofs.CanonicalQuestions.{enough}
use Rattle.weir_canonical.proofs.Canonical.{canonical_cases, canonical_called}

-- ---- what is written, where the canonical image is known
module _ (s image before : List ℕ) (e : canonical_image s ≡ image) where
  fits : length image ≤ length before → Fits s before
  fits h = rw e h

  told_length : LengthTold s (length image)
  told_length = sym (ap length e)

  told_bytes : (after : List ℕ) (n : ℕ) → after ≡ image ++ drop n before → BytesWritten s before after n
  told_bytes after n h = h ∙ ap (λ (i : List ℕ). i ++ drop n before) (sym e)

empty_written : canonical_image empty ≡ empty
empty_written = (images.nothing).written

-- THE FOURTEENTH THEOREM
pub canonical_clauses : CanonicalClauses
canonical_clauses =
    record {
      written_policy =
          record {
            hold = (
              images.no_type_few,
              fits no_type no_type (blank 24) images.no_type_written (omega arith),
              (
                told_length no_type no_type (blank 24) images.no_type_written,
                told_bytes no_type no_type (blank 24) images.no_type_written no_type 24 refl,
              ),
            );
            rejected = λ p. passed_not_refused (canonical_questions no_type 24) 2 p.0 (canonical_cases.no_type_2 24);
          };
      written_fewer = λ s before n a more fits told. record {
        hold = (a, fits, (told, refl));
        rejected = λ p. passed_not_refused (canonical_questions s (length before)) 15 p.0 (canonical_cases.fifteen s a more (length before));
      };
      written_fits =
          record {
            hold = (
              (images.nothing).accepted,
              (images.nothing).few,
              (
                told_length empty empty (blank 23) empty_written,
                told_bytes empty empty (blank 23) empty_written empty 24 refl,
              ),
            );
            rejected = λ p. passed_not_refused (canonical_questions empty 23) 16 p.0 canonical_cases.nothing_16;
          };
      written_length =
          record {
            hold = (enough images.nothing 26 (omega arith), told_bytes empty empty (blank_then 7 9) empty_written empty 26 refl);
            rejected = λ p. let z : ◌≡◌ {A = ℕ} 26 24 = p.1 ∙ ap length empty_written in omega arith;
          };
      written_bytes =
          record {
            hold = (enough images.nothing 26 (omega arith), told_length empty empty (blank_then 7 9) empty_written);
            rejected = λ p.
                let z : ◌≡◌ {A = ℕ} 0 7 = ap (λ (l : List ℕ). get_or l 24 0) (p.2 ∙ ap (λ (i : List ℕ). i ++ drop 24 (blank_then 7 9)) empty_written) in
                omega arith;
          };
      refused_first = λ r. record {
        hold = refl;
        rejected = λ p. passed_not_refused (canonical_questions empty 24) (question_number r) canonical_cases.nothing_enough p.0;
      };
      refused_unchanged =
          record { hold = canonical_cases.nothing_16; rejected = λ p. let z : ◌≡◌ {A = ℕ} 1 170 = ap (λ (l : List ℕ). get_or l 0 0) p.1 in omega arith };
      refused_policy = λ r before after p.
          one_refusal (canonical_questions (crowded 0 one_flow 4094) (length before)) r PolicyCounts p.0 (canonical_cases.two_before_15.1 (length before));
      refused_15 = λ r before after p.
          one_refusal (canonical_questions (crowded 1 one_flow 4094) (length before)) r TooManyRecords p.0 (canonical_cases.crowded_15.1 (length before));
      refused_16 = λ r after p. one_refusal (canonical_questions empty 23) r OutputSlice p.0 canonical_cases.nothing_16;
      number_promised =
          record { hold = refl; rejected = λ N. let z = (canonical_called.nothing_exact (blank 24) 67 N).0 in omega arith };
      number_told =
          record {
            hold = (canonical_cases.nothing_enough, told_length empty empty (blank 24) empty_written, told_bytes empty empty (blank 24) empty_written empty 24 refl);
            rejected = λ N. let z = (canonical_called.nothing_exact empty 24 N).0 in omega arith;
          };
    }
