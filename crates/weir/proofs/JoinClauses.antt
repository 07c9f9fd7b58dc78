-- Every clause of the promise of the join is needed, and every question that it asks.
use Prim.Native.Nat.{ℕ}
use mathlib.Core.List.{List, [], ◌∷◌, ◌++◌}
use mathlib.Core.Path.{◌≡◌, refl, ap}
use native.Mathlib.Omega.{arith}
use lib.ListN.{length, get_or}
use Rattle.base.specs.declared.refusals.Refusal.TheVariants.{OutputSlice, PolicyCounts, PolicyLength, TooManyRecords}
use Rattle.base.proofs.QuestionLaws.{passed_not_refused}
use Rattle.base.specs.Refusals.{question_number}
use Rattle.base.proofs.RefusalLaws.{one_refusal}
use Rattle.policy_image.specs.Cases.Weir.{weir}
use Rattle.policy_check.proofs.Cases.{w10_empty}
use Rattle.join.specs.Join.{joined_image, join_questions}
use Rattle.weir.specs.Cases.Goals.{empty}
use Rattle.weir.specs.Cases.JoinPolicies.{no_type, states_many, blank}
use Rattle.weir.specs.Cases.JoinClauses.{JoinClauses}
use Rattle.weir.proofs.JoinImages as images
use Rattle.weir.proofs.JoinImages.{written}
use Rattle.weir.proofs.Join.{enough, join_cases, join_called}

-- ---- the policy with no type, joined to one that has one, before it and behind it: the larger count is in range
maker_joined : joined_image no_type empty ≡ empty
unfolding written
maker_joined = refl

board_joined : joined_image empty no_type ≡ empty
unfolding written
board_joined = refl

-- a byte that differs
cleared : ◌≡◌ {A = List ℕ} (empty ++ (0 ∷ 0 ∷ [])) (empty ++ (7 ∷ 9 ∷ [])) → ⊥
cleared e = let z : ◌≡◌ {A = ℕ} 0 7 = ap (λ (l : List ℕ). get_or l 24 0) e in omega arith

-- THE TENTH THEOREM
pub join_clauses : JoinClauses
unfolding written
join_clauses =
    record {
      written_maker =
          record {
            hold = (w10_empty.it, omega arith, omega arith, (refl, refl));
            rejected = λ p. passed_not_refused (join_questions no_type empty 24) 2 p.0 (join_cases.makers_first no_type empty 2 (images.no_type_lem).it 24);
          };
      written_board =
          record {
            hold = (w10_empty.it, omega arith, omega arith, (refl, refl));
            rejected = λ p. passed_not_refused (join_questions empty no_type 24) 2 p.0 (join_cases.boards_next empty no_type 2 w10_empty.it (images.no_type_lem).it 24);
          };
      written_fewer = λ s t before n a b more fits told. record {
        hold = (a, b, fits, (told, refl));
        rejected = λ p. passed_not_refused (join_questions s t (length before)) 15 p.0 (join_cases.fifteen s t a b more (length before));
      };
      written_fits =
          record {
            hold = (w10_empty.it, w10_empty.it, omega arith, (refl, refl));
            rejected = λ p. passed_not_refused (join_questions empty empty 23) 16 p.0 join_cases.nothing_16;
          };
      written_length =
          record { hold = (enough images.nothing 26 (omega arith), refl); rejected = λ p. let z : ◌≡◌ {A = ℕ} 26 24 = p.1 in omega arith };
      written_bytes =
          record { hold = (enough images.nothing 26 (omega arith), refl); rejected = λ p. cleared p.2 };
      refused_first = λ r. record {
        hold = refl;
        rejected = λ p. passed_not_refused (join_questions empty empty 24) (question_number r) join_cases.nothing_enough p.0;
      };
      refused_unchanged = record { hold = join_cases.nothing_16; rejected = λ p. let z : ◌≡◌ {A = ℕ} 1 170 = ap (λ (l : List ℕ). get_or l 0 0) p.1 in omega arith };
      refused_maker = λ r before after p. one_refusal (join_questions no_type [] (length before)) r PolicyCounts p.0 (join_cases.two_before_1.1 (length before));
      refused_board = λ r before after p. one_refusal (join_questions weir states_many (length before)) r PolicyLength p.0 (join_cases.one_before_15.1 (length before));
      refused_15 = λ s t before after r a b more p. one_refusal (join_questions s t (length before)) r TooManyRecords p.0 (join_cases.fifteen s t a b more (length before));
      refused_16 = λ r after p. one_refusal (join_questions empty empty 23) r OutputSlice p.0 join_cases.nothing_16;
      number_promised =
          record { hold = refl; rejected = λ N. let z = (join_called.nothing_exact (blank 24) 67 N).0 in omega arith };
      number_told =
          record { hold = (join_cases.nothing_enough, refl, refl); rejected = λ N. let z = (join_called.nothing_exact empty 24 N).0 in omega arith };
    }
