-- The two runs of each kind, the maker's and the board's: their records are those of the joined policy at their place.
use Prim.Native.Nat.{ℕ, suc, ◌+◌, ◌≤◌}
use mathlib.Core.Path.{◌≡◌, sym, ap, ap₂, subst, ◌∙◌}
use native.Mathlib.Omega.{arith}
use lib.ListN.{length}
use Rattle.policy_image.specs.Inner.Kinds.{kind_number}
use Rattle.policy_image.specs.Policy.{Policy}
use Rattle.policy_lists.specs.Lists.{kind_list, record_in, link_in, with_next}
use Rattle.policy_lists.specs.Inner.Places.{next_upto}
use Rattle.policy_lists.specs.Joined.{of_kinds_upto, nodes_upto, renumbered, joined_kind, joined_list, joined}
use Rattle.policy_lists.proofs.JoinTurnLaws.{joined_own}
use Rattle.policy_lists.proofs.PlaceLaws.{ending, StandsIn, endings_rise, link_at, maker_stands, maker_at, board_stands, board_at}
use Rattle.policy_runs.specs.declared.Run.{Run}
use Rattle.policy_runs.specs.Inner.Runs.{many_upto, run_place}
use Rattle.policy_runs.proofs.RunImageLaws.{RunIn}

module _ (p q : Policy) (run : Run) (k : ℕ) (h : suc k ≤ 9) (kind : kind_number run.kind ≡ suc k) (last : run.last ≡ ending (joined_kind p q) (suc k)) where
  abbrev stands : ℕ → Type 0
  stands i = StandsIn (joined_kind p q) (joined_own p q) k i

  within : (i : ℕ) → stands i → i ≤ (joined p q).size
  within i s = let r = endings_rise (joined_kind p q) (suc k) 9 h in omega (arith, s.high, r)

  next_is : (i : ℕ) → stands i → link_in (joined_list p q) i ≡ next_upto run.last i
  next_is i s = link_at (joined_kind p q) (joined_own p q) k i h s ∙ ap (λ (n : ℕ). next_upto n i) (sym last)

  module _ (before : run.before ≡ ending (joined_kind p q) k) (shift : run.shift ≡ of_kinds_upto p 8 + of_kinds_upto q 8) where
    place : (n : ℕ) → run_place p run n ≡ suc (ending (joined_kind p q) k + many_upto p (suc k) n)
    place n = ap₂ (λ (a b : ℕ). suc (a + many_upto p b n)) before kind

    maker_place : (n : ℕ) → suc n ≤ p.size → (p.rec (suc n)).kind ≡ kind_number run.kind → stands (run_place p run n)
    maker_place n l e = subst stands (sym (place n)) (maker_stands p q k n h (e ∙ kind) l)

    pub maker_run : RunIn (joined p q) p run
    maker_run =
        record {
          high = λ n l e. within (run_place p run n) (maker_place n l e);
          same = λ n l e.
              ap₂ with_next (next_is (run_place p run n) (maker_place n l e))
              (ap (λ (i : ℕ). record_in (joined_list p q) i) (place n) ∙ maker_at p q k n h (e ∙ kind) l
              ∙ ap (λ (x : ℕ). renumbered (λ m. x + nodes_upto p m) (p.rec (suc n))) (sym shift));
        }

  module _ (before : run.before ≡ ending (joined_kind p q) k + length (kind_list p (suc k))) (shift : run.shift ≡ of_kinds_upto p 8 + of_kinds_upto q 8 + length (kind_list p 9)) where
    place_2 : (n : ℕ) → run_place q run n ≡ suc (ending (joined_kind p q) k + length (kind_list p (suc k)) + many_upto q (suc k) n)
    place_2 n = ap₂ (λ (a b : ℕ). suc (a + many_upto q b n)) before kind

    board_place : (n : ℕ) → suc n ≤ q.size → (q.rec (suc n)).kind ≡ kind_number run.kind → stands (run_place q run n)
    board_place n l e = subst stands (sym (place_2 n)) (board_stands p q k n h (e ∙ kind) l)

    pub board_run : RunIn (joined p q) q run
    board_run =
        record {
          high = λ n l e. within (run_place q run n) (board_place n l e);
          same = λ n l e.
              ap₂ with_next (next_is (run_place q run n) (board_place n l e))
              (ap (λ (i : ℕ). record_in (joined_list p q) i) (place_2 n) ∙ board_at p q k n h (e ∙ kind) l
              ∙ ap (λ (x : ℕ). renumbered (λ m. x + nodes_upto q m) (q.rec (suc n))) (sym shift));
        }
