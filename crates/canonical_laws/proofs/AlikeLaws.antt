-- Lists of questions that are asked alike: the same numbers, and what one asks holds where what the other asks does.
use Prim.Native.Nat.{ℕ}
use mathlib.Core.Path.{◌≡◌, ◌∙◌}
use mathlib.Core.List.{List, [], ◌∷◌, ◌++◌}
use mathlib.Core.Logic.{◌↔◌, inl, inr}
use Rattle.base.specs.Questions.{Question, AllYes, RefusedWith}
use Rattle.base.proofs.QuestionLaws.{refused_then, passed_both, passed_then}

abbrev pub Alike : List Question → List Question → Type 0
Alike [] [] = Unit
Alike [] (r ∷ rs) = ⊥
Alike (q ∷ qs) [] = ⊥
Alike (q ∷ qs) (r ∷ rs) = (q.number ≡ r.number) × (q.asks ↔ r.asks) × Alike qs rs

alike_yes : (qs rs : List Question) → Alike qs rs → AllYes qs → AllYes rs
alike_yes [] [] A a = a
alike_yes [] (r ∷ rs) A a = absurd A
alike_yes (q ∷ qs) [] A a = absurd A
alike_yes (q ∷ qs) (r ∷ rs) A a = (A.1.0 a.0, alike_yes qs rs A.2 a.1)

alike_refused : (qs rs : List Question) (n : ℕ) → Alike qs rs → RefusedWith qs n → RefusedWith rs n
alike_refused [] [] n A h = h
alike_refused [] (r ∷ rs) n A h = absurd A
alike_refused (q ∷ qs) [] n A h = absurd A
alike_refused (q ∷ qs) (r ∷ rs) n A (inl h) = inl (λ a. h.0 (A.1.1 a), h.1 ∙ A.0)
alike_refused (q ∷ qs) (r ∷ rs) n A (inr h) = inr (A.1.0 h.0, alike_refused qs rs n A.2 h.1)

-- a refusal by two lists, of which the first is passed, is one by the second
refused_behind : (qs rs : List Question) (n : ℕ) → AllYes qs → RefusedWith (qs ++ rs) n → RefusedWith rs n
refused_behind [] rs n a h = h
refused_behind (q ∷ qs) rs n a (inl h) = absurd (h.0 a.0)
refused_behind (q ∷ qs) rs n a (inr h) = refused_behind qs rs n a.1 h.1

-- what passes one list passes the other, and what is refused by one is refused by the other, with the same number
pub record AnsweredAlike (qs rs : List Question) : Type 0 where
  pub yes : AllYes qs → AllYes rs
  pub no : (n : ℕ) → RefusedWith qs n → RefusedWith rs n

-- behind questions that are passed
pub behind_passed : (ps os qs rs : List Question) → AllYes ps → AllYes os → Alike qs rs → AnsweredAlike (ps ++ qs) (os ++ rs)
behind_passed ps os qs rs a b A =
    record {
      yes = λ h. passed_both os rs b (alike_yes qs rs A (passed_then ps qs h));
      no = λ n h. refused_then os rs n b (alike_refused qs rs n A (refused_behind ps qs n a h));
    }
