-- Laws of a list of questions: it is passed, or refused with one number, and never both.
use Prim.Native.Nat.{ℕ}
use mathlib.Core.Path.{◌≡◌, sym, ◌∙◌}
use mathlib.Core.List.{List, [], ◌∷◌, ◌++◌}
use mathlib.Core.Logic.{inl, inr}
use Rattle.base.specs.Questions.{Question, AllYes, RefusedWith}

-- what passes every question is refused by none
pub passed_not_refused : (qs : List Question) (n : ℕ) → AllYes qs → RefusedWith qs n → ⊥
passed_not_refused [] n a r = r
passed_not_refused (q ∷ qs) n a (inl r) = r.0 a.0
passed_not_refused (q ∷ qs) n a (inr r) = passed_not_refused qs n a.1 r.1

-- a refusal has one number
pub one_number : (qs : List Question) (n m : ℕ) → RefusedWith qs n → RefusedWith qs m → n ≡ m
one_number [] n m r s = absurd r
one_number (q ∷ qs) n m (inl r) (inl s) = r.1 ∙ sym s.1
one_number (q ∷ qs) n m (inl r) (inr s) = absurd (r.0 s.0)
one_number (q ∷ qs) n m (inr r) (inl s) = absurd (s.0 r.0)
one_number (q ∷ qs) n m (inr r) (inr s) = one_number qs n m r.1 s.1

-- a refusal by the first of two lists is one by both; after the first is passed, so is a refusal by the second
pub refused_first : (qs rs : List Question) (n : ℕ) → RefusedWith qs n → RefusedWith (qs ++ rs) n
refused_first [] rs n r = absurd r
refused_first (q ∷ qs) rs n (inl r) = inl r
refused_first (q ∷ qs) rs n (inr r) = inr (r.0, refused_first qs rs n r.1)

pub refused_then : (qs rs : List Question) (n : ℕ) → AllYes qs → RefusedWith rs n → RefusedWith (qs ++ rs) n
refused_then [] rs n a r = r
refused_then (q ∷ qs) rs n a r = inr (a.0, refused_then qs rs n a.1 r)

pub passed_both : (qs rs : List Question) → AllYes qs → AllYes rs → AllYes (qs ++ rs)
passed_both [] rs a b = b
passed_both (q ∷ qs) rs a b = (a.0, passed_both qs rs a.1 b)

pub passed_first : (qs rs : List Question) → AllYes (qs ++ rs) → AllYes qs
passed_first [] rs a = tt
passed_first (q ∷ qs) rs a = (a.0, passed_first qs rs a.1)

pub passed_then : (qs rs : List Question) → AllYes (qs ++ rs) → AllYes rs
passed_then [] rs a = a
passed_then (q ∷ qs) rs a = passed_then qs rs a.1
