-- Laws of refusals: a question's number tells which refusal it is, so a list of questions gives one.
use Prim.Native.Nat.{ℕ}
use mathlib.Core.Path.{◌≡◌, refl, sym, ap, ◌∙◌}
use mathlib.Core.List.{List, [], ◌∷◌}
use lib.ListN.{get_or}
use Rattle.base.specs.declared.refusals.Refusal.{Refusal}
use Rattle.base.specs.declared.refusals.Refusal.TheVariants.{PolicyLength, PolicyCounts, PolicyLinks, PolicyChains}
use Rattle.base.specs.declared.refusals.Refusal.TheVariants.{PolicyFields, PolicyNodes, PolicySources}
use Rattle.base.specs.declared.refusals.Refusal.TheVariants.{GoalLength, GoalLegs, GoalChains, GoalFields}
use Rattle.base.specs.declared.refusals.Refusal.TheVariants.{WorkSlices, ContextsAndEvent, TooManyRecords, OutputSlice}
use Rattle.base.specs.Questions.{Question}
use Rattle.base.specs.Refusals.{question_number, RefusedFor}
use Rattle.base.proofs.QuestionLaws.{one_number}

-- the refusals in the order of their numbers, with others at 0 and 12
abbrev by_number : List Refusal
by_number =
    PolicyLength ∷ PolicyLength ∷ PolicyCounts ∷ PolicyLinks ∷ PolicyChains ∷ PolicyFields ∷ PolicyNodes ∷ GoalLength ∷ GoalLegs
    ∷ GoalChains ∷ GoalFields ∷ WorkSlices ∷ PolicyLength ∷ ContextsAndEvent ∷ PolicySources ∷ TooManyRecords ∷ OutputSlice ∷ []

abbrev refusal_at : ℕ → Refusal
refusal_at n = get_or by_number n PolicyLength

refusal_at-number : (r : Refusal) → refusal_at (question_number r) ≡ r
refusal_at-number PolicyLength = refl
refusal_at-number PolicyCounts = refl
refusal_at-number PolicyLinks = refl
refusal_at-number PolicyChains = refl
refusal_at-number PolicyFields = refl
refusal_at-number PolicyNodes = refl
refusal_at-number GoalLength = refl
refusal_at-number GoalLegs = refl
refusal_at-number GoalChains = refl
refusal_at-number GoalFields = refl
refusal_at-number WorkSlices = refl
refusal_at-number ContextsAndEvent = refl
refusal_at-number PolicySources = refl
refusal_at-number TooManyRecords = refl
refusal_at-number OutputSlice = refl

pub same_number : (q r : Refusal) → question_number q ≡ question_number r → q ≡ r
same_number q r e = sym (refusal_at-number q) ∙ ap refusal_at e ∙ refusal_at-number r

-- two refusals for one list of questions are the same
pub one_refusal : (qs : List Question) (q r : Refusal) → RefusedFor qs q → RefusedFor qs r → q ≡ r
one_refusal qs q r h k = same_number q r (one_number qs (question_number q) (question_number r) h k)
