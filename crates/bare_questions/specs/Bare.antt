-- The bare questions (paper 01, "A bare authorization or flow question passes 1 to 6, then: are both contexts, class (1 to C)
-- and permission (0 to 31) in range? 13. Then it answers yes or no.") and what is promised of their answers, for all bytes
-- and all arguments. Paper 02, b, has 14 among the questions of the policy, "before any goal or question is read".
use Rattle.std.specs.Prelude.{ℕ, ◌+◌, ◌*◌, Bool, true, false, List, [], ◌∷◌, ◌++◌, ◌≡◌, Result, Ok, Err}
use Rattle.base.specs.Questions.{Question, ask, AllYes}
use Rattle.base.specs.declared.refusals.Refusal.{Refusal}
use Rattle.base.specs.Refusals.{question_number, RefusedFor}
use Rattle.policy_image.specs.declared.counts.Counts.{Counts}
use Rattle.policy_image.specs.Layout.{counts_of}
use Rattle.policy_image.specs.Policy.{policy_of}
use Rattle.policy_check.specs.Questions.{policy_questions}
use Rattle.context.specs.declared.Context.{Context}
use Rattle.context.specs.declared.Event.{Event}
use Rattle.context.specs.Ranges.{ContextInRange, EventInRange}
use Rattle.access.specs.Authorization.{authorized, flow}

-- "are both contexts, class (1 to C) and permission (0 to 31) in range?"
pub record AskedInRange (n : Counts) (x y : Context) (e : Event) : Type 0 where
  pub first : ContextInRange n x
  pub second : ContextInRange n y
  pub event : EventInRange n e

-- the policy's questions, then 13
abbrev pub bare_questions : List ℕ → Context → Context → Event → List Question
bare_questions s x y e = policy_questions s ++ (ask 13 (AskedInRange (counts_of s) x y e) ∷ [])

-- what each case of the answer says, where `holds` is the truth of what was asked: that truth where every question is passed, else
-- refused for the first that is not
abbrev pub BareAnswer : List ℕ → Context → Context → Event → Bool → Result Bool Refusal → Type 0
BareAnswer s x y e holds (Ok answer) = AllYes (bare_questions s x y e) × (holds ≡ answer)
BareAnswer s x y e holds (Err r) = RefusedFor (bare_questions s x y e) r

-- the authorization question: is e authorized from x on y?
abbrev pub AuthorizationAnswer : List ℕ → Context → Context → Event → Result Bool Refusal → Type 0
AuthorizationAnswer s x y e r = BareAnswer s x y e (authorized (policy_of s) e x y) r

-- the flow question: does e make flow from x to y?
abbrev pub FlowAnswer : List ℕ → Context → Context → Event → Result Bool Refusal → Type 0
FlowAnswer s x y e r = BareAnswer s x y e (flow (policy_of s) e x y) r

-- the number that C gets for an answer: 4 × number + answer, with 0 no, 1 yes, 3 refused
abbrev pub number_of : Result Bool Refusal → ℕ
number_of (Ok false) = 0
number_of (Ok true) = 1
number_of (Err r) = 4 * question_number r + 3
