-- The two bare questions as one, by what is asked of the event's code.
use Rattle.std.specs.Prelude.{ℕ, Bool, List, Result}
use Rattle.base.specs.declared.refusals.Refusal.{Refusal}
use Rattle.base.specs.Questions.{AllYes}
use Rattle.context.specs.declared.Context.{Context}
use Rattle.context.specs.declared.Event.{Event}
use Rattle.context.specs.Inner.Coding.{event_code}
use Rattle.bare_questions.specs.Bare.{bare_questions, BareAnswer}

-- the answer is that to the truth b, which is what was answered of the event's code where every question is passed
abbrev pub AnswersBy : (ℕ → Bool → Type 0) → List ℕ → Context → Context → Event → Result Bool Refusal → Type 0
AnswersBy says s x y e r = (b : Bool) × (AllYes (bare_questions s x y e) → says (event_code e) b) × BareAnswer s x y e b r
