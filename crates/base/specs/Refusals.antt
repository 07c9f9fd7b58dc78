-- Refusals (paper 01, "Questions in order, with the number for 'no'"): each names the question whose answer is no.
use Rattle.std.specs.Prelude.{ℕ, List}
use Rattle.base.specs.declared.refusals.Refusal.{Refusal}
use Rattle.base.specs.declared.refusals.Refusal.TheVariants.{PolicyLength, PolicyCounts, PolicyLinks, PolicyChains}
use Rattle.base.specs.declared.refusals.Refusal.TheVariants.{PolicyFields, PolicyNodes, PolicySources}
use Rattle.base.specs.declared.refusals.Refusal.TheVariants.{GoalLength, GoalLegs, GoalChains, GoalFields}
use Rattle.base.specs.declared.refusals.Refusal.TheVariants.{WorkSlices, ContextsAndEvent, TooManyRecords, OutputSlice}
use Rattle.base.specs.Questions.{Question, RefusedWith}

-- the number of the question; 12, room for a path, refuses nothing
abbrev pub question_number : Refusal → ℕ
question_number PolicyLength = 1
question_number PolicyCounts = 2
question_number PolicyLinks = 3
question_number PolicyChains = 4
question_number PolicyFields = 5
question_number PolicyNodes = 6
question_number GoalLength = 7
question_number GoalLegs = 8
question_number GoalChains = 9
question_number GoalFields = 10
question_number WorkSlices = 11
question_number ContextsAndEvent = 13
question_number PolicySources = 14
question_number TooManyRecords = 15
question_number OutputSlice = 16

-- r names the first question whose answer is no
abbrev pub RefusedFor : List Question → Refusal → Type 0
RefusedFor questions r = RefusedWith questions (question_number r)
