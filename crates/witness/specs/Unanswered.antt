-- Why a question that shows a path is not answered, as a number.
use Rattle.std.specs.Prelude.{ℕ, ◌+◌, ◌*◌}
use Rattle.base.specs.Refusals.{question_number}
use Rattle.witness.specs.declared.unanswered.Unanswered.{Unanswered}
use Rattle.witness.specs.declared.unanswered.Unanswered.TheVariants.{Refused, NoRoom}

-- the number that C gets: 256m + 4 × number + 3; unused parts are 0
abbrev pub unanswered_number : Unanswered → ℕ
unanswered_number (Refused r) = 4 * question_number r + 3
unanswered_number (NoRoom m) = 256 * m + 4 * 12 + 3
