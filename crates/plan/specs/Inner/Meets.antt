-- Whether a context meets ρ and μ, by the policy's part of a plan.
use Rattle.std.specs.Prelude.{ℕ, ◌-◌, Bool, not, List, eqb}
use Rattle.std.specs.Int.Bits.{bit_and}
use Rattle.policy_image.specs.declared.counts.Counts.{Counts}
use Rattle.context.specs.Inner.Places.{first_place}
use Rattle.plan.specs.Inner.Entries.{roles_at, holders_at}

-- whether the context at the place, of the type o, meets ρ and μ, by the plan: the roles of its type and the mask of its pair meet
abbrev pub held_by : Counts → List ℕ → ℕ → ℕ → Bool
held_by n plan o place = not (eqb (bit_and (roles_at plan o) (holders_at plan (place - first_place n o))) 0)
