use native.Mathlib.Omega.{arith}
use Rattle.policy_image.specs.declared.kinds.Kind.TheVariants.{UserRole}
use Rattle.plan_tables.proofs.MeaningLaws.{users_mean}
use Rattle.plan_tables.proofs.SoundLaws.{gathers}
use Rattle.plan_tables.proofs.user_table.Goals as goal

pub gather-requires : goal.gather-requires
gather-requires c = let S = c.requires in gathers _ S UserRole 15 _ (omega arith) (λ op. S.range.users.high)

pub returns : goal.returns
returns c = users_mean _ _ _ c.gather.ensures
