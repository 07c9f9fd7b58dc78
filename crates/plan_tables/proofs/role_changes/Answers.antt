use native.Mathlib.Omega.{arith}
use Rattle.policy_image.specs.declared.kinds.Kind.TheVariants.{RoleChange}
use Rattle.plan_tables.proofs.MeaningLaws.{changes_mean}
use Rattle.plan_tables.proofs.SoundLaws.{gathers}
use Rattle.plan_tables.proofs.role_changes.Goals as goal

pub gather-requires : goal.gather-requires
gather-requires c = let S = c.requires in gathers _ S RoleChange 15 _ (omega arith) (λ op. S.range.roles.high)

pub returns : goal.returns
returns c = changes_mean _ _ _ _ c.own_roles-changes.ensures c.gather.ensures
