use native.Mathlib.Omega.{arith}
use Rattle.policy_image.specs.declared.kinds.Kind.TheVariants.{RoleType}
use Rattle.plan_tables.proofs.MeaningLaws.{roles_mean}
use Rattle.plan_tables.proofs.SoundLaws.{gathers}
use Rattle.plan_tables.proofs.role_table.Goals as goal

pub gather-requires : goal.gather-requires
gather-requires c = let S = c.requires in gathers _ S RoleType 255 _ (omega arith) (λ op. S.range.types.high)

pub returns : goal.returns
returns c =
    roles_mean _ _ _ _ _ c.domain_table-domains.ensures c.object_roles-roles.ensures c.gather.ensures
