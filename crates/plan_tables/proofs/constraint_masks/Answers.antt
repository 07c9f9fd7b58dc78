use native.Mathlib.Omega.{arith}
use Rattle.policy_image.specs.declared.kinds.Kind.TheVariants.{Constraint}
use Rattle.plan_tables.proofs.MeaningLaws.{constraint_means}
use Rattle.plan_tables.proofs.SoundLaws.{gathers}
use Rattle.plan_tables.proofs.constraint_masks.Goals as goal

pub gather-requires : goal.gather-requires
gather-requires c = let S = c.requires in gathers _ S Constraint 31 _ (omega arith) (λ op. S.range.classes.high)

pub returns : goal.returns
returns c = constraint_means _ _ 32 _ c.gather.ensures
