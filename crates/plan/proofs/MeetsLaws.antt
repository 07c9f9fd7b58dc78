-- What a plan says of ρ and μ, the policy says.
use Prim.Native.Nat.{ℕ}
use mathlib.Core.List.{List}
use mathlib.Core.Path.{◌≡◌, refl}
use Rattle.policy_image.specs.declared.counts.Counts.{Counts}
use Rattle.policy_image.specs.Policy.{Policy}
use Rattle.context.specs.Inner.Places.{context_at_index, OfType}
use Rattle.goal_model.specs.Images.{meetsρμ}
use Rattle.plan.specs.Inner.Meets.{held_by}
use Rattle.plan.specs.Inner.Plan.{PolicyPlan}
use Rattle.plan.proofs.ContextLaws.{meets_at}

pub held_is : {p : Policy} {n : Counts} {plan : List ℕ} {o place : ℕ} → PolicyPlan p n plan → OfType n o place → held_by n plan o place ≡ meetsρμ p (context_at_index n place)
held_is P H = meets_at P H refl
