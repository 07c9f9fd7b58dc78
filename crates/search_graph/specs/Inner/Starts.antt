-- Types that have no context to start from, by the plan's numbers.
use Rattle.std.specs.Prelude.{◌≡◌, Bool, false, List, ◌⊎◌, ℕ, ◌<◌}
use Rattle.base.specs.Bits.{bit}
use Rattle.policy_image.specs.declared.counts.Counts.{Counts}
use Rattle.context.specs.Inner.Places.{context_at_index, pair_count, OfType}
use Rattle.plan.specs.Inner.Entries.{pair_sets_at}
use Rattle.plan.specs.Inner.Sets.{sets_of}
use Rattle.plan.specs.Inner.Meets.{held_by}

-- where r is false no pair of a role and a user is in σ0 with every type
pub record PairsStart (n : Counts) (plan : List ℕ) (r : Bool) : Type 0 where
  pub none : r ≡ false → (i : ℕ) → i < pair_count n → bit (pair_sets_at plan i) 0 ≡ false

-- each context of the type o is outside σ0, or does not meet ρ and μ
pub record NoStart (n : Counts) (plan : List ℕ) (o : ℕ) : Type 0 where
  pub at : (y : ℕ) → OfType n o y → (bit (sets_of n plan (context_at_index n y)) 0 ≡ false) ⊎ (held_by n plan o y ≡ false)
