-- What a plan says of two contexts, where a question has these and no goal: a search then goes from the first to the second.
use Rattle.std.specs.Prelude.{ℕ, ◌<◌, ◌≡◌, true, false, List}
use Rattle.base.specs.Bits.{bit}
use Rattle.policy_image.specs.declared.counts.Counts.{Counts}
use Rattle.context.specs.declared.Context.{Context}
use Rattle.context.specs.Ranges.{ContextInRange}
use Rattle.goal_image.specs.Goal.{σChain, σeChain}
use Rattle.plan.specs.Inner.Regions.{event_entries, event_sets_start}
use Rattle.plan.specs.Inner.Entries.{event_sets_at}
use Rattle.plan.specs.Inner.Sets.{Falls, sets_of}
use Rattle.plan.specs.Inner.Plan.{AlikePlan}
use Rattle.plan.specs.Inner.Put.{Kept}

-- of the contexts in range, the set h has x alone
pub record OnlyIn (n : Counts) (plan : List ℕ) (h : ℕ) (x : Context) : Type 0 where
  pub has : bit (sets_of n plan x) h ≡ true
  pub only : (z : Context) → ContextInRange n z → bit (sets_of n plan z) h ≡ true → z ≡ x

-- what the plan says of the contexts x and y of a policy with the counts n: σ0 has x alone, σ1 has y alone, and there are no exceptions and no
-- sets of events
pub record EndsPlan (x y : Context) (n : Counts) (plan : List ℕ) : Type 0 where
  pub from : OnlyIn n plan (σChain 0) x
  pub to : OnlyIn n plan (σChain 1) y
  pub free : (z : Context) → ContextInRange n z → bit (sets_of n plan z) σeChain ≡ false
  pub events : (e : ℕ) → e < event_entries → event_sets_at plan e ≡ 0
  pub falls : Falls plan

-- it is put into the list old
pub record EndsPut (x y : Context) (n : Counts) (old plan : List ℕ) : Type 0 where
  pub ends : EndsPlan x y n plan
  pub alike : AlikePlan plan
  pub below : Kept event_sets_start old plan
