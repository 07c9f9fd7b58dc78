-- Sets of pairs of a role and a user, by number, as four words of 64 pairs: to which contexts of a type a step leads.
use Rattle.std.specs.Prelude.{ℕ, ◌+◌, ◌*◌, ◌/◌, ◌%◌, ◌≤◌, ◌<◌, Bool, true, false, ◌&&◌, cond, List, ◌⊎◌, ◌≡◌, length, get_or, Option, Some, None}
use Rattle.base.specs.Bits.{bit}
use Rattle.policy_image.specs.declared.counts.Counts.{Counts}
use Rattle.policy_image.specs.Policy.{Policy, policy_of}
use Rattle.policy_check.specs.Inner.Sound.{Sound}
use Rattle.context.specs.declared.Context.{Context}
use Rattle.context.specs.Codes.{event_of}
use Rattle.context.specs.Inner.Places.{pair_count}
use Rattle.constraints.specs.Constraints.{constraints_hold}
use Rattle.access.specs.Authorization.{role_rule, flow}
use Rattle.goal_model.specs.Images.{meetsρμ}
use Rattle.plan.specs.Inner.Regions.{event_entries, plan_entries}
use Rattle.plan.specs.Inner.Entries.{changes_at, groups_at}
use Rattle.plan.specs.Inner.Plan.{Tabled, Grouped, ruled}
use Rattle.search_constraints.specs.declared.asked.Ask.{Ask}
use Rattle.search_constraints.specs.Inner.Pairs.{RowsOf, Marked}
use Rattle.search_constraints.specs.Inner.Asked.{pair_at, acting_at, acted_at, AskedBefore}

abbrev pub pairs_end : ℕ
pairs_end = 256

-- whether pair k is in the set
abbrev pub in_pairs : List ℕ → ℕ → Bool
in_pairs l k = bit (get_or l (k / 64) 0) (k % 64)

-- what is read where constraints are asked: the part of a plan, the words of pairs, the marks, and what was asked before
pub record Asking (s plan rows marks memo : List ℕ) : Type 0 where
  pub sound : Sound s
  pub size : plan_entries ≤ length plan
  pub tables : Tabled (ruled s plan) plan
  pub groups : Grouped (ruled s plan) plan
  pub words : RowsOf (policy_of s).counts rows
  pub marked : Marked (policy_of s) marks
  pub before : AskedBefore (policy_of s) marks memo

-- r is the event e, or a permission in e's group
pub record InGroup (plan : List ℕ) (e r : ℕ) : Type 0 where
  pub perm : ℕ
  pub small : perm < 32
  pub has : bit (groups_at plan e) perm ≡ true
  pub is : r ≡ 32 * (e / 32) + perm

pub record LikeEvent (plan : List ℕ) (e r : ℕ) : Type 0 where
  pub few : r < event_entries
  pub like : (r ≡ e) ⊎ InGroup plan e r

-- whether one role may change to the other, where x's role is r
abbrev pub changes_to : List ℕ → Bool → ℕ → ℕ → Bool
changes_to plan acts r b = cond acts (bit (changes_at plan r) b) (bit (changes_at plan b) r)

-- of which of the pairs asked for the role rule holds, whatever policy the plan is of
pub record RuleWord (plan rows : List ℕ) (a : Ask) (r : ℕ) : Type 0 where
  pub at : (p : Policy) → Tabled p plan → RowsOf p.counts rows → p.counts.roles ≤ 15 → (j : ℕ) → j < 64 → 64 * a.word + j < pair_count p.counts
      → bit r j ≡ role_rule p (event_of a.event) (acting_at p.counts a j) (acted_at p.counts a j)

-- of which the constraints on the event hold too, where it may be
pub record WayWord (p : Policy) (may : Bool) (a : Ask) (r : ℕ) : Type 0 where
  pub at : (j : ℕ) → j < 64 → 64 * a.word + j < pair_count p.counts
      → bit r j ≡ (may && (constraints_hold p (event_of a.event) (acting_at p.counts a j) (acted_at p.counts a j) && role_rule p (event_of a.event) (acting_at p.counts a j) (acted_at p.counts a j)))

-- to which of 64 pairs of the type o the event e flows from x, of those that meet ρ and μ
pub record StepWord (p : Policy) (x : Context) (e o w r : ℕ) : Type 0 where
  pub at : (j : ℕ) → j < 64 → 64 * w + j < pair_count p.counts → meetsρμ p (pair_at p.counts o (64 * w + j)) ≡ true
      → bit r j ≡ flow p (event_of e) x (pair_at p.counts o (64 * w + j))

-- .. of the pairs in a set, by the words below w; n are the policy's counts
pub record StepPairs (p : Policy) (n : Counts) (x : Context) (e o : ℕ) (set r : List ℕ) (w : ℕ) : Type 0 where
  pub size : length r ≡ 4
  pub among : (k : ℕ) → k < pairs_end → in_pairs r k ≡ true → in_pairs set k ≡ true
  pub at : (k : ℕ) → k < 64 * w → k < pair_count n → meetsρμ p (pair_at n o k) ≡ true → in_pairs r k ≡ (in_pairs set k && flow p (event_of e) x (pair_at n o k))

-- r is the first pair of the set from a pair on, of those before the end; where there is none it is above them
pub record NextPair (set : List ℕ) (from end r : ℕ) : Type 0 where
  pub low : from ≤ r
  pub high : r ≤ pairs_end
  pub has : r < pairs_end → in_pairs set r ≡ true
  pub none : (k : ℕ) → from ≤ k → k < end → k < r → in_pairs set k ≡ false

-- the first pair of the set from a pair on is given, if there is one, and the next is looked for from t on
abbrev pub PairGiven : List ℕ → ℕ → ℕ → Option ℕ → ℕ → Type 0
PairGiven set from end None t = NextPair set from end pairs_end
PairGiven set from end (Some k) t = NextPair set from end k × (k < pairs_end) × (t ≡ k + 1)
