-- How a plan is filled: region after region, each above those that are there.
use Rattle.std.specs.Prelude.{ℕ, ◌+◌, ◌/◌, ◌≤◌, ◌<◌, ◌≡◌, Bool, ◌&&◌, ◌||◌, List, eqb, length, get_or}
use Rattle.base.specs.Bits.{bit}
use Rattle.base.specs.Ranges.{Within}
use Rattle.policy_image.specs.declared.counts.Counts.{Counts}
use Rattle.policy_image.specs.Policy.{Policy, policy_of}
use Rattle.policy_image.specs.Inner.Counting.{counting}
use Rattle.plan_index.specs.Inner.Counting.{is_counted}
use Rattle.plan_index.specs.Inner.Meaning.{AllowIndex}
use Rattle.plan.specs.Inner.Regions.{first_entries, block_entries, groups_start, roles_start, event_sets_start, alike_start, counted_start, first_start, type_special_start, leads_start, type_codes}
use Rattle.plan.specs.Inner.Entries.{first_at, key_at, type_special_at}
use Rattle.plan.specs.Inner.Plan.{OfferBlocks, SpecialOf, Grouped, Holding, AlikePlan, ruled, Leads, GoalPlan, Planned}

-- r has the bits of the mask, and bit q where yes
pub record WithIf (mask q : ℕ) (yes : Bool) (r : ℕ) : Type 0 where
  pub at : (i : ℕ) → bit r i ≡ (bit mask i || (yes && eqb q i))

-- the sizes of the lists of an index
pub record Lists (first keys writes reads : List ℕ) : Type 0 where
  pub first_size : length first ≡ first_entries
  pub keys_size : length keys ≡ block_entries
  pub writes_size : length writes ≡ block_entries
  pub reads_size : length reads ≡ block_entries

-- the blocks of the types end within the regions of entries
pub record Tops (types : ℕ) (plan : List ℕ) : Type 0 where
  pub at : (t : ℕ) → Within 1 types t → first_at plan (t + 1) ≤ block_entries

-- what is below a place is as it was
abbrev pub Kept : ℕ → List ℕ → List ℕ → Type 0
Kept place old plan = (i : ℕ) → i < place → get_or plan i 0 ≡ get_or old i 0

-- the groups are put into the list old
pub record GroupsPut (p : Policy) (old plan : List ℕ) : Type 0 where
  pub groups : Grouped p plan
  pub below : Kept groups_start old plan

-- .. what ρ and μ are read from
pub record HeldPut (p : Policy) (n : Counts) (old plan : List ℕ) : Type 0 where
  pub held : Holding p n plan
  pub below : Kept roles_start old plan

-- .. which permissions are alike
pub record AlikePut (old plan : List ℕ) : Type 0 where
  pub alike : AlikePlan plan
  pub below : Kept alike_start old plan

-- .. the part of the goal
pub record GoalPut (g : List ℕ) (n : Counts) (old plan : List ℕ) : Type 0 where
  pub goal : GoalPlan g n plan
  pub alike : AlikePlan plan
  pub below : Kept event_sets_start old plan

-- .. the blocks
pub record BlocksPut (p : Policy) (old plan : List ℕ) : Type 0 where
  pub blocks : OfferBlocks p plan
  pub below : Kept first_start old plan

-- .. those of the index in four lists, whichever allow records it is of
pub record BlocksOf (p : Policy) (first keys writes reads old plan : List ℕ) : Type 0 where
  pub at : (f : ℕ → Bool) → AllowIndex (counting f p) first keys writes reads → BlocksPut (counting f p) old plan

-- .. the special permissions of the block of each type
pub record TypeSpecialPut (types : ℕ) (old plan : List ℕ) : Type 0 where
  pub type_special : (t : ℕ) → Within 1 types t → SpecialOf old (first_at old t) (first_at old (t + 1)) (type_special_at plan t)
  pub below : Kept type_special_start old plan

-- the leads of every entry, where the groups are those of a policy
abbrev pub AllLeads : ℕ → List ℕ → List ℕ → Type 0
AllLeads types old plan = (p : Policy) → Grouped p old → (j : ℕ) → j < first_at old (types + 1) → key_at old j / type_codes < 32 → Leads p plan j

-- .. these leads
pub record LeadsPut (types : ℕ) (old plan : List ℕ) : Type 0 where
  pub leads : AllLeads types old plan
  pub below : Kept leads_start old plan

-- .. the part of the rules, for a set of allow records
pub record RulesPut (s counted : List ℕ) (n : Counts) (old plan : List ℕ) : Type 0 where
  pub planned : Planned s n plan
  pub same : ruled s plan ≡ counting (is_counted counted) (policy_of s)
  pub below : Kept counted_start old plan
