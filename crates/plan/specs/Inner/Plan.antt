-- What a plan says of a policy and a goal: all that a search has to know of them. A plan is one list of numbers in regions (Regions.antt), in
-- three parts, each over those before it: what is made of the policy, of the goal or the two ends, and of the allow records that count.
use Rattle.std.specs.Prelude.{ℕ, ◌+◌, ◌*◌, ◌/◌, ◌%◌, ◌≤◌, ◌<◌, ◌≡◌, Bool, true, ◌&&◌, ◌||◌, List, ◌⊎◌, eqb, length}
use Rattle.std.specs.Int.Bits.{bit_and, bit_or}
use Rattle.base.specs.Bits.{bit}
use Rattle.base.specs.Ranges.{Within}
use Rattle.policy_image.specs.declared.counts.Counts.{Counts}
use Rattle.policy_image.specs.Layout.{counts_of}
use Rattle.policy_image.specs.Policy.{Policy, policy_of}
use Rattle.policy_image.specs.Inner.Counting.{counting}
use Rattle.policy_image.specs.OfKind.{some}
use Rattle.policy_check.specs.Inner.Sound.{Sound}
use Rattle.context.specs.declared.Event.{Event}
use Rattle.context.specs.Codes.{context_at, event_at, event_of, is_transition}
use Rattle.context.specs.Inner.Places.{Countable, pair_count, role_at, user_at}
use Rattle.relations.specs.Relations.{α, ρ, μ, role_change, write_like, read_like}
use Rattle.constraints.specs.Constraints.{constrains}
use Rattle.plan_index.specs.Inner.Codes.{key_code}
use Rattle.plan_index.specs.Inner.Index.{Ranged}
use Rattle.goal_image.specs.Goal.{Goal, goal_of}
use Rattle.goal_image.specs.Inner.Memberships.{ContextSets, EventSets}
use Rattle.goal_image.specs.Inner.Sound.{SoundGoal}
use Rattle.plan_tables.specs.Inner.Groups.{Together}
use Rattle.plan_tables.specs.Inner.Tables.{type_entries, user_entries}
use Rattle.plan.specs.Inner.Regions.{class_entries, role_entries, block_entries, plan_entries, type_codes}
use Rattle.plan.specs.Inner.Entries.{special_at, changes_at, first_at, key_at, writes_at, reads_at, type_special_at, groups_at, roles_at, holders_at, event_sets_at, type_sets_at, pair_sets_at, alike_at, counted_at, leads_at}
use Rattle.plan.specs.Inner.Sets.{Falls}
use Rattle.plan.specs.Inner.Named.{AllLinked}

-- s is an accepted policy, n are its counts, and its contexts can be numbered
pub record Ready (s : List ℕ) (n : Counts) : Type 0 where
  pub sound : Sound s
  pub same : n ≡ counts_of s
  pub countable : Countable n

-- counts whose types, and whose pairs of a role and a user, have room in a plan
pub record PlanCounts (n : Counts) : Type 0 where
  pub countable : Countable n
  pub some_type : 1 ≤ n.types
  pub types : n.types < type_entries
  pub roles : n.roles < role_entries
  pub users : n.users < user_entries
  pub classes : n.classes < class_entries

-- ---- the part of the policy
-- an event whose flow depends on more than types, ρ and μ: there is a constraint on it, or it is process transition
unfoldable pub special : Policy → Event → Bool
special p e = some p 8 (λ r. constrains r e) || is_transition e

-- the special permissions of each class, and by role that role and those to which it may change
pub record Tabled (p : Policy) (plan : List ℕ) : Type 0 where
  pub special_at_lem : (c q : ℕ) → c < class_entries → bit (special_at plan c) q ≡ special p (event_at c q)
  pub change : (r1 r2 : ℕ) → r1 < role_entries → bit (changes_at plan r1) r2 ≡ (eqb r1 r2 || role_change p r1 r2)

-- v has the role of the pair i alone, where its user may hold it, and else nothing
pub record HolderOf (p : Policy) (n : Counts) (i v : ℕ) : Type 0 where
  pub at : (r : ℕ) → bit v r ≡ (μ p (user_at n i) r && eqb (role_at n i) r)

-- by type the roles that may hold it, and by pair the role that its user may hold
pub record Holding (p : Policy) (n : Counts) (plan : List ℕ) : Type 0 where
  pub roles : (t r : ℕ) → t < type_entries → bit (roles_at plan t) r ≡ ρ p r t
  pub holders : (i : ℕ) → i < pair_count n → HolderOf p n i (holders_at plan i)

-- the permissions in the entry of an event have the same constraints as it
pub record Grouped (p : Policy) (plan : List ℕ) : Type 0 where
  pub sound : (c q i : ℕ) → c < 32 → q < 32 → i < 32 → bit (groups_at plan (32 * c + q)) i ≡ true → Together p c q i

-- what the plan says of a policy whose counts are n, apart from its allow records
pub record PolicyPlan (p : Policy) (n : Counts) (plan : List ℕ) : Type 0 where
  pub counts : PlanCounts n
  pub tables : Tabled p plan
  pub groups : Grouped p plan
  pub held : Holding p n plan

-- ---- the part of the goal
-- v has the σ sets that records give which name no type, to the contexts of the pair i
abbrev pub PairSets : Goal → Counts → ℕ → ℕ → Type 0
PairSets g n i v = ContextSets g (context_at 0 (role_at n i) (user_at n i)) v

-- by type and by pair the σ sets of records that name no more, and the lists of those that name a type together with a role or a user
pub record Sorting (g : Goal) (n : Counts) (plan : List ℕ) : Type 0 where
  pub types : (t : ℕ) → Within 1 n.types t → ContextSets g (context_at t 0 0) (type_sets_at plan t)
  pub pairs : (i : ℕ) → i < pair_count n → PairSets g n i (pair_sets_at plan i)
  pub lists : AllLinked g plan

-- what the plan says of the goal g, for contexts and events of a policy with the counts n
pub record GoalPlan (g : List ℕ) (n : Counts) (plan : List ℕ) : Type 0 where
  pub sound : SoundGoal g
  pub events : (e : ℕ) → 32 ≤ e → e < 32 * (n.classes + 1) → EventSets (goal_of g) (event_of e) (event_sets_at plan e)
  pub sets : Sorting (goal_of g) n plan

-- two events that a search cannot tell apart: in the same sets of the goal, by the plan, under the same constraints, and process
-- transition both or neither
pub record Alike (p : Policy) (plan : List ℕ) (e f : ℕ) : Type 0 where
  pub sets : event_sets_at plan e ≡ event_sets_at plan f
  pub constrained : (j : ℕ) → 1 ≤ j → j ≤ p.size → (p.rec j).kind ≡ 8 → constrains (p.rec j) (event_of e) ≡ constrains (p.rec j) (event_of f)
  pub transition : is_transition (event_of e) ≡ is_transition (event_of f)

-- the permissions in the entry of an event are like that event
pub record AlikePlan (plan : List ℕ) : Type 0 where
  pub at : (p : Policy) → Grouped p plan → (c q i : ℕ) → c < 32 → q < 32 → i < 32 → bit (alike_at plan (32 * c + q)) i ≡ true → Alike p plan (32 * c + q) (32 * c + i)

-- all that the part of the rules is put over, whatever goal the sets are of
pub record Prepared (s : List ℕ) (n : Counts) (plan : List ℕ) : Type 0 where
  pub policy : PolicyPlan (policy_of s) n plan
  pub alike : AlikePlan plan
  pub falls : Falls plan

-- ---- the part of the rules
-- the policy of which a plan speaks: that of the image, in which the allow records count that are in the plan's set
abbrev pub ruled : List ℕ → List ℕ → Policy
ruled s plan = counting (counted_at plan) (policy_of s)

-- an entry from lo to below hi has the key k
pub record EntryOf (plan : List ℕ) (lo hi k : ℕ) : Type 0 where
  pub place : ℕ
  pub low : lo ≤ place
  pub high : place < hi
  pub key : key_at plan place ≡ k

-- the block of the type t, an entry for each class and other type that α ties to it, in rising order: the permissions by which
-- t may write to the other type, and those by which that type may read from t
pub record OfferBlock (p : Policy) (t : ℕ) (plan : List ℕ) (lo hi : ℕ) : Type 0 where
  pub order : lo ≤ hi
  pub rising : (i j : ℕ) → lo ≤ i → i < j → j < hi → key_at plan i < key_at plan j
  pub ranged : (j : ℕ) → lo ≤ j → j < hi → Ranged p.counts.types (key_at plan j)
  pub writes : (j q : ℕ) → lo ≤ j → j < hi → q < 32
      → bit (writes_at plan j) q ≡ (α p t (key_at plan j % type_codes) (event_at (key_at plan j / type_codes) q) && write_like p (event_at (key_at plan j / type_codes) q))
  pub reads : (j q : ℕ) → lo ≤ j → j < hi → q < 32
      → bit (reads_at plan j) q ≡ (α p (key_at plan j % type_codes) t (event_at (key_at plan j / type_codes) q) && read_like p (event_at (key_at plan j / type_codes) q))
  pub whole : (c o q : ℕ) → c < 32 → o < type_codes → q < 32 → (α p t o (event_at c q) ≡ true) ⊎ (α p o t (event_at c q) ≡ true)
      → EntryOf plan lo hi (key_code c o)

-- the block of each type
pub record OfferBlocks (p : Policy) (plan : List ℕ) : Type 0 where
  pub blocks : (t : ℕ) → Within 1 p.counts.types t → OfferBlock p t plan (first_at plan t) (first_at plan (t + 1))
  pub tops : (t : ℕ) → Within 1 p.counts.types t → first_at plan (t + 1) ≤ block_entries

-- the permissions of entry j that are special for its class
abbrev pub specials_at : List ℕ → ℕ → ℕ
specials_at plan j = bit_and (bit_or (writes_at plan j) (reads_at plan j)) (special_at plan (key_at plan j / type_codes % 32))

-- r has the special permissions of the entries from lo to below hi
pub record SpecialOf (plan : List ℕ) (lo hi r : ℕ) : Type 0 where
  pub at : (j q : ℕ) → lo ≤ j → j < hi → bit (specials_at plan j) q ≡ true → bit r q ≡ true

-- of the permissions of class c in the mask, one that is among the leads stands for q: it is like q, and q or below it
pub record Leader (p : Policy) (plan : List ℕ) (c mask leads q : ℕ) : Type 0 where
  pub perm : ℕ
  pub low : perm ≤ q
  pub bears : bit mask perm ≡ true
  pub leading : bit leads perm ≡ true
  pub alike : Alike p plan (32 * c + perm) (32 * c + q)

-- the leads of entry j are some of its permissions, and for each of its permissions one of them stands that goes the same way
pub record Leads (p : Policy) (plan : List ℕ) (j : ℕ) : Type 0 where
  pub among : (q : ℕ) → bit (leads_at plan j) q ≡ true → bit (bit_or (writes_at plan j) (reads_at plan j)) q ≡ true
  pub writes : (q : ℕ) → q < 32 → bit (writes_at plan j) q ≡ true → Leader p plan (key_at plan j / type_codes) (writes_at plan j) (leads_at plan j) q
  pub reads : (q : ℕ) → q < 32 → bit (reads_at plan j) q ≡ true → Leader p plan (key_at plan j / type_codes) (reads_at plan j) (leads_at plan j) q

-- ---- all three
-- all that a search relies on, whatever goal the sets are of
pub record Planned (s : List ℕ) (n : Counts) (plan : List ℕ) : Type 0 where
  pub size : plan_entries ≤ length plan
  pub policy : PolicyPlan (ruled s plan) n plan
  pub index : OfferBlocks (ruled s plan) plan
  pub type_special : (t : ℕ) → Within 1 (policy_of s).counts.types t → SpecialOf plan (first_at plan t) (first_at plan (t + 1)) (type_special_at plan t)
  pub leads : (t j : ℕ) → Within 1 (policy_of s).counts.types t → first_at plan t ≤ j → j < first_at plan (t + 1) → Leads (ruled s plan) plan j
  pub falls : Falls plan
