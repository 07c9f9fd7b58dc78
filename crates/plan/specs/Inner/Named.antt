-- The records of a goal that name a type together with a role or a user, and the lists that a plan has of them.
use Rattle.std.specs.Prelude.{ℕ, suc, ◌≤◌, ◌<◌, ◌≡◌, true, List, get_or}
use Rattle.base.specs.Bits.{bit}
use Rattle.base.specs.Chain.{OnChain}
use Rattle.context.specs.declared.Context.{Context}
use Rattle.goal_image.specs.declared.records.ContextRecord.{ContextRecord}
use Rattle.goal_image.specs.Goal.{Goal, goal_links, is_context_chain}
use Rattle.goal_image.specs.Sets.{matches_context}
use Rattle.goal_image.specs.Inner.Memberships.{RecordSets}
use Rattle.plan_tables.specs.Inner.Tables.{type_entries}
use Rattle.plan.specs.Inner.Regions.{record_entries, named_start}
use Rattle.plan.specs.Inner.Entries.{named_at, link_at, marks_at, record_role_at, record_user_at}
use Rattle.plan.specs.Inner.Sets.{Falls}

-- the record names a type of a plan, and a role or a user with it
pub record NamesBoth (r : ContextRecord) : Type 0 where
  pub some_type : 1 ≤ r.ty
  pub few : r.ty < type_entries
  pub more : r.role ≡ 0 → r.user ≡ 0 → ⊥

-- record k is on a σ chain, and names the type t and a role or a user with it
pub record Named (g : Goal) (t k : ℕ) : Type 0 where
  pub low : 1 ≤ k
  pub high : k ≤ g.size
  pub type : (g.context k).ty ≡ t
  pub both : NamesBoth (g.context k)
  pub marked : RecordSets g k 0 → ⊥

-- of the numbers from 1 to below a with K, b is the last, or 0 where there is none
pub record Last (K : ℕ → Type 0) (a b : ℕ) : Type 0 where
  pub low : b < a
  pub is : (b ≡ 0 → ⊥) → K b
  pub none : (j : ℕ) → b < j → j < a → K j → ⊥

-- the σ chains that record k is on, its role and its user
pub record Noted (g : Goal) (plan : List ℕ) (k : ℕ) : Type 0 where
  pub marks : RecordSets g k (marks_at plan k)
  pub role : record_role_at plan k ≡ (g.context k).role
  pub user : record_user_at plan k ≡ (g.context k).user

-- record k is as it was
pub record SameRecord (old plan : List ℕ) (k : ℕ) : Type 0 where
  pub link : link_at plan k ≡ link_at old k
  pub marks : marks_at plan k ≡ marks_at old k
  pub role : record_role_at plan k ≡ record_role_at old k
  pub user : record_user_at plan k ≡ record_user_at old k

-- a record that names what x does, on the σ chains of the mask m, is put as record k before the list of its type; the other heads and
-- records, and what is below, are as they were
pub record RecordPut (k : ℕ) (x : Context) (m : ℕ) (old plan : List ℕ) : Type 0 where
  pub head : named_at plan x.ty ≡ k
  pub link : link_at plan k ≡ named_at old x.ty
  pub marks : marks_at plan k ≡ m
  pub role : record_role_at plan k ≡ x.role
  pub user : record_user_at plan k ≡ x.user
  pub heads : (t : ℕ) → t < type_entries → (t ≡ x.ty → ⊥) → named_at plan t ≡ named_at old t
  pub others : (j : ℕ) → j < record_entries → (j ≡ k → ⊥) → SameRecord old plan j
  pub below : (i : ℕ) → i < named_start → get_or plan i 0 ≡ get_or old i 0

-- the lists of the types have the records below a, the last first
pub record Links (g : Goal) (plan : List ℕ) (a : ℕ) : Type 0 where
  pub heads : (t : ℕ) → t < type_entries → Last (Named g t) a (named_at plan t)
  pub links : (t k : ℕ) → k < a → Named g t k → Last (Named g t) k (link_at plan k)
  pub noted : (t k : ℕ) → k < a → Named g t k → Noted g plan k
  pub falls : Falls plan

abbrev pub AllLinked : Goal → List ℕ → Type 0
AllLinked g plan = Links g plan (suc g.size)

-- they are put into the list old, and what is below is as it was
pub record Linking (g : Goal) (old plan : List ℕ) (a : ℕ) : Type 0 where
  pub lists : Links g plan a
  pub below : (i : ℕ) → i < named_start → get_or plan i 0 ≡ get_or old i 0

abbrev pub LinksPut : Goal → List ℕ → List ℕ → Type 0
LinksPut g old plan = Linking g old plan (suc g.size)

-- a record of chain h that names the type of x and more matches x
pub record NamedIn (g : Goal) (x : Context) (h : ℕ) : Type 0 where
  pub record_at : ℕ
  pub named : Named g x.ty record_at
  pub on : OnChain (goal_links g) h record_at
  pub matches : matches_context (g.context record_at) x ≡ true

-- m has the σ chains of such records
pub record NamedSets (g : Goal) (x : Context) (m : ℕ) : Type 0 where
  pub only : (h : ℕ) → bit m h ≡ true → NamedIn g x h × (is_context_chain h ≡ true)
  pub all : (h : ℕ) → is_context_chain h ≡ true → NamedIn g x h → bit m h ≡ true
