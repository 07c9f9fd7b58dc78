-- What is asked of the constraints, and what is remembered of it.
use Rattle.std.specs.Prelude.{ℕ, ◌+◌, ◌*◌, ◌≤◌, ◌<◌, ◌≡◌, Bool, cond, List, length, get_or}
use Rattle.base.specs.Bits.{bit}
use Rattle.policy_image.specs.declared.counts.Counts.{Counts}
use Rattle.policy_image.specs.Policy.{Policy}
use Rattle.context.specs.declared.Context.{Context}
use Rattle.context.specs.Codes.{context_at, event_of}
use Rattle.context.specs.Inner.Places.{pair_count, role_at, user_at}
use Rattle.constraints.specs.Constraints.{constraints_hold}
use Rattle.constraints.specs.Inner.Words.{LeavesOf}
use Rattle.search_constraints.specs.declared.asked.Ask.{Ask}
use Rattle.search_constraints.specs.Inner.Pairs.{RowsOf, told_of}

abbrev pub slot_count : ℕ
slot_count = 1024

-- x's side, and the way, by whether x acts
abbrev pub side_of : Bool → ℕ
side_of acts = cond acts 0 1

abbrev pub way_of : Bool → ℕ
way_of acts = cond acts 1 0

-- the numbers of what is asked are small
pub record Askable (a : Ask) : Type 0 where
  pub event : a.event < 1024
  pub type : a.x.ty < 256
  pub role : a.x.role < 16
  pub user : a.x.user < 16
  pub other : a.ty < 256
  pub word : a.word < 4

-- the context of the j-th of the 64 pairs, and which of the two acts
abbrev pub pair_at : Counts → ℕ → ℕ → Context
pair_at n o i = context_at o (role_at n i) (user_at n i)

abbrev pub target_at : Counts → Ask → ℕ → Context
target_at n a j = pair_at n a.ty (64 * a.word + j)

abbrev pub acting_at : Counts → Ask → ℕ → Context
acting_at n a j = cond a.acts a.x (target_at n a j)

abbrev pub acted_at : Counts → Ask → ℕ → Context
acted_at n a j = cond a.acts (target_at n a j) a.x

-- l are the leaves of as many of the pairs as there are, where the rows are those of the counts n
pub record AskLeaves (rows : List ℕ) (a : Ask) (l : List ℕ) : Type 0 where
  pub of : (n : Counts) → RowsOf n rows → (m : ℕ) → m ≤ 64 → 64 * a.word + m ≤ pair_count n → LeavesOf l m (acting_at n a) (acted_at n a)

-- r says of which pairs all constraints on the event hold
pub record AskedWord (p : Policy) (a : Ask) (r : ℕ) : Type 0 where
  pub at : (j : ℕ) → j < 64 → 64 * a.word + j < pair_count p.counts → bit r j ≡ constraints_hold p (event_of a.event) (acting_at p.counts a j) (acted_at p.counts a j)

-- what the answer depends on
abbrev pub ask_key : List ℕ → Ask → ℕ
ask_key marks a =
    1024 * (262144 * (8 * a.event + 4 * way_of a.acts + a.word) + (512 * told_of marks 0 a.x.ty + told_of marks 0 a.ty))
    + (32 * told_of marks 256 a.x.role + told_of marks 512 a.x.user) + 1

-- what is remembered: by slot a key, and the word of whatever has that key
pub record AskedBefore (p : Policy) (marks memo : List ℕ) : Type 0 where
  pub size : length memo ≡ 2 * slot_count
  pub at : (i : ℕ) (a : Ask) → i < slot_count → Askable a → get_or memo i 0 ≡ ask_key marks a → AskedWord p a (get_or memo (slot_count + i) 0)
