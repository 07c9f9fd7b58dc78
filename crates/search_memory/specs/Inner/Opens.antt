-- Which contexts of a type are left to enter: sets of pairs of a role and a user, by type and by what an event keeps of a state.
use Rattle.std.specs.Prelude.{◌≡◌, Bool, true, not, ◌&&◌, List, ◌⊎◌, ℕ, ◌+◌, ◌-◌, ◌*◌, ◌/◌, ◌%◌, ◌<◌, eqb, ltb, length, get_or}
use Rattle.std.specs.Int.Bits.{bit_and}
use Rattle.base.specs.Bits.{bit}
use Rattle.base.specs.Inner.Masks.{Without}
use Rattle.policy_image.specs.declared.counts.Counts.{Counts}
use Rattle.context.specs.Inner.Places.{pair_count, first_place}
use Rattle.plan.specs.Inner.Entries.{roles_at, holders_at}
use Rattle.search_graph.specs.declared.task.Task.{Task}
use Rattle.search_graph.specs.Inner.Nodes.{place_of}
use Rattle.search_graph.specs.Inner.Tasks.{states_in, type_of}

abbrev pub open_slots : ℕ
open_slots = 1024

abbrev pub open_entries : ℕ
open_entries = 5 * open_slots

-- the slot of a type and of what is kept, and their key
abbrev pub slot_of : ℕ → ℕ → ℕ → ℕ
slot_of types o k = (k * types + o) % open_slots

abbrev pub open_key : ℕ → ℕ → ℕ
open_key o k = 64 * o + k + 1

-- where a slot's word w stands, and whether its pair j is left
abbrev pub open_word : ℕ → ℕ → ℕ
open_word i w = open_slots + 4 * i + w

abbrev pub open_at : List ℕ → ℕ → ℕ → Bool
open_at opens i j = bit (get_or opens (open_word i (j / 64)) 0) (j % 64)

-- whether pair i meets ρ and μ with the type o, by the plan
abbrev pub pair_held : List ℕ → ℕ → ℕ → Bool
pair_held plan o i = not (eqb (bit_and (roles_at plan o) (holders_at plan i)) 0)

pub record HeldWord (n : Counts) (plan : List ℕ) (o w r : ℕ) : Type 0 where
  pub at : (j : ℕ) → j < 64 → bit r j ≡ (ltb (64 * w + j) (pair_count n) && pair_held plan o (64 * w + j))

-- slot i is as it was
pub record SameSlot (old new : List ℕ) (i : ℕ) : Type 0 where
  pub key : get_or new i 0 ≡ get_or old i 0
  pub words : (w : ℕ) → w < 4 → get_or new (open_word i w) 0 ≡ get_or old (open_word i w) 0

-- the slot of the type o and of k has their key; it has what it had, or all that meet ρ and μ; and r has its words
pub record SlotOpened (n : Counts) (plan old new : List ℕ) (o k : ℕ) (r : List ℕ) : Type 0 where
  pub size : length new ≡ open_entries
  pub key : get_or new (slot_of n.types o k) 0 ≡ open_key o k
  pub words : (w : ℕ) → w < 4 → get_or r w 0 ≡ get_or new (open_word (slot_of n.types o k) w) 0
  pub others : (i : ℕ) → i < open_slots → (i ≡ slot_of n.types o k → ⊥) → SameSlot old new i
  pub here : SameSlot old new (slot_of n.types o k) ⊎ ((w : ℕ) → w < 4 → HeldWord n plan o w (get_or new (open_word (slot_of n.types o k) w) 0))

-- the pairs are taken out of the slot of the type o and of k, and r says that none is left
pub record PairsTaken (n : Counts) (old new : List ℕ) (o k : ℕ) (pairs : List ℕ) (r : Bool) : Type 0 where
  pub size : length new ≡ open_entries
  pub key : get_or new (slot_of n.types o k) 0 ≡ get_or old (slot_of n.types o k) 0
  pub words : (w : ℕ) → w < 4 → Without (get_or old (open_word (slot_of n.types o k) w) 0) (get_or pairs w 0) (get_or new (open_word (slot_of n.types o k) w) 0)
  pub others : (i : ℕ) → i < open_slots → (i ≡ slot_of n.types o k → ⊥) → SameSlot old new i
  pub none : r ≡ true → (w : ℕ) → w < 4 → get_or new (open_word (slot_of n.types o k) w) 0 ≡ 0

-- the pair of a node's context
abbrev pub node_pair : Task → ℕ → ℕ
node_pair t w = place_of (states_in t) w - first_place t.counts (type_of t w)
