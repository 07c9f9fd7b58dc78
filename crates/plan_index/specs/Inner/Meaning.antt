-- What the index says of a policy: all that a search has to know of it.
use Rattle.std.specs.Prelude.{◌≡◌, Bool, true, List, ℕ, ◌+◌, ◌≤◌, length, get_or}
use Rattle.base.specs.Ranges.{Within}
use Rattle.policy_image.specs.Policy.{Policy}
use Rattle.context.specs.declared.Event.{Event}
use Rattle.context.specs.Codes.{event_at}
use Rattle.relations.specs.Relations.{α}
use Rattle.plan_index.specs.Inner.Index.{Has, Ranged, RisingKeys, MasksShow}

-- the block of the type t by a relation A, an entry for each class and other type in rising order: `writes` has all that A lets t do
-- to the other, `reads` all that A lets the other do to t, for each class below 32, type below 4,096 and permission below 32
pub record BlockOf (A : ℕ → ℕ → Event → Bool) (p : Policy) (t : ℕ) (keys ws rs : List ℕ) (lo hi : ℕ) : Type 0 where
  pub order : lo ≤ hi
  pub sorted : RisingKeys keys lo hi
  pub ranged : (k : ℕ) → Has keys lo hi k → Ranged p.counts.types k
  pub writes : MasksShow (λ c o q. A t o (event_at c q) ≡ true) keys ws lo hi
  pub reads : MasksShow (λ c o q. A o t (event_at c q) ≡ true) keys rs lo hi

-- the index by A: the block of type t stands from first t to first (t + 1)
pub record IndexOf (A : ℕ → ℕ → Event → Bool) (p : Policy) (first keys ws rs : List ℕ) : Type 0 where
  pub blocks : (t : ℕ) → Within 1 p.counts.types t → BlockOf A p t keys ws rs (get_or first t 0) (get_or first (t + 1) 0)
  pub tops : (t : ℕ) → Within 1 p.counts.types t → get_or first (t + 1) 0 ≤ length keys

-- the index by the allow records that count, and a block of it
abbrev pub AllowIndex : Policy → (first keys ws rs : List ℕ) → Type 0
AllowIndex p = IndexOf (α p) p

abbrev pub AllowBlock : Policy → ℕ → (keys ws rs : List ℕ) → (lo hi : ℕ) → Type 0
AllowBlock p = BlockOf (α p) p
