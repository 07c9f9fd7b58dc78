-- The nearest step that a block of a plan offers, in terms of the plan's numbers alone. The step by permission q of an entry with
-- the key k is type_codes * (32 * class + q) + other type.
use Rattle.std.specs.Prelude.{ℕ, ◌+◌, ◌*◌, ◌/◌, ◌%◌, ◌^◌, ◌≤◌, ◌<◌, ◌≡◌, Bool, true, false, ◌||◌, ◌⊎◌, List, length, get_or}
use Rattle.std.specs.Int.Bits.{bit_and, bit_or}
use Rattle.base.specs.Bits.{bit}
use Rattle.plan_tables.specs.Inner.Tables.{type_entries}
use Rattle.plan.specs.Inner.Regions.{event_entries, block_entries, plan_entries, type_codes}
use Rattle.plan.specs.Inner.Entries.{special_at, first_at, key_at, writes_at, reads_at, type_special_at, event_sets_at, leads_at}
use Rattle.plan.specs.Inner.Plan.{SpecialOf}
use Rattle.search_steps.specs.declared.nearest.Asker.{Asker}
use Rattle.search_steps.specs.declared.nearest.Offer.{Offer}
-- the numbers of keys lie below it
pub use Rattle.plan_index.specs.Inner.Codes.{key_codes}

-- how many states there are at most, all bits of a state, how many steps by the permissions of one class, and a number above
-- every step's
abbrev pub state_codes : ℕ
state_codes = 64

abbrev pub whole_state : ℕ
whole_state = 63

abbrev pub class_steps : ℕ
class_steps = 32 * type_codes

abbrev pub steps_end : ℕ
steps_end = event_entries * type_codes

-- the number of the step by an event to a type, and of the step by permission 0 of a key
abbrev pub step_code : ℕ → ℕ → ℕ
step_code e o = type_codes * e + o

abbrev pub first_step : ℕ → ℕ
first_step k = step_code (32 * (k / type_codes)) (k % type_codes)

-- the step by permission q of entry j
abbrev pub step_of : List ℕ → ℕ → ℕ → ℕ
step_of plan j q = first_step (key_at plan j) + type_codes * q

-- r is the step by some permission of the mask, where first is the step by permission 0
pub record StepBy (first mask r : ℕ) : Type 0 where
  pub perm : ℕ
  pub small : perm < 32
  pub bears : bit mask perm ≡ true
  pub is : r ≡ first + type_codes * perm

-- what an event in the sets by keeps of the asker's state: the bits that every event keeps, and bit i where by has bit 7 + i
abbrev pub kept_of : Asker → ℕ → ℕ
kept_of a by = bit_and a.state (bit_or a.keeps (by / 2 ^ 7))

-- an event in the sets by needs no asking: it is in γe, or what it keeps of the state is in the set that is swept
abbrev pub closed : Asker → ℕ → ℕ → Bool
closed a by swept = bit by 14 || bit swept (kept_of a by)

-- the nearest step of an entry from a step on that is not closed; where there is none below a step, one that is not below it
pub record OpenStep (plan : List ℕ) (a : Asker) (swept k mask from below r : ℕ) : Type 0 where
  pub high : r ≤ steps_end
  pub by : r < steps_end → StepBy (first_step k) mask r
  pub low : from ≤ r
  pub unclosed : r < below → closed a (event_sets_at plan (r / type_codes)) swept ≡ false
  pub least : (q : ℕ) → q < 32 → bit mask q ≡ true → from ≤ first_step k + type_codes * q
      → (r ≤ first_step k + type_codes * q) ⊎ (closed a (event_sets_at plan (32 * (k / type_codes) + q)) swept ≡ true)

-- r has the permissions of the mask, but where the asker is spent only the special ones of the key's class
pub record AskedMask (plan : List ℕ) (a : Asker) (k mask r : ℕ) : Type 0 where
  pub among : (q : ℕ) → bit r q ≡ true → bit mask q ≡ true
  pub all : (q : ℕ) → bit mask q ≡ true → (bit r q ≡ true) ⊎ ((a.spent ≡ true) × (bit (special_at plan (k / type_codes)) q ≡ false))

-- a step by the event e to the type o need not be asked: it is closed, or the asker is spent and the event is not special
abbrev pub PassedOver : List ℕ → List ℕ → Asker → ℕ → ℕ → Type 0
PassedOver plan swept a e o = (closed a (event_sets_at plan e) (get_or swept o 0) ≡ true) ⊎ ((a.spent ≡ true) × (bit (special_at plan (e / 32)) (e % 32) ≡ false))

-- .. the step by permission q of entry j
abbrev pub PassedAt : List ℕ → List ℕ → Asker → ℕ → ℕ → Type 0
PassedAt plan swept a j q = PassedOver plan swept a (32 * (key_at plan j / type_codes) + q) (key_at plan j % type_codes)

-- .. nor any step of the entries from lo to below stop
pub record AllPassedOver (plan swept : List ℕ) (a : Asker) (lo stop : ℕ) : Type 0 where
  pub each : (j q : ℕ) → lo ≤ j → j < stop → q < 32 → bit (leads_at plan j) q ≡ true → PassedAt plan swept a j q

-- the entries from a to below r are of classes below the class
pub record Skipped (plan : List ℕ) (stop a class r : ℕ) : Type 0 where
  pub low : a ≤ r
  pub high : r ≤ stop
  pub passed : (j : ℕ) → a ≤ j → j < r → key_at plan j / type_codes < class

-- entries from lo to below stop, in rising order
pub record StepBlock (plan : List ℕ) (lo stop : ℕ) : Type 0 where
  pub size : plan_entries ≤ length plan
  pub high : stop ≤ block_entries
  pub rising : (i j : ℕ) → lo ≤ i → i < j → j < stop → key_at plan i < key_at plan j
  pub small : (j : ℕ) → lo ≤ j → j < stop → key_at plan j < key_codes
  pub others : (j : ℕ) → lo ≤ j → j < stop → key_at plan j % type_codes < type_entries

-- the entries before a are of classes before the step's
pub record Cursor (plan : List ℕ) (lo stop a from : ℕ) : Type 0 where
  pub low : lo ≤ a
  pub high : a ≤ stop
  pub passed : (j : ℕ) → lo ≤ j → j < a → key_at plan j / type_codes < from / class_steps

-- an entry of the block offers the step r, by a leading permission
pub record OfferedAt (plan : List ℕ) (lo stop entry r : ℕ) : Type 0 where
  pub low : lo ≤ entry
  pub high : entry < stop
  pub by : StepBy (first_step (key_at plan entry)) (leads_at plan entry) r

-- an entry of the block offers the step of o, and the entries before its start are of classes before the step's
pub record Resumes (plan : List ℕ) (lo stop : ℕ) (o : Offer) : Type 0 where
  pub within : o.step < steps_end
  pub offered : OfferedAt plan lo stop o.entry o.step
  pub cursor : Cursor plan lo stop o.start o.step

-- .. of the block of the type t
abbrev pub ResumesOf : List ℕ → ℕ → Offer → Type 0
ResumesOf plan t o = Resumes plan (first_at plan t) (first_at plan (t + 1)) o

-- of the entries after the one that offers the step, r is the first that offers the same event to a type that it is not closed for; stop
-- where there is none
pub record SameEvent (plan swept : List ℕ) (a : Asker) (stop entry step r : ℕ) : Type 0 where
  pub low : entry < r
  pub high : r ≤ stop
  pub class : r < stop → key_at plan r / type_codes ≡ step / class_steps
  pub bears : r < stop → bit (leads_at plan r) (step / type_codes % 32) ≡ true
  pub unclosed : r < stop → closed a (event_sets_at plan (step / type_codes)) (get_or swept (key_at plan r % type_codes) 0) ≡ false
  pub passed : (j : ℕ) → entry < j → j < r → key_at plan j / type_codes ≡ step / class_steps → bit (leads_at plan j) (step / type_codes % 32) ≡ true
      → closed a (event_sets_at plan (step / type_codes)) (get_or swept (key_at plan j % type_codes) 0) ≡ true

-- the nearest step of a block from a step on that is not closed
pub record Nearest (plan swept : List ℕ) (a : Asker) (lo stop from : ℕ) (r : Offer) : Type 0 where
  pub high : r.step ≤ steps_end
  pub low : from ≤ r.step
  pub resumes : r.step < steps_end → Resumes plan lo stop r
  pub unclosed : r.step < steps_end → closed a (event_sets_at plan (r.step / type_codes)) (get_or swept (r.step % type_codes) 0) ≡ false
  pub least : (j q : ℕ) → lo ≤ j → j < stop → q < 32 → bit (leads_at plan j) q ≡ true → from ≤ step_of plan j q
      → (r.step ≤ step_of plan j q) ⊎ PassedAt plan swept a j q

abbrev pub NearestOf : List ℕ → List ℕ → Asker → ℕ → ℕ → Offer → Type 0
NearestOf plan swept a t from r = Nearest plan swept a (first_at plan t) (first_at plan (t + 1)) from r

-- the entries of the type t are a block, its special permissions have their special permissions, and what leads is one of them
pub record StepBlockOf (plan : List ℕ) (t : ℕ) : Type 0 where
  pub type : t < type_entries
  pub order : first_at plan t ≤ first_at plan (t + 1)
  pub block : StepBlock plan (first_at plan t) (first_at plan (t + 1))
  pub type_special : SpecialOf plan (first_at plan t) (first_at plan (t + 1)) (type_special_at plan t)
  pub among : (j q : ℕ) → first_at plan t ≤ j → j < first_at plan (t + 1) → bit (leads_at plan j) q ≡ true → bit (bit_or (writes_at plan j) (reads_at plan j)) q ≡ true
