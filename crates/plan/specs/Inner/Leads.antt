-- How the leading permissions of an entry are found. What they mean is said without these definitions (Plan.antt).
use Rattle.std.specs.Prelude.{ℕ, ◌+◌, ◌*◌, ◌/◌, ◌%◌, ◌≤◌, ◌<◌, ◌≡◌, true, List, ◌⊎◌, length, get_or}
use Rattle.std.specs.Int.Bits.{bit_or}
use Rattle.base.specs.Bits.{bit}
use Rattle.policy_image.specs.Policy.{Policy}
use Rattle.context.specs.Inner.Coding.{transition_code}
use Rattle.plan.specs.Inner.Entries.{key_at, writes_at, reads_at, event_sets_at, alike_at}
use Rattle.plan.specs.Inner.Plan.{Grouped, Alike}
use Rattle.plan.specs.Inner.Regions.{event_entries, type_codes}

-- process transition is not in the mask of class c
pub record NotTransition (c mask : ℕ) : Type 0 where
  pub out : (q : ℕ) → q < 32 → bit mask q ≡ true → 32 * c + q ≡ transition_code → ⊥

-- the permissions of class c in r are in just these sets
pub record SameSets (plan : List ℕ) (c sets r : ℕ) : Type 0 where
  pub at : (q : ℕ) → bit r q ≡ true → event_sets_at plan (32 * c + q) ≡ sets

-- any two permissions of class c in the mask are alike
pub record AllAlike (plan : List ℕ) (c mask : ℕ) : Type 0 where
  pub at : (p : Policy) → Grouped p plan → (q i : ℕ) → q < 32 → i < 32 → bit mask q ≡ true → bit mask i ≡ true → Alike p plan (32 * c + q) (32 * c + i)

-- l is what the plan has of the permissions that are alike
pub record AlikeCopy (plan l : List ℕ) : Type 0 where
  pub size : length l ≡ event_entries
  pub same : (e : ℕ) → e < event_entries → get_or l e 0 ≡ alike_at plan e

-- l has an entry for each event, and the permissions in it are like that event
pub record AlikeTable (plan l : List ℕ) : Type 0 where
  pub size : length l ≡ event_entries
  pub at : (p : Policy) → Grouped p plan → (c q i : ℕ) → c < 32 → q < 32 → i < 32 → bit (get_or l (32 * c + q) 0) i ≡ true → Alike p plan (32 * c + q) (32 * c + i)

-- .. and is such a table still as l', where the permissions in the mask are alike
pub record Shared (c mask : ℕ) (l l' : List ℕ) : Type 0 where
  pub table : (plan : List ℕ) → AllAlike plan c mask → AlikeTable plan l → AlikeTable plan l'

-- a permission of r stands for q: q itself, or one below in whose entry q is
pub record Led (alike : List ℕ) (class r q : ℕ) : Type 0 where
  pub perm : ℕ
  pub low : perm ≤ q
  pub leading : bit r perm ≡ true
  pub like : (perm ≡ q) ⊎ (bit (get_or alike (32 * class + perm) 0) q ≡ true)

pub record Leading (alike : List ℕ) (class mask r : ℕ) : Type 0 where
  pub among : (q : ℕ) → bit r q ≡ true → bit mask q ≡ true
  pub each : (q : ℕ) → bit mask q ≡ true → Led alike class r q

-- v has the leading permissions of entry j, of either way
pub record EntryLeads (alike plan : List ℕ) (j v : ℕ) : Type 0 where
  pub writes : ℕ
  pub reads : ℕ
  pub writes_lead : Leading alike (key_at plan j / type_codes % 32) (writes_at plan j) writes
  pub reads_lead : Leading alike (key_at plan j / type_codes % 32) (reads_at plan j) reads
  pub both : v ≡ bit_or writes reads
