-- The permissions of a class that no constraint tells apart.
use Rattle.std.specs.Prelude.{ℕ, ◌+◌, ◌*◌, ◌≤◌, ◌<◌, ◌≡◌, Bool, true, false, not, ◌&&◌, List, get_or}
use Rattle.base.specs.Bits.{bit}
use Rattle.policy_image.specs.Policy.{Policy}
use Rattle.context.specs.Codes.{event_at}
use Rattle.constraints.specs.Constraints.{constrains}

abbrev pub equal : Bool → Bool → Bool
equal true b = b
equal false b = not b

-- r has the permissions of the group that are on the same side of the mask as q
pub record OnSide (group mask q r : ℕ) : Type 0 where
  pub at : (i : ℕ) → bit r i ≡ (bit group i && equal (bit mask q) (bit mask i))

-- the permissions q and i of class c have the same constraints
pub record Together (p : Policy) (c q i : ℕ) : Type 0 where
  pub same : (j : ℕ) → 1 ≤ j → j ≤ p.size → (p.rec j).kind ≡ 8 → constrains (p.rec j) (event_at c q) ≡ constrains (p.rec j) (event_at c i)

-- entry 32c + q has the permissions of class c that have the same constraints as q
pub record ConstraintGroups (p : Policy) (l : List ℕ) : Type 0 where
  pub sound : (c q i : ℕ) → c < 32 → q < 32 → i < 32 → bit (get_or l (32 * c + q) 0) i ≡ true → Together p c q i
  pub whole : (c q i : ℕ) → c < 32 → q < 32 → i < 32 → Together p c q i → bit (get_or l (32 * c + q) 0) i ≡ true
