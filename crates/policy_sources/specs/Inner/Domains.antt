-- The table of domains, by the relation alone.
use Rattle.std.specs.Prelude.{ℕ, ◌≡◌, List, get_or}
use Rattle.base.specs.Bits.{bit}
use Rattle.policy_image.specs.Policy.{Policy}
use Rattle.policy_sources.specs.Sources.{domain}

-- bit 0 of entry t says whether type t is a domain
pub record DomainTable (p : Policy) (l : List ℕ) : Type 0 where
  pub at : (t : ℕ) → bit (get_or l t 0) 0 ≡ domain p t
