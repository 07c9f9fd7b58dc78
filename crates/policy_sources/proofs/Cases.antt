-- What the promise says of every table l that meets it, on the weir policy: a yes, and a near no. Images on which question 14 is answered are in
-- policy_check/proofs/Cases.
use Prim.Native.Nat.{ℕ}
use mathlib.Core.Bool.{true, false}
use mathlib.Core.List.{List}
use mathlib.Core.Path.{◌≡◌}
use lib.ListN.{get_or}
use Rattle.base.specs.Bits.{bit}
use Rattle.policy_image.specs.Layout.{record_count, record_of, payload_of, decoded}
use Rattle.policy_image.specs.Policy.{policy_of}
use Rattle.policy_image.specs.OfKind.{some}
use Rattle.policy_image.specs.Cases.Weir.{weir}
use Rattle.policy_sources.specs.Sources.{domain}
use Rattle.policy_sources.specs.Inner.Domains.{DomainTable}

pub domains : (l : List ℕ) → DomainTable (policy_of weir) l → (bit (get_or l 2 0) 0 ≡ true) × (bit (get_or l 3 0) 0 ≡ false)
unfolding domain some record_count record_of payload_of decoded
domains l M = (M.at 2, M.at 3)
