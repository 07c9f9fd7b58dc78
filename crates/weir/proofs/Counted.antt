-- Which allow records count is asked of the weir policy: record 6 lets type 2 read type 1, and gives that where it counts, and not else.
use mathlib.Core.Bool.{not, true, false}
use mathlib.Core.Path.{◌≡◌, refl}
use lib.Dec.{eqb}
use Rattle.base.specs.Bits.{bit}
use Rattle.policy_image.specs.Layout.{record_count, record_of, payload_of, decoded}
use Rattle.policy_image.specs.Policy.{policy_of}
use Rattle.policy_image.specs.OfKind.{some}
use Rattle.policy_image.specs.Inner.Counting.{counting}
use Rattle.policy_image.specs.Cases.Weir.{weir}
use Rattle.context.specs.Codes.{event_at as event}
use Rattle.policy_sources.specs.Sources.{domain}
use Rattle.relations.specs.Relations.{Γ, allowed, α}

pub all_count : α (policy_of weir) 2 1 (event 2 0) ≡ true
unfolding domain Γ allowed α some bit record_count record_of payload_of decoded
all_count = refl

pub one_counts : α (counting (λ i. eqb i 6) (policy_of weir)) 2 1 (event 2 0) ≡ true
unfolding domain Γ allowed α some bit record_count record_of payload_of decoded
one_counts = refl

pub others_count : α (counting (λ i. not (eqb i 6)) (policy_of weir)) 2 1 (event 2 0) ≡ false
unfolding domain Γ allowed α some bit record_count record_of payload_of decoded
others_count = refl
