use mathlib.Core.Bool.{Bool}
use mathlib.Core.List.{List}
use mathlib.Core.Path.{◌≡◌}
use Prim.Native.Nat.{ℕ, ◌/◌, ◌%◌}
use Rattle.policy_image.specs.declared.counts.Counts.{Counts}
use Rattle.plan.specs.Inner.Regions.{type_codes}
use Rattle.context.specs.Inner.Places.{first_place}
use Rattle.plan.specs.Inner.Entries.{event_sets_at}
use Rattle.search_steps.specs.declared.nearest.Offer.{Offer}
use Rattle.search_steps.specs.Inner.Steps.{special_by}
use Rattle.search_steps.specs.Inner.Sweeps.{sweep_at}
use Rattle.search_steps.proofs.sweep.sweep_of.Goals as goal

same : (n : Counts) (plan : List ℕ) (o : Offer) {lo : ℕ} {b : Bool} → b ≡ special_by plan (o.step / type_codes) → lo ≡ first_place n (o.step % type_codes)
    → record { event = o.step / type_codes; sets = event_sets_at plan (o.step / type_codes); special = b; entry = o.entry; ty = o.step % type_codes; start = lo } ≡ sweep_at n plan o
same n plan o b lo = λ i. record { event = o.step / type_codes; sets = event_sets_at plan (o.step / type_codes); special = b i; entry = o.entry; ty = o.step % type_codes; start = lo i }

pub returns : goal.returns
returns c =
    same c.args.counts c.args.plan.now c.args.offer c.is_special.ensures c.first_place.ensures
