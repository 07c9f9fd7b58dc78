-- A step, as what is asked of the contexts of a type.
use Rattle.std.specs.Prelude.{ℕ, ◌/◌, ◌%◌, List}
use Rattle.policy_image.specs.declared.counts.Counts.{Counts}
use Rattle.plan.specs.Inner.Regions.{type_codes}
use Rattle.context.specs.Inner.Places.{first_place}
use Rattle.plan.specs.Inner.Entries.{event_sets_at}
use Rattle.search_steps.specs.declared.nearest.Offer.{Offer}
use Rattle.search_steps.specs.declared.sweep.Sweep.{Sweep}
use Rattle.search_steps.specs.Inner.Steps.{special_by}

-- the sweep of a step that is offered
abbrev pub sweep_at : Counts → List ℕ → Offer → Sweep
sweep_at n plan o =
    record {
      event = o.step / type_codes;
      sets = event_sets_at plan (o.step / type_codes);
      special = special_by plan (o.step / type_codes);
      entry = o.entry;
      ty = o.step % type_codes;
      start = first_place n (o.step % type_codes);
    }
