use mathlib.Core.Logic.{⊎_elim}
use mathlib.Core.Path.{refl, sym, ◌∙◌}
use Rattle.plan.proofs.MeetsLaws.{held_is}
use Rattle.search_steps.proofs.OfferLaws.{event_few, special_is}
use Rattle.witness.proofs.StepLaws.{from_below, to_below, to_type, from_range, facing, no_event, no_held, no_flow_lem, no_drop, no_break, decided}
use Rattle.witness.proofs.step.is_step.Goals.{then-not-has_bit, else-not-has_bit, then-is_held, else-is_held}
use Rattle.witness.proofs.step.is_step.Goals as goal

pub at-x-requires : goal.at-x-requires
at-x-requires c =
    (c.requires.0.readable.sets.counts.countable, from_below c.requires.0 c.requires.1 c.states_in-states.ensures)

pub at-ty-requires : goal.at-ty-requires
at-ty-requires c =
    (c.requires.0.readable.sets.counts.countable, to_below c.requires.0 c.requires.1 c.states_in-states.ensures)

pub sets_at-into-requires : goal.sets_at-into-requires
sets_at-into-requires c =
    let R = c.requires.0.readable.sets in
    (R.counts, R.falls, R.size, to_type c.requires.0 c.requires.1 c.states_in-states.ensures c.at-ty.ensures)

pub is_held-requires : goal.is_held-requires
is_held-requires c =
    (c.requires.0.readable.sets.counts, c.requires.0.readable.sets.size, to_type c.requires.0 c.requires.1 c.states_in-states.ensures c.at-ty.ensures)

pub is_target-leads-requires : goal.is_target-leads-requires
is_target-leads-requires c = (
  c.requires.0.ready,
  c.requires.0.planned,
  from_range c.requires.0 c.requires.1 c.states_in-states.ensures c.at-x.ensures,
  to_below c.requires.0 c.requires.1 c.states_in-states.ensures,
  facing c.requires.0 c.requires.1 c.states_in-states.ensures c.at-x.ensures c.requires.2 (c.is_special-special.ensures ∙ special_is c.requires.0.planned.policy (event_few c.requires.0.ready.sound c.requires.2)),
  elim c.if-not-has_bit.branch [
    | then-not-has_bit w ↦ sym (held_is c.requires.0.planned.policy (to_type c.requires.0 c.requires.1 c.states_in-states.ensures c.at-ty.ensures)) ∙ sym w.is_held.ensures ∙ sym w.value-is ∙ c.if-is_held.true
    | else-not-has_bit w ↦ cc
  ],
)

pub returns-then-not-leads : goal.returns-then-not-leads
returns-then-not-leads c =
    elim c.if-is_held.branch [
      | then-is_held w ↦ no_flow_lem c.requires.0 c.requires.1 c.states_in-states.ensures c.at-x.ensures c.args.e refl refl w.is_target-leads.ensures (sym w.leads-is ∙ c.if-not-leads.true)
      | else-is_held w ↦ elim c.if-not-has_bit.branch [
        | then-not-has_bit v ↦ no_held c.requires.0 c.requires.1 c.states_in-states.ensures c.at-x.ensures c.args.e refl (to_type c.requires.0 c.requires.1 c.states_in-states.ensures c.at-ty.ensures) v.is_held.ensures (sym v.value-is ∙ w.if-is_held.false)
        | else-not-has_bit v ↦ no_event c.requires.0 c.requires.1 c.states_in-states.ensures refl c.args.e refl c.has_bit.ensures v.if-not-has_bit.false
      ]
    ]

pub returns-in-Enter : goal.returns-in-Enter
returns-in-Enter c =
    elim c.if-is_held.branch [
      | then-is_held w ↦ elim c.if-not-has_bit.branch [
        | then-not-has_bit v ↦ decided c.requires.0 c.requires.1 c.states_in-states.ensures c.at-x.ensures c.args.e refl c.sets_at-into.ensures c.step_state.ensures c.land.result c.land.ensures c.has_bit.ensures v.if-not-has_bit.true refl w.is_target-leads.ensures (sym w.leads-is ∙ c.if-not-leads.false) _ c.in-Enter.is
        | else-not-has_bit v ↦ absurd (cc)
      ]
      | else-is_held w ↦ absurd (cc)
    ]

pub returns-in-Dropped : goal.returns-in-Dropped
returns-in-Dropped c =
    ⊎_elim (no_drop c.requires.0 c.requires.1 c.states_in-states.ensures c.at-x.ensures c.args.e refl c.sets_at-into.ensures c.step_state.ensures c.land.result c.land.ensures)
    (λ b. no_break c.requires.0 c.requires.1 c.states_in-states.ensures c.at-x.ensures c.args.e refl c.sets_at-into.ensures c.step_state.ensures c.land.result c.land.ensures b.1) c.in-Dropped.is
