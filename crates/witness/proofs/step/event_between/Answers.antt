use Prim.Native.Nat.{ℕ, ◌%◌}
use mathlib.Core.Bool.{false}
use mathlib.Core.Path.{refl, sym, subst, ◌∙◌}
use native.Mathlib.Omega.{arith}
use lib.ListN.{replicate}
use Rattle.base.proofs.Decide.{yes_of, no_of}
use Rattle.search_steps.specs.declared.nearest.Asker.{Asker}
use Rattle.search_graph.specs.Inner.Tasks.{graph_of}
use Rattle.search_memory.specs.Inner.Memory.{AskerOf}
use Rattle.search_steps.proofs.OfferLaws.{block_of_type, next_law}
use Rattle.witness.proofs.StepLaws.{from_below, to_below, from_range, asker, type_is, offered, only_here, look_begin, look_more, look_found, look_end}
use Rattle.witness.proofs.step.event_between.Goals.{At-loop-offer}
use Rattle.witness.proofs.step.event_between.Goals.{else-offer-y-via-else-offer-y, else-offer-y-via-then-offer-y+else-is_step}
use Rattle.witness.proofs.step.event_between.Goals as goal

-- where the loop stands
module _ (L : At-loop-offer) where
  abbrev who : Asker
  who = record { state = L.args.u % L.states_in-states.result; keeps = L.keeps_of.result; spent = false }

  asks : AskerOf L.args.query.task.mode (replicate 256 0) L.at-x.result (L.args.u % L.states_in-states.result) who
  asks = asker L.requires.0 L.requires.1 L.states_in-states.ensures L.at-x.ensures refl L.keeps_of.ensures refl

pub at-x-requires : goal.at-x-requires
at-x-requires c =
    (c.requires.0.readable.sets.counts.countable, from_below c.requires.0 c.requires.1 c.states_in-states.ensures)

pub at-y-requires : goal.at-y-requires
at-y-requires c =
    (c.requires.0.readable.sets.counts.countable, to_below c.requires.0 c.requires.1 c.states_in-states.ensures)

pub first_offer-offer-requires : goal.first_offer-offer-requires
first_offer-offer-requires c =
    let k = asker c.requires.0 c.requires.1 c.states_in-states.ensures c.at-x.ensures refl c.keeps_of.ensures refl in
    (k.few, block_of_type c.requires.0.ready c.requires.0.planned (from_range c.requires.0 c.requires.1 c.states_in-states.ensures c.at-x.ensures))

pub loop-offer-init : goal.loop-offer-init
loop-offer-init c =
    let k = asker c.requires.0 c.requires.1 c.states_in-states.ensures c.at-x.ensures refl c.keeps_of.ensures refl in
    look_begin c.requires.0 c.requires.1 c.states_in-states.ensures c.at-x.ensures k c.requires.2 (next_law c.requires.0.ready c.requires.0.planned (from_range c.requires.0 c.requires.1 c.states_in-states.ensures c.at-x.ensures) c.first_offer-offer.ensures)

pub is_step-requires : goal.is_step-requires
is_step-requires c = (
  c.requires.0,
  c.requires.1,
  offered c.requires.0 c.requires.1 c.states_in-states.ensures c.at-x.ensures (asks (goal.at.is_step-requires c).At-loop-offer) c.loop-offer.invariant c.at-y.ensures c.loop-offer-test.true c.if-offer-y.true,
)

pub returns-then-is_step : goal.returns-then-is_step
returns-then-is_step c =
    look_found c.requires.0 c.requires.1 c.states_in-states.ensures c.at-x.ensures (asks (goal.at.returns-then-is_step c).At-loop-offer) c.loop-offer.invariant c.loop-offer-test.true
    (yes_of c.is_step.result c.is_step.ensures c.if-is_step.true)

pub next_offer-offer-requires : goal.next_offer-offer-requires
next_offer-offer-requires c =
    ((asks (goal.at.next_offer-offer-requires c).At-loop-offer).few, block_of_type c.requires.0.ready c.requires.0.planned (from_range c.requires.0 c.requires.1 c.states_in-states.ensures c.at-x.ensures), c.loop-offer.invariant.resumes c.loop-offer-test.true)

pub loop-offer-preserved : goal.loop-offer-preserved
loop-offer-preserved c =
    let K = (goal.at.loop-offer-preserved c).At-loop-offer in
    look_more c.requires.0 c.requires.1 c.states_in-states.ensures c.at-x.ensures (asks K) c.loop-offer.invariant c.requires.2 (next_law c.requires.0.ready c.requires.0.planned (from_range c.requires.0 c.requires.1 c.states_in-states.ensures c.at-x.ensures) c.next_offer-offer.ensures)
    (λ i z ed. let k = only_here c.requires.0 c.requires.1 c.states_in-states.ensures c.at-x.ensures (asks K) c.loop-offer.invariant i z in
    elim c.else-offer-y.branch [
      | else-offer-y-via-then-offer-y+else-is_step w ↦ no_of w.is_step.result w.is_step.ensures w.if-is_step.false (subst (λ (e : ℕ). (graph_of c.args.query.policy.now c.args.query.plan.now c.args.query.task).Edge c.args.u e c.args.w) (sym k.0) ed)
      | else-offer-y-via-else-offer-y w ↦ w.if-offer-y.false (k.1 ∙ sym (type_is c.requires.0 c.requires.1 c.states_in-states.ensures c.at-y.ensures))
    ])

pub unreachable-requires : goal.unreachable-requires
unreachable-requires c =
    look_end c.requires.0 c.requires.1 c.states_in-states.ensures c.at-x.ensures (asks (goal.at.unreachable-requires c).At-loop-offer) c.loop-offer.invariant (omega (arith, c.loop-offer-test.false))
