use mathlib.Core.Path.{◌≡◌}
use Prim.Native.Nat.{◌-◌, ◌/◌}
use lib.ListN.{length}
use Rattle.policy_image.specs.Policy.{policy_of}
use Rattle.context.specs.Inner.Places.{pair_count}
use Rattle.plan.specs.Inner.Regions.{type_codes}
use Rattle.plan.specs.Inner.Entries.{event_sets_at}
use Rattle.search_constraints.specs.Inner.Asked.{AskedBefore}
use Rattle.search_steps.specs.Inner.Nearest.{kept_of, steps_end}
use Rattle.search_steps.specs.Inner.Sweeps.{sweep_at}
use Rattle.search_graph.specs.Inner.State.{Inv}
use Rattle.search_graph.specs.Inner.Tasks.{graph_of}
use Rattle.search_memory.specs.Inner.Memory.{Grown, Memory, Shuts}
use Rattle.search_memory.proofs.LoopLaws.{Middle}
use Rattle.search_memory.proofs.PairLaws.{Pairing}
use Rattle.search.proofs.levels.search_levels.Given as goal

abbrev pub invariant-loop-k : goal.invariant-loop-k
invariant-loop-k l =
    (length l.queue ≡ length l.initial.queue) × (length l.back ≡ length l.initial.back) × (l.sweep ≡ sweep_at l.task.counts l.plan l.offer) × (l.kept ≡ kept_of l.node.asker (event_sets_at l.plan (l.offer.step / type_codes)))
    × Pairing l.rules.policy.now l.plan l.task (record { back = l.back; queue = l.queue; swept = l.swept; spent = l.spent; opens = l.opens; head = l.head; tail = l.tail; stop = l.level_end; depth = l.depth }) l.u l.node l.offer l.initial.k-iterator.set.now l.k-iterator.from
    × (l.k-iterator.set.now ≡ l.initial.k-iterator.set.now) × (l.k-iterator.end ≡ pair_count l.task.counts)

abbrev pub invariant-loop-offer : goal.invariant-loop-offer
invariant-loop-offer l =
    (length l.queue ≡ length l.initial.queue) × (length l.back ≡ length l.initial.back)
    × Middle l.rules.policy.now l.plan l.task (record { back = l.back; queue = l.queue; swept = l.swept; spent = l.spent; opens = l.opens; head = l.head; tail = l.tail; stop = l.level_end; depth = l.depth }) l.u l.node l.offer × Grown l.initial.swept l.swept × AskedBefore (policy_of l.rules.policy.now) l.rules.marks.now l.memo

abbrev pub decreases-loop-offer : goal.decreases-loop-offer
decreases-loop-offer l = steps_end - l.offer.step

abbrev pub invariant-search : goal.invariant-search
invariant-search l =
    (length l.queue ≡ length l.initial.queue) × (length l.back ≡ length l.initial.back) × Memory l.rules.policy.now l.plan l.task l.back l.swept l.spent l.opens
    × Inv (graph_of l.rules.policy.now l.plan l.task) l.back l.queue l.head l.tail l.level_end l.depth × Shuts l.task.mode l.plan l.swept l.spent l.shut × AskedBefore (policy_of l.rules.policy.now) l.rules.marks.now l.memo

abbrev pub decreases-search : goal.decreases-search
decreases-search l = (graph_of l.rules.policy.now l.plan l.task).k - l.head
