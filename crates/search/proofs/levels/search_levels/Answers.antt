use mathlib.Core.Path.{◌≡◌, refl, sym, ◌∙◌, subst}
use Prim.Native.Nat.{ℕ, ◌+◌, ◌-◌, ◌^◌, ◌≤◌, ◌<◌}
use native.Mathlib.Nat.{lt_of_lt_of_le}
use native.Mathlib.Omega.{arith}
use borrow.Author.Rules.{rules}
use lib.ListN.{length-set}
use Rattle.search_constraints.proofs.AskedLaws.{before_begin}
use Rattle.search_steps.proofs.NearestLaws.{kept_few}
use Rattle.search_steps.proofs.OfferLaws.{block_of_type}
use Rattle.search_graph.specs.declared.arrival.Arrival.TheVariants.{Enter}
use Rattle.search_graph.specs.Inner.Tasks.{graph_of}
use Rattle.search_graph.proofs.SearchLaws.{enter, room, nothing, stopped, turn_chain, chain_bound, inv_visited}
use Rattle.search_memory.proofs.StandLaws.{own_few, asks_from}
use Rattle.search_memory.proofs.MemoryLaws.{memory_begin, memory_keep}
use Rattle.search_memory.proofs.ShutLaws.{grown_same, grown_more, shuts_begin, shuts_recall, shuts_turn}
use Rattle.search_memory.proofs.LoopLaws.{node_below, middle_begin, middle_end, middle_spent, event_few, other_few, other_type, inner_swept, inner_end, inner_fits, inner_type, inner_below, inner_entered, inner_seen, inner_dropped, inner_broken}
use Rattle.search_memory.proofs.PairLaws.{asking, facing, in_policy, pairs_high, pairing_begin, pairing_end, pair_inner, pair_below, pair_flows, pair_next}
use Rattle.search.proofs.levels.search_levels.Goals.{After-arrive, After-kept_of-kept}
use Rattle.search.proofs.levels.search_levels.Goals.{else-head-level_end, then-head-level_end}
use Rattle.search.proofs.levels.search_levels.Goals as goal

-- what is left falls
falls : {a b end : ℕ} → a < end → a + 1 ≤ b → end - b < end - a
falls h l = omega arith

less_fits : {y : ℕ} → y + 1 < 2 ^ 32 → y < 2 ^ 32
less_fits h = omega arith

-- what the event keeps of the state is small
kept_small : (K : After-kept_of-kept) → K.kept_of-kept.result < 64
kept_small K =
    subst (λ (k : ℕ). k < 64) (sym K.kept_of-kept.ensures) (kept_few K.take_up-node.result.asker K.sweep_of-sweep.result.sets K.loop-offer.invariant.2.within.asker.few)

-- a node that is arrived at is one of the graph's
arrived_below : (K : After-arrive) {w : ℕ} → K.arrive.result ≡ Enter w
    → w < (graph_of K.args.query.policy.now K.args.query.plan.now K.args.query.task).k
arrived_below K q =
    let i = K.loop-k.invariant in
    let S = K.in-Some.ensures.steps in
    let N = rw (i.5, i.6) at S.2.0 in
    inner_below (pair_inner i.4 N S.2.1) (pair_below i.4 N S.2.1) (rw i.2 at K.arrive.ensures) q

pub overflow_mul-pairs : goal.overflow_mul-pairs
overflow_mul-pairs c = let f = pairs_high c.requires.0 in search rules

pub pair_rows-rows-requires : goal.pair_rows-rows-requires
pair_rows-rows-requires c = let C = c.requires.0.readable.sets.counts in (C.countable, omega (arith, C.roles), omega (arith, C.users))

pub marks_of-marks-requires : goal.marks_of-marks-requires
marks_of-marks-requires c = c.requires.0.ready.sound

pub search-init : goal.search-init
search-init c = (refl, refl, memory_begin _ _ _ _, c.requires.1, shuts_begin _ _ _ _, before_begin _ _)

pub overflow_add-depth : goal.overflow_add-depth
overflow_add-depth c = omega (arith, c.search.invariant.3.deep c.if-tail-head.false)

pub offset_bounds-queue-head : goal.offset_bounds-queue-head
offset_bounds-queue-head c = omega arith

pub bounds-queue-head : goal.bounds-queue-head
bounds-queue-head c = omega arith

pub take_up-node-requires : goal.take_up-node-requires
take_up-node-requires c =
    (c.requires.0.readable, node_below c.search.invariant.3 c.if-tail-head.false)

pub first_step-offer-requires : goal.first_step-offer-requires
first_step-offer-requires c =
    let A = c.requires.0 in
    let U = c.take_up-node.ensures in
    (U.asker.few, block_of_type A.ready A.planned U.stands.range, shuts_recall c.search.invariant.4 U.asker)

pub loop-offer-init : goal.loop-offer-init
loop-offer-init c =
    let j = c.search.invariant in
    let more = c.if-tail-head.false in
    let U = c.take_up-node.ensures in
    let F = c.first_step-offer.ensures.0 in (
      refl,
      refl,
      elim c.if-head-level_end.branch [
        | then-head-level_end w ↦ rw (w.level_end-is, w.depth-is) (middle_begin c.requires.0 j.2 U (enter j.3 w.if-head-level_end.true more) more refl F)
        | else-head-level_end w ↦ rw (w.level_end-is, w.depth-is) (middle_begin c.requires.0 j.2 U j.3 (omega (arith, w.if-head-level_end.false, j.3.head_stop)) refl F)
      ],
      grown_same _,
      j.5,
    )

pub sweep_of-sweep-requires : goal.sweep_of-sweep-requires
sweep_of-sweep-requires c =
    let I = c.loop-offer.invariant.2 in
    let A = I.within.given in
    let O = I.ahead c.loop-offer-test.true in
    (A.readable.sets.counts, A.readable.sets.size, event_few A O, other_type A O)

pub open_pairs-left-requires : goal.open_pairs-left-requires
open_pairs-left-requires c =
    let I = c.loop-offer.invariant.2 in
    let R = I.within.given.readable.sets in
    (R.counts, R.size, I.within.memory.left.size, rw c.sweep_of-sweep.ensures (other_few I.within.given (I.ahead c.loop-offer-test.true)), kept_small (goal.at.open_pairs-left-requires c).After-kept_of-kept)

pub step_pairs-todo-requires : goal.step_pairs-todo-requires
step_pairs-todo-requires c =
    let I = c.loop-offer.invariant.2 in
    let A = I.within.given in
    (asking A c.pair_rows-rows.ensures c.marks_of-marks.ensures c.loop-offer.invariant.4, in_policy A I.within.stands, rw c.sweep_of-sweep.ensures (facing A (I.ahead c.loop-offer-test.true)))

pub loop-k-init-derived : goal.loop-k-init-derived
loop-k-init-derived c =
    let e = c.pairs_of-k-items.ensures in
    rw (c.into_iter-k-iterator.ensures.into_iter_gives, e.1, e.2) ((omega arith, pairs_high c.loop-offer.invariant.2.within.given), tt)

pub loop-k-init : goal.loop-k-init
loop-k-init c =
    let s = c.sweep_of-sweep.ensures in
    let k = rw s at c.kept_of-kept.ensures in
    let e : c.into_iter-k-iterator.result.set.now ≡ c.step_pairs-todo.result = cc in
    (refl, refl, s, k, pairing_begin (cc) c.loop-offer.invariant.2 c.loop-offer-test.true (rw (k, s) at c.open_pairs-left.ensures) (rw (s, ← e) at c.step_pairs-todo.ensures.0), refl, cc)

pub overflow_add-sweep : goal.overflow_add-sweep
overflow_add-sweep c =
    let i = c.loop-k.invariant in
    let S = c.in-Some.ensures.steps in
    let N = rw (i.5, i.6) at S.2.0 in
    rw i.2 (record { fits = less_fits (inner_fits (pair_inner i.4 N S.2.1) (pair_below i.4 N S.2.1)) })

pub arrive-requires : goal.arrive-requires
arrive-requires c =
    let i = c.loop-k.invariant in
    let S = c.in-Some.ensures.steps in
    let N = rw (i.5, i.6) at S.2.0 in
    (i.4.inner.within.given.readable, rw i.2 (inner_type (pair_inner i.4 N S.2.1) (pair_below i.4 N S.2.1)))

pub bounds-back-at : goal.bounds-back-at
bounds-back-at c =
    lt_of_lt_of_le (arrived_below (goal.at.bounds-back-at c).After-arrive c.in-Enter.is) c.loop-k.invariant.4.inner.turn.inv.back_room

pub overflow_add-back : goal.overflow_add-back
overflow_add-back c =
    let I = c.loop-k.invariant.4.inner in
    omega (arith, chain_bound (turn_chain I.turn), I.within.given.readable.nodes)

pub offset_bounds-back-at-then-back-at-eq0 : goal.offset_bounds-back-at-then-back-at-eq0
offset_bounds-back-at-then-back-at-eq0 c = omega arith

pub bounds-back-at-then-back-at-eq0 : goal.bounds-back-at-then-back-at-eq0
bounds-back-at-then-back-at-eq0 c =
    lt_of_lt_of_le (arrived_below (goal.at.bounds-back-at-then-back-at-eq0 c).After-arrive c.in-Enter.is) c.loop-k.invariant.4.inner.turn.inv.back_room

pub offset_bounds-queue-tail : goal.offset_bounds-queue-tail
offset_bounds-queue-tail c = omega arith

pub bounds-queue-tail : goal.bounds-queue-tail
bounds-queue-tail c =
    let I = c.loop-k.invariant.4.inner in
    omega (arith, room I.turn.inv (arrived_below (goal.at.bounds-queue-tail c).After-arrive c.in-Enter.is) c.if-back-at-eq0.true, I.turn.inv.queue_room)

pub overflow_add-tail : goal.overflow_add-tail
overflow_add-tail c =
    let I = c.loop-k.invariant.4.inner in
    omega (arith, I.turn.inv.full, I.within.given.readable.nodes)

pub loop-k-preserved-in-Dropped : goal.loop-k-preserved-in-Dropped
loop-k-preserved-in-Dropped c =
    let i = c.loop-k.invariant in
    let S = c.in-Some.ensures.steps in
    let N = rw (i.5, i.6) at S.2.0 in
    let I = pair_inner i.4 N S.2.1 in
    let b = pair_below i.4 N S.2.1 in
    rw S.2.2 (i.0, i.1, i.2, i.3, pair_next i.4 N S.2.1 I.within.memory (inner_dropped I b (rw i.2 at c.arrive.ensures) c.in-Dropped.is), S.0 ∙ i.5, S.1 ∙ i.6)

pub loop-k-preserved-then-back-at-eq0 : goal.loop-k-preserved-then-back-at-eq0
loop-k-preserved-then-back-at-eq0 c =
    let i = c.loop-k.invariant in
    let S = c.in-Some.ensures.steps in
    let N = rw (i.5, i.6) at S.2.0 in
    let I = pair_inner i.4 N S.2.1 in
    let b = pair_below i.4 N S.2.1 in
    let new = c.if-back-at-eq0.true in
    let d = inner_entered I b (rw i.2 at c.arrive.ensures) (pair_flows i.4 N S.2.1) c.in-Enter.is new in
    rw S.2.2 (simp length-set i.0, simp length-set i.1, i.2, i.3, pair_next i.4 N S.2.1 (memory_keep _ _ new I.within.memory) d, S.0 ∙ i.5, S.1 ∙ i.6)

pub loop-k-preserved : goal.loop-k-preserved
loop-k-preserved c =
    let i = c.loop-k.invariant in
    let S = c.in-Some.ensures.steps in
    let N = rw (i.5, i.6) at S.2.0 in
    let I = pair_inner i.4 N S.2.1 in
    let b = pair_below i.4 N S.2.1 in
    rw S.2.2 (i.0, i.1, i.2, i.3, pair_next i.4 N S.2.1 I.within.memory (inner_seen I b (rw i.2 at c.arrive.ensures) c.in-Enter.is c.if-back-at-eq0.false), S.0 ∙ i.5, S.1 ∙ i.6)

pub take_pairs-none-requires : goal.take_pairs-none-requires
take_pairs-none-requires c =
    let i = c.loop-k.invariant in
    let I = i.4.inner in
    (I.within.given.readable.sets.counts, I.within.memory.left.size, rw i.2 (other_few I.within.given I.ahead), kept_small (goal.at.take_pairs-none-requires c).After-kept_of-kept)

pub remember-requires : goal.remember-requires
remember-requires c =
    let i = c.loop-k.invariant in
    let I = i.4.inner in
    (I.within.memory.swept_size, rw i.2 (other_few I.within.given I.ahead), kept_small (goal.at.remember-requires c).After-kept_of-kept)

pub next_offer-offer-requires : goal.next_offer-offer-requires
next_offer-offer-requires c =
    let I = c.loop-k.invariant.4.inner in
    (I.within.asker.few, block_of_type I.within.given.ready I.within.given.planned I.within.stands.range, I.ahead.resumes)

pub loop-offer-smaller : goal.loop-offer-smaller
loop-offer-smaller c = falls c.loop-k.invariant.4.inner.below c.next_offer-offer.ensures.low

pub loop-offer-preserved : goal.loop-offer-preserved
loop-offer-preserved c =
    let i = c.loop-k.invariant in
    let j = c.loop-offer.invariant in
    let L = i.4 in
    let e : c.into_iter-k-iterator.result.set.now ≡ c.step_pairs-todo.result = rw c.into_iter-k-iterator.ensures.into_iter_gives c.pairs_of-k-items.ensures.0 in
    let J = pairing_end L (rw (i.5, i.6) at c.in-None.ensures.steps.2) in
    let R = rw (i.3, i.2) at c.remember.ensures in
    let P = rw (i.3, i.2) at c.take_pairs-none.ensures in
    (i.0 ∙ j.0, i.1 ∙ j.1, inner_end J (omega arith) (inner_swept J (omega arith) (rw e at L.todo) P R) c.next_offer-offer.ensures, grown_more j.3 R.grown, c.step_pairs-todo.ensures.1)

pub remember-requires-in-search : goal.remember-requires-in-search
remember-requires-in-search c = let I = c.loop-offer.invariant.2.within in (I.memory.spent_size, own_few I.given.readable I.stands, I.asker.few)

pub overflow_add-head : goal.overflow_add-head
overflow_add-head c = omega arith

pub search-smaller : goal.search-smaller
search-smaller c = omega arith

pub search-preserved : goal.search-preserved
search-preserved c =
    let i = c.loop-offer.invariant in
    let j = c.search.invariant in
    let end = c.loop-offer-test.false in
    let R = c.remember-in-search.ensures in (
      i.0 ∙ j.0,
      i.1 ∙ j.1,
      middle_spent i.2 end (asks_from i.2.within.given c.take_up-node.ensures) R,
      middle_end i.2 end,
      shuts_turn j.4 i.2.within.asker c.first_step-offer.ensures.1 i.3 R.grown,
      i.4,
    )

pub shape_of-queue-then-tail-head : goal.shape_of-queue-then-tail-head
shape_of-queue-then-tail-head c = c.search.invariant.0

pub shape_of-back-then-tail-head : goal.shape_of-back-then-tail-head
shape_of-back-then-tail-head c = c.search.invariant.1

pub returns-then-tail-head : goal.returns-then-tail-head
returns-then-tail-head c = let i = c.search.invariant.3 in (nothing i c.if-tail-head.true, inv_visited i)

pub shape_of-queue-then-bound-depth : goal.shape_of-queue-then-bound-depth
shape_of-queue-then-bound-depth c = c.search.invariant.0

pub shape_of-back-then-bound-depth : goal.shape_of-back-then-bound-depth
shape_of-back-then-bound-depth c = c.search.invariant.1

pub returns-then-bound-depth : goal.returns-then-bound-depth
returns-then-bound-depth c =
    let i = c.search.invariant.3 in
    let more = c.if-tail-head.false in (
      elim c.if-head-level_end.branch [
        | then-head-level_end w ↦ stopped (enter i w.if-head-level_end.true more) more (let h = rw w.depth-is at c.if-bound-depth.true in omega (arith, h))
        | else-head-level_end w ↦ stopped i more (let h = rw w.depth-is at c.if-bound-depth.true in omega (arith, h))
      ],
      inv_visited i,
    )

pub shape_of-queue-in-Broken : goal.shape_of-queue-in-Broken
shape_of-queue-in-Broken c =
    c.loop-k.invariant.0 ∙ c.loop-offer.invariant.0 ∙ c.search.invariant.0

pub shape_of-back-in-Broken : goal.shape_of-back-in-Broken
shape_of-back-in-Broken c =
    c.loop-k.invariant.1 ∙ c.loop-offer.invariant.1 ∙ c.search.invariant.1

pub returns-in-Broken : goal.returns-in-Broken
returns-in-Broken c =
    let i = c.loop-k.invariant in
    let S = c.in-Some.ensures.steps in
    let N = rw (i.5, i.6) at S.2.0 in
    let h = S.2.1 in
    ((rw i.2 (inner_broken (pair_inner i.4 N h) (pair_below i.4 N h) (rw i.2 at c.arrive.ensures) (pair_flows i.4 N h) c.in-Broken.is), c.if-bound-depth.false), inv_visited i.4.inner.turn.inv)
