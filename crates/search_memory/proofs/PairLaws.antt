-- The loop over the pairs to which a step leads.
use mathlib.Core.Path.{◌≡◌, sym, ◌∙◌, ap, ap₂, subst}
use mathlib.Core.Bool.{Bool, true, false, ◌&&◌, cond}
use mathlib.Core.List.{List}
use mathlib.Core.Logic.{inl, inr, ⊎_elim}
use Prim.Native.Nat.{ℕ, ◌+◌, ◌-◌, ◌*◌, ◌/◌, ◌%◌, ◌≤◌, ◌<◌}
use native.Mathlib.Nat.{add-zero}
use native.Mathlib.Omega.{arith}
use borrow.Author.Tests.{lt-ltb, le-ltb}
use lib.Dec.{ltb}
use Rattle.base.specs.Bits.{bit}
use Rattle.base.specs.Ranges.{Within}
use Rattle.base.proofs.Numbers.{split_le}
use Rattle.base.proofs.BoolLaws.{and_second, true_or_false, clash}
use Rattle.policy_image.specs.declared.counts.Counts.{Counts}
use Rattle.policy_image.specs.Policy.{policy_of}
use Rattle.context.specs.declared.Context.{Context}
use Rattle.context.specs.Codes.{event_of}
use Rattle.context.specs.Ranges.{ContextInRange}
use Rattle.context.specs.Inner.Places.{context_count, context_at_index, pair_count, first_place}
use Rattle.context.proofs.TypeLaws.{type_is, start_le}
use Rattle.access.specs.Authorization.{flow}
use Rattle.goal_model.specs.Images.{meetsρμ}
use Rattle.plan.specs.Inner.Entries.{event_sets_at}
use Rattle.plan.proofs.ContextLaws.{pairs_few}
use Rattle.search_constraints.specs.Inner.Pairs.{RowsOf, Marked}
use Rattle.search_constraints.specs.Inner.Asked.{pair_at, AskedBefore}
use Rattle.search_steps.specs.declared.nearest.Asker.{Asker}
use Rattle.search_steps.specs.declared.nearest.Offer.{Offer}
use Rattle.search_steps.specs.Inner.Nearest.{kept_of, steps_end}
use Rattle.search_steps.specs.Inner.Steps.{special_by, Facing}
use Rattle.search_steps.specs.Inner.Pairs.{pairs_end, in_pairs, StepPairs, NextPair, Asking}
use Rattle.search_steps.proofs.NearestLaws.{kept_few}
use Rattle.search_steps.proofs.OfferLaws.{special_is}
use Rattle.search_graph.specs.declared.task.Task.{Task}
use Rattle.search_graph.specs.Inner.State.{Clear}
use Rattle.search_graph.specs.Inner.Nodes.{place_of, state_of}
use Rattle.search_graph.specs.Inner.Tasks.{states_in, Given, graph_of, type_of, Stands}
use Rattle.search_graph.specs.Inner.Blocks.{Ahead}
use Rattle.search_graph.proofs.SearchLaws.{turn_chain, chain_bound}
use Rattle.search_graph.proofs.LevelLaws.{edge_flow, skip_to}
use Rattle.search_memory.specs.declared.turn.Node.{Node}
use Rattle.search_memory.specs.Inner.Opens.{slot_of, open_key, open_at, SlotOpened, node_pair}
use Rattle.search_memory.specs.Inner.Memory.{kept_by, Memory}
use Rattle.search_memory.proofs.OpenLaws.{start_pairs, pair_context, pair_in, pair_is}
use Rattle.search_memory.proofs.MemoryLaws.{kept_is}
use Rattle.search_memory.proofs.LoopLaws.{Search, swept_to, entered_to, Done, Middle, Inner, Todo, event_few, other_type, inner_begin, inner_next}
use Rattle.plan.specs.Inner.Plan.{ruled}

-- ---- what a step asks
module _ {s plan : List ℕ} {t : Task} (A : Given s plan t) where
  pub asking : {rows marks memo : List ℕ} → RowsOf t.counts rows → Marked (policy_of s) marks → AskedBefore (policy_of s) marks memo → Asking s plan rows marks memo
  asking {rows} R M B =
      record {
        sound = A.ready.sound;
        size = A.readable.sets.size;
        tables = A.planned.policy.tables;
        groups = A.planned.policy.groups;
        words = subst (λ (c : Counts). RowsOf c rows) A.ready.same R;
        marked = M;
        before = B;
      }

  pub facing : {swept : List ℕ} {a : Asker} {x : Context} {o : Offer} → Ahead (ruled s plan) t.counts plan swept a x o
      → Facing (ruled s plan) plan x (o.step / 4096) (o.step % 4096) o.entry (special_by plan (o.step / 4096))
  facing O = record { meets = O.meets; offering = O.offering; conditions = special_is A.planned.policy (event_few A O) }

  pub in_policy : {u state : ℕ} {x : Context} → Stands t u x state → ContextInRange (policy_of s).counts x
  in_policy {x = x} S = subst (λ (c : Counts). ContextInRange c x) A.ready.same S.range

  pub pairs_high : pair_count t.counts ≤ pairs_end
  pairs_high = omega (arith, pairs_few A.planned.policy.counts)

-- ---- the pairs, one after the other
-- pair k, or where there is none the number of pairs
abbrev pub up_to : Counts → ℕ → ℕ
up_to n k = cond (ltb k (pair_count n)) k (pair_count n)

pub up_to_pair : (n : Counts) (k : ℕ) → k < pair_count n → up_to n k ≡ k
up_to_pair n k h = ap (λ (b : Bool). cond b k (pair_count n)) (lt-ltb k (pair_count n) h)

pub up_to_end : (n : Counts) (k : ℕ) → pair_count n ≤ k → up_to n k ≡ pair_count n
up_to_end n k h = ap (λ (b : Bool). cond b k (pair_count n)) (le-ltb k (pair_count n) h)

module _ {s plan : List ℕ} {t : Task} {z : Search} {u : ℕ} {v : Node} {o : Offer} {y : ℕ} (I : Inner s plan t z u v o y) where
  A₁ : Given s plan t
  A₁ = I.within.given

  few_pairs : pair_count t.counts ≤ 225
  few_pairs = pairs_few A₁.planned.policy.counts

  abbrev flows_to : ℕ → Bool
  flows_to j = flow (ruled s plan) (event_of (o.step / 4096)) v.x (pair_at t.counts (o.step % 4096) j)

  abbrev keeps : ℕ
  keeps = kept_of v.asker (event_sets_at plan (o.step / 4096))

  abbrev slot : ℕ
  slot = slot_of t.counts.types (o.step % 4096) keeps

  pub todo_of : {old among pairs : List ℕ} → SlotOpened t.counts plan old z.opens (o.step % 4096) keeps among
      → StepPairs (ruled s plan) (policy_of s).counts v.x (o.step / 4096) (o.step % 4096) among pairs 4 → Todo s plan t z.opens v o pairs
  todo_of {among = among} {pairs} P F₀ =
      record {
        key = P.key;
        flows = λ j h b. let H = held j h (F.among j h b) in (H.0, and_second (in_pairs among j) (flows_to j) (sym (F.at j (omega arith) H.0 H.1) ∙ b));
        rest = λ j h f.
            let l : j < 256 = omega (arith, few_pairs) in
            ⊎_elim
            (λ (b : in_pairs among j ≡ true). inr (sym (ap (λ (c : Bool). c && flows_to j) b) ∙ sym (F.at j (omega arith) h (held j l b).1) ∙ f))
            (λ (b : in_pairs among j ≡ false). inl (sym (same j l) ∙ b))
            (true_or_false (in_pairs among j));
      }
    where
      F : StepPairs (ruled s plan) t.counts v.x (o.step / 4096) (o.step % 4096) among pairs 4
      F = subst (λ (c : Counts). StepPairs (ruled s plan) c v.x (o.step / 4096) (o.step % 4096) among pairs 4) (sym A₁.ready.same) F₀

      same : (j : ℕ) → j < 256 → in_pairs among j ≡ open_at z.opens slot j
      same j h = ap (λ (w : ℕ). bit w (j % 64)) (P.words (j / 64) (omega arith))

      held : (j : ℕ) → j < 256 → in_pairs among j ≡ true → (j < pair_count t.counts) × (meetsρμ (ruled s plan) (pair_at t.counts (o.step % 4096) j) ≡ true)
      held j h b =
          I.within.memory.left.held slot (o.step % 4096) keeps j (omega arith) (kept_few v.asker (event_sets_at plan (o.step / 4096)) I.within.asker.few) h P.key (sym (same j h) ∙ b)

-- the search goes on to the next pair: those between are not left, or the step does not flow there
pub inner_jump : {s plan : List ℕ} {t : Task} {z : Search} {u : ℕ} {v : Node} {o : Offer} {pairs : List ℕ} {from k : ℕ} → Todo s plan t z.opens v o pairs
    → Inner s plan t z u v o (first_place t.counts (o.step % 4096) + from) → from ≤ pair_count t.counts → NextPair pairs from (pair_count t.counts) k
    → Inner s plan t z u v o (first_place t.counts (o.step % 4096) + up_to t.counts k)
inner_jump {s} {plan} {t} {z} {u} {v} {o} {pairs} {from} {k} T I lf N =
    record {
      within = I.within;
      below = I.below;
      ahead = I.ahead;
      low = omega arith;
      high = let e = end in omega (arith, up);
      turn = skip_to A I.within.stands I.turn (of_end) skipped;
    }
  where
    A : Given s plan t
    A = I.within.given

    n : Counts
    n = t.counts

    up : up_to n k ≤ pair_count n
    up = ⊎_elim (λ (h : pair_count n ≤ k). omega (arith, up_to_end n k h)) (λ (h : k < pair_count n). omega (arith, up_to_pair n k h)) (split_le (pair_count n) k)

    type : Within 1 n.types (o.step % 4096)
    type = other_type A I.ahead

    end : first_place n (o.step % 4096 + 1) ≡ first_place n (o.step % 4096) + pair_count n
    end = start_pairs n (o.step % 4096) type.low

    of_end : first_place n (o.step % 4096) + up_to n k ≤ context_count n
    of_end = let e = end in omega (arith, up, start_le A.readable.sets.counts.countable (o.step % 4096 + 1) (let h = type.high in omega arith))

    below_next : {j : ℕ} → j < up_to n k → j < k
    below_next {j} h = ⊎_elim (λ (l : pair_count n ≤ k). omega (arith, up_to_end n k l)) (λ (l : k < pair_count n). omega (arith, up_to_pair n k l)) (split_le (pair_count n) k)

    -- an edge to a place between the two
    skipped : (w : ℕ) → w < (graph_of s plan t).k → first_place n (o.step % 4096) + from ≤ place_of (states_in t) w → place_of (states_in t) w < first_place n (o.step % 4096) + up_to n k
        → (graph_of s plan t).Edge u (o.step / 4096) w → Clear (graph_of s plan t) z.back w
    skipped w lw lo hi ed =
        ⊎_elim
        (λ (f : open_at z.opens slot₀ (node_pair t w) ≡ false).
        I.within.memory.left.clear slot₀ u (o.step / 4096) w (omega arith) (chain_bound (turn_chain I.turn)) lw ed (T.key ∙ ap₂ open_key (sym is) kept_same) f)
        (λ (f : flow (ruled s plan) (event_of (o.step / 4096)) v.x (pair_at n (o.step % 4096) (node_pair t w)) ≡ false).
        absurd (clash (edge_flow A I.within.stands lw ed)
        (ap (flow (ruled s plan) (event_of (o.step / 4096)) v.x) (sym (pair_is A lw) ∙ ap (λ (i : ℕ). pair_at n i (node_pair t w)) is) ∙ f)))
        (T.rest (node_pair t w) (pair_in A lw) (N.none (node_pair t w) (let q = at in omega arith) (pair_in A lw) (below_next (let q = at in omega arith))))
      where
        slot₀ : ℕ
        slot₀ = slot_of n.types (o.step % 4096) (kept_of v.asker (event_sets_at plan (o.step / 4096)))

        is : type_of t w ≡ o.step % 4096
        is = type_is A.readable.sets.counts.countable (o.step % 4096) (place_of (states_in t) w) (omega arith) (let e = end in omega (arith, up))

        at : node_pair t w ≡ place_of (states_in t) w - first_place n (o.step % 4096)
        at = ap (λ (i : ℕ). place_of (states_in t) w - first_place n i) is

        kept_same : kept_of v.asker (event_sets_at plan (o.step / 4096)) ≡ kept_by t.mode plan (state_of (states_in t) u) (o.step / 4096)
        kept_same = kept_is A I.within.stands I.within.asker (event_sets_at plan (o.step / 4096))

-- the search went through the pairs of the set before from
pub record Pairing (s plan : List ℕ) (t : Task) (z : Search) (u : ℕ) (v : Node) (o : Offer) (pairs : List ℕ) (from : ℕ) : Type 0 where
  pub inner : Inner s plan t z u v o (first_place t.counts (o.step % 4096) + from)
  pub todo : Todo s plan t z.opens v o pairs
  pub high : from ≤ pair_count t.counts

pub pairing_begin : {s plan : List ℕ} {t : Task} {z : Search} {u : ℕ} {v : Node} {o : Offer} {opens' among pairs : List ℕ} {from : ℕ} → from ≡ 0 → Middle s plan t z u v o → o.step < steps_end
    → SlotOpened t.counts plan z.opens opens' (o.step % 4096) (kept_of v.asker (event_sets_at plan (o.step / 4096))) among
    → StepPairs (ruled s plan) (policy_of s).counts v.x (o.step / 4096) (o.step % 4096) among pairs 4 → Pairing s plan t (swept_to z z.swept opens') u v o pairs from
pairing_begin {s} {plan} {t} {z} {u} {v} {o} {opens'} {among} {pairs} q M h P F =
    record {
      inner = subst (λ (i : ℕ). Inner s plan t (swept_to z z.swept opens') u v o (first_place t.counts (o.step % 4096) + i)) (sym q) (subst (Inner s plan t (swept_to z z.swept opens') u v o) (sym (add-zero (first_place t.counts (o.step % 4096)))) I);
      todo = todo_of I P F;
      high = omega (arith, q);
    }
  where
    I : Inner s plan t (swept_to z z.swept opens') u v o (first_place t.counts (o.step % 4096))
    I = inner_begin M h P

module _ {s plan : List ℕ} {t : Task} {z : Search} {u : ℕ} {v : Node} {o : Offer} {pairs : List ℕ} {from : ℕ} (L : Pairing s plan t z u v o pairs from) where
  type₀ : Within 1 t.counts.types (o.step % 4096)
  type₀ = other_type L.inner.within.given L.inner.ahead

  end₀ : first_place t.counts (o.step % 4096 + 1) ≡ first_place t.counts (o.step % 4096) + pair_count t.counts
  end₀ = start_pairs t.counts (o.step % 4096) type₀.low

  -- no pair is left
  pub pairing_end : NextPair pairs from (pair_count t.counts) pairs_end → Inner s plan t z u v o (first_place t.counts (o.step % 4096 + 1))
  pairing_end N =
      let few = pairs_few L.inner.within.given.planned.policy.counts in
      subst (Inner s plan t z u v o) (ap (λ (i : ℕ). first_place t.counts (o.step % 4096) + i) (up_to_end t.counts pairs_end (omega arith)) ∙ sym end₀)
      (inner_jump L.todo L.inner L.high N)

  -- at a pair
  module _ {k : ℕ} (N : NextPair pairs from (pair_count t.counts) k) (h : k < pairs_end) where
    pub pair_low : k < pair_count t.counts
    pair_low = (L.todo.flows k h (N.has h)).0

    pub pair_inner : Inner s plan t z u v o (first_place t.counts (o.step % 4096) + k)
    pair_inner = subst (λ (i : ℕ). Inner s plan t z u v o (first_place t.counts (o.step % 4096) + i)) (up_to_pair t.counts k pair_low) (inner_jump L.todo L.inner L.high N)

    pub pair_below : first_place t.counts (o.step % 4096) + k < first_place t.counts (o.step % 4096 + 1)
    pair_below = let e = end₀ in let l = pair_low in omega arith

    pub pair_flows : flow (ruled s plan) (event_of (o.step / 4096)) v.x (context_at_index t.counts (first_place t.counts (o.step % 4096) + k)) ≡ true
    pair_flows = ap (flow (ruled s plan) (event_of (o.step / 4096)) v.x) (pair_context L.inner.within.given type₀ pair_low) ∙ (L.todo.flows k h (N.has h)).1

    -- the next is looked for behind it, with what is entered
    pub pair_next : {back' queue' : List ℕ} {tail' : ℕ} → Memory s plan t back' z.swept z.spent z.opens
        → Done s plan t (entered_to z back' queue' tail') u (o.step / 4096) ((first_place t.counts (o.step % 4096) + k + 1) * states_in t)
        → Pairing s plan t (entered_to z back' queue' tail') u v o pairs (k + 1)
    pair_next {back'} {queue'} {tail'} M d =
        record {
          inner = subst (Inner s plan t (entered_to z back' queue' tail') u v o) (let e : first_place t.counts (o.step % 4096) + k + 1 ≡ first_place t.counts (o.step % 4096) + (k + 1) = omega arith in e)
              (inner_next pair_inner pair_below M d);
          todo = L.todo;
          high = let l = pair_low in omega arith;
        }
