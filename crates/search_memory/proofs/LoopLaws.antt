-- The invariants of the three loops, and how each step of the code keeps them.
use mathlib.Core.Path.{◌≡◌, refl, sym, ◌∙◌, ap, subst}
use mathlib.Core.Bool.{Bool, true, false}
use mathlib.Core.List.{List}
use mathlib.Core.Logic.{◌⊎◌, ⊎_elim}
use Prim.Native.Nat.{ℕ, ◌+◌, ◌*◌, ◌/◌, ◌%◌, ◌^◌, ◌≤◌, ◌<◌}
use native.Mathlib.Nat.{eq-or-lt_of_le, zero-mul}
use native.Mathlib.Omega.{arith}
use lib.ListN.{get_or, set}
use Rattle.base.specs.Ranges.{Within}
use Rattle.base.proofs.BoolLaws.{first_false}
use Rattle.policy_image.specs.declared.counts.Counts.{Counts}
use Rattle.context.specs.declared.Context.{Context}
use Rattle.context.specs.Codes.{event_of}
use Rattle.context.specs.Inner.Places.{context_count, context_at_index, pair_count, first_place, OfType}
use Rattle.access.specs.Authorization.{flow}
use Rattle.plan_tables.specs.Inner.Tables.{type_entries}
use Rattle.plan.specs.Inner.Entries.{event_sets_at}
use Rattle.context.proofs.TypeLaws.{start_next, of_below}
use Rattle.search_constraints.specs.Inner.Asked.{pair_at}
use Rattle.search_steps.specs.declared.nearest.Asker.{Asker}
use Rattle.search_steps.specs.declared.nearest.Offer.{Offer}
use Rattle.search_steps.specs.Inner.Nearest.{kept_of, steps_end, NearestOf}
use Rattle.search_steps.specs.Inner.Steps.{NextOffer}
use Rattle.search_steps.specs.Inner.Pairs.{pairs_end, in_pairs}
use Rattle.search_steps.proofs.NearestLaws.{kept_few}
use Rattle.search_steps.proofs.OfferLaws.{next_law}
use Rattle.search_graph.specs.declared.arrival.Arrival.{Arrival}
use Rattle.search_graph.specs.declared.arrival.Arrival.TheVariants.{Enter, Dropped, Broken}
use Rattle.search_graph.specs.declared.task.Task.{Task}
use Rattle.search_graph.specs.Inner.Graph.{Graph, FoundAt}
use Rattle.search_graph.specs.Inner.State.{Inv, Turn}
use Rattle.search_graph.specs.Inner.Model.{barred}
use Rattle.search_graph.specs.Inner.Nodes.{code_at}
use Rattle.search_graph.specs.Inner.Arrivals.{Lands, Arriving}
use Rattle.search_graph.specs.Inner.Tasks.{states_in, Given, model_by, watch_by, graph_of, Stands, AskedStep, Faced}
use Rattle.search_graph.specs.Inner.Blocks.{Asks, Ahead, FirstStep}
use Rattle.search_graph.proofs.SearchLaws.{enter, take_up, turn_chain, chain_bound, end_turn}
use Rattle.search_graph.proofs.LevelLaws.{step_on, step_past, few_types, range_at, chain_open, edge_free, edge_flow, swept_to_lem, dropped, enter_below, entered, seen, broken}
use Rattle.search_memory.specs.declared.turn.Node.{Node}
use Rattle.search_memory.specs.Inner.Opens.{slot_of, open_key, open_at, SlotOpened, PairsTaken}
use Rattle.search_memory.specs.Inner.Memory.{AskerOf, TakenUp, FirstFrom, Remembered, Memory}
use Rattle.search_memory.proofs.StandLaws.{asks_from}
use Rattle.search_memory.proofs.MemoryLaws.{passed, edge_like, memory_opened, memory_swept, memory_spent}
use Rattle.search_memory.proofs.ShutLaws.{first_step_law}
use Rattle.plan.specs.Inner.Plan.{ruled}

-- what a search holds: the links back, the queue, what it remembers, the ends of the queue and of the level, and the level's number
pub record Search : Type 0 where
  pub back : List ℕ
  pub queue : List ℕ
  pub swept : List ℕ
  pub spent : List ℕ
  pub opens : List ℕ
  pub head : ℕ
  pub tail : ℕ
  pub stop : ℕ
  pub depth : ℕ

-- .. after more is swept, or looked up, and after a node is entered
abbrev pub swept_to : Search → List ℕ → List ℕ → Search
swept_to z swept opens = record { back = z.back; queue = z.queue; swept = swept; spent = z.spent; opens = opens; head = z.head; tail = z.tail; stop = z.stop; depth = z.depth }

abbrev pub entered_to : Search → List ℕ → List ℕ → ℕ → Search
entered_to z back queue tail = record { back = back; queue = queue; swept = z.swept; spent = z.spent; opens = z.opens; head = z.head; tail = tail; stop = z.stop; depth = z.depth }

-- in the turn of u, the edges by events before e, and by e to nodes before w, are done
abbrev pub Done : List ℕ → List ℕ → Task → Search → ℕ → ℕ → ℕ → Type 0
Done s plan t z u e w = Turn (graph_of s plan t) z.back z.queue z.head z.tail z.stop z.depth u e w

-- what is known in the turn of u, the node v that is taken up
pub record InTurn (s plan : List ℕ) (t : Task) (z : Search) (u : ℕ) (v : Node) : Type 0 where
  pub given : Given s plan t
  pub memory : Memory s plan t z.back z.swept z.spent z.opens
  pub stands : Stands t u v.x v.asker.state
  pub asker : AskerOf t.mode z.spent v.x v.asker.state v.asker

-- the steps before the offer are done
pub record Middle (s plan : List ℕ) (t : Task) (z : Search) (u : ℕ) (v : Node) (o : Offer) : Type 0 where
  pub within : InTurn s plan t z u v
  pub high : o.step ≤ steps_end
  pub ahead : o.step < steps_end → Ahead (ruled s plan) t.counts plan z.swept v.asker v.x o
  pub turn : Done s plan t z u (o.step / 4096) (first_place t.counts (o.step % 4096) * states_in t)

-- .. and of the offer's step, the targets at places below y
pub record Inner (s plan : List ℕ) (t : Task) (z : Search) (u : ℕ) (v : Node) (o : Offer) (y : ℕ) : Type 0 where
  pub within : InTurn s plan t z u v
  pub below : o.step < steps_end
  pub ahead : Ahead (ruled s plan) t.counts plan z.swept v.asker v.x o
  pub low : first_place t.counts (o.step % 4096) ≤ y
  pub high : y ≤ first_place t.counts (o.step % 4096 + 1)
  pub turn : Done s plan t z u (o.step / 4096) (y * states_in t)

-- the pairs of a set, to which the step of the offer flows; of the others of its type none is left, or it does not flow there
pub record Todo (s plan : List ℕ) (t : Task) (opens : List ℕ) (v : Node) (o : Offer) (pairs : List ℕ) : Type 0 where
  pub key : get_or opens (slot_of t.counts.types (o.step % 4096) (kept_of v.asker (event_sets_at plan (o.step / 4096)))) 0 ≡ open_key (o.step % 4096) (kept_of v.asker (event_sets_at plan (o.step / 4096)))
  pub flows : (j : ℕ) → j < pairs_end → in_pairs pairs j ≡ true → (j < pair_count t.counts) × (flow (ruled s plan) (event_of (o.step / 4096)) v.x (pair_at t.counts (o.step % 4096) j) ≡ true)
  pub rest : (j : ℕ) → j < pair_count t.counts → in_pairs pairs j ≡ false
      → (open_at opens (slot_of t.counts.types (o.step % 4096) (kept_of v.asker (event_sets_at plan (o.step / 4096)))) j ≡ false)
      ⊎ (flow (ruled s plan) (event_of (o.step / 4096)) v.x (pair_at t.counts (o.step % 4096) j) ≡ false)

-- the node at the head of the queue, whose level is the one under way or the next
pub node_below : {G : Graph} {back queue : List ℕ} {head tail stop depth : ℕ} → Inv G back queue head tail stop depth → head < tail → get_or queue head 0 < G.k
node_below i h =
    ⊎_elim (λ q. chain_bound (turn_chain (take_up (enter i q h) h))) (λ k. chain_bound (turn_chain (take_up i k))) (eq-or-lt_of_le i.head_stop)

-- ---- a turn begins
module _ {s plan : List ℕ} {t : Task} {z : Search} {u : ℕ} {v : Node} (A : Given s plan t) (N : Memory s plan t z.back z.swept z.spent z.opens) (U : TakenUp plan t z.spent u v) where
  within_begin : InTurn s plan t z u v
  within_begin = record { given = A; memory = N; stands = U.stands; asker = U.asker }

  pub middle_begin : {o : Offer} → Inv (graph_of s plan t) z.back z.queue z.head z.tail z.stop z.depth → z.head < z.stop → get_or z.queue z.head 0 ≡ u
      → FirstFrom plan z.swept v o → Middle s plan t z u v o
  middle_begin {o} i h q F₀ =
      record {
        within = within_begin;
        high = F.high;
        ahead = F.ahead;
        turn = step_on A U.stands 0 o.step (subst (λ (k : ℕ). Done s plan t z u 0 k) (sym zero) start) (omega arith)
            (few_types A o.step F.high (λ k. (F.ahead k).offering.other.high))
            (λ j w lw _ b ed. passed A N U.stands lu U.asker lw ed (F.none j _ (range_at A U.stands lw) b (edge_free A U.stands ed) (edge_flow A U.stands lw ed)));
      }
    where
      F : FirstStep (ruled s plan) t.counts plan z.swept v.asker v.x o
      F = first_step_law A.ready A.planned U.stands.range (asks_from A U) F₀

      start : Done s plan t z u 0 0
      start = subst (λ (k : ℕ). Done s plan t z k 0 0) q (take_up i h)

      lu : u < (graph_of s plan t).k
      lu = chain_bound (turn_chain start)

      zero : first_place t.counts 0 * states_in t ≡ 0
      zero = ap (λ (i : ℕ). i * t.counts.users * states_in t) (zero-mul t.counts.roles) ∙ ap (λ (i : ℕ). i * states_in t) (zero-mul t.counts.users) ∙ zero-mul (states_in t)

-- ---- numbers of an offer
module _ {s plan swept : List ℕ} {t : Task} {a : Asker} {x : Context} {o : Offer} (A : Given s plan t) (O : Ahead (ruled s plan) t.counts plan swept a x o) where
  pub event_few : o.step / 4096 < 1024
  event_few = omega (arith, O.offering.event.high, A.ready.sound.range.classes.high)

  pub other_few : o.step % 4096 < type_entries
  other_few = omega (arith, O.offering.other.high, A.ready.sound.range.types.high)

  pub other_type : Within 1 t.counts.types (o.step % 4096)
  other_type = subst (λ (c : Counts). Within 1 c.types (o.step % 4096)) (sym A.ready.same) O.offering.other

module _ {s plan : List ℕ} {t : Task} {z : Search} {u : ℕ} {v : Node} {o : Offer} where
  module _ (I : Middle s plan t z u v o) (h : steps_end ≤ o.step) where
    pub middle_end : Inv (graph_of s plan t) z.back z.queue (z.head + 1) z.tail z.stop z.depth
    middle_end = end_turn I.turn (omega arith)

    pub middle_spent : {asks : Bool} {spent' : List ℕ} → Asks (ruled s plan) t.counts plan v.x asks → Remembered z.spent spent' v.x.ty v.asker.state asks
        → Memory s plan t z.back z.swept spent' z.opens
    middle_spent C R =
        let w = I.within in
        memory_spent w.given w.memory w.stands (chain_bound (turn_chain I.turn)) w.asker I.turn h C R

  pub inner_begin : {opens' r : List ℕ} → Middle s plan t z u v o → o.step < steps_end → SlotOpened t.counts plan z.opens opens' (o.step % 4096) (kept_of v.asker (event_sets_at plan (o.step / 4096))) r
      → Inner s plan t (swept_to z z.swept opens') u v o (first_place t.counts (o.step % 4096))
  inner_begin I h P =
      let w = I.within in
      record {
        within = record {
          given = w.given;
          memory = memory_opened w.given (other_type w.given (I.ahead h)) (kept_few v.asker (event_sets_at plan (o.step / 4096)) w.asker.few) P w.memory;
          stands = w.stands;
          asker = w.asker;
        };
        below = h;
        ahead = I.ahead h;
        low = omega arith;
        high = omega (arith, start_next w.given.readable.sets.counts.countable (o.step % 4096));
        turn = I.turn;
      }

  module _ {y : ℕ} (I : Inner s plan t z u v o y) where
    A : Given s plan t
    A = I.within.given

    S : Stands t u v.x v.asker.state
    S = I.within.stands

    node_in : u < (graph_of s plan t).k
    node_in = chain_bound (turn_chain I.turn)

    -- ---- after all contexts of the type
    module _ (h : first_place t.counts (o.step % 4096 + 1) ≤ y) where
      all_done : Done s plan t z u (o.step / 4096) (first_place t.counts (o.step % 4096 + 1) * states_in t)
      all_done = subst (λ (k : ℕ). Done s plan t z u (o.step / 4096) (k * states_in t)) (let q : y ≡ first_place t.counts (o.step % 4096 + 1) = omega (arith, I.high) in q) I.turn

      pub inner_swept : {pairs opens' swept' : List ℕ} {settled : Bool} → Todo s plan t z.opens v o pairs
          → PairsTaken t.counts z.opens opens' (o.step % 4096) (kept_of v.asker (event_sets_at plan (o.step / 4096))) pairs settled
          → Remembered z.swept swept' (o.step % 4096) (kept_of v.asker (event_sets_at plan (o.step / 4096))) settled → Memory s plan t z.back swept' z.spent opens'
      inner_swept T P R = memory_swept A I.within.memory S node_in I.within.asker I.ahead all_done T.key (λ j l b. (T.flows j l b).1) P R

      pub inner_end : {swept' opens' : List ℕ} {r : Offer} → Memory s plan t z.back swept' z.spent opens' → NearestOf plan swept' v.asker v.x.ty (o.step + 1) r
          → Middle s plan t (swept_to z swept' opens') u v r
      inner_end {swept'} {opens'} {r} N O₀ =
          record {
            within = record { given = A; memory = N; stands = S; asker = I.within.asker };
            high = O.high;
            ahead = λ k. record { free = I.ahead.free; meets = I.ahead.meets; offering = O.offers k; unclosed = O.unclosed k; resumes = O.resumes k };
            turn = step_on A S (o.step + 1) r.step here O.low
                (few_types A r.step O.high (λ k. (O.offers k).other.high))
                (λ j w lw d b ed.
                ⊎_elim (passed A N S node_in I.within.asker lw ed)
                (λ E. step_past A S (o.step + 1) here E.event w lw E.before
                (edge_like A N S node_in I.within.asker (chain_open A (turn_chain I.turn)) lw ed E.sets E.flows))
                (O.none j _ (range_at A S lw) d b (edge_flow A S lw ed)));
          }
        where
          O : NextOffer (ruled s plan) plan swept' v.asker v.x (o.step + 1) r
          O = next_law A.ready A.planned S.range O₀

          here : Done s plan t z u ((o.step + 1) / 4096) (first_place t.counts ((o.step + 1) % 4096) * states_in t)
          here = swept_to_lem A S o.step (other_type A I.ahead).high all_done

    -- ---- at one context
    not_excepted : barred plan (o.step / 4096) ≡ false
    not_excepted = first_false (barred plan (o.step / 4096)) _ I.ahead.unclosed

    module _ (h : y < first_place t.counts (o.step % 4096 + 1)) where
      pub inner_type : OfType t.counts (o.step % 4096) y
      inner_type = record { type = other_type A I.ahead; low = I.low; high = h }

      pub inner_place : y < context_count t.counts
      inner_place = of_below A.readable.sets.counts.countable inner_type

      pub inner_fits : y + 1 < 2 ^ 32
      inner_fits = omega (arith, inner_place, A.readable.sets.counts.countable.few)

      -- the event goes on to the context
      asked : AskedStep t.counts plan v.x (o.step / 4096)
      asked = record { high = let k = event_few A I.ahead in omega arith; free = λ _. I.ahead.free }

      module _ {r : Arrival} (Z : Arriving plan t v.asker.state (event_sets_at plan (o.step / 4096)) y r) where
        abbrev goes : ℕ
        goes = (watch_by s plan t).step v.asker.state (o.step / 4096) (code_at t.counts y)

        lands : {r' : Arrival} → r ≡ r' → Lands (model_by s plan t) t.counts (watch_by s plan t) (states_in t) y goes r'
        lands q = subst (Lands (model_by s plan t) t.counts (watch_by s plan t) (states_in t) y goes) q (Z.at s (o.step / 4096) refl)

        pub inner_below : {w : ℕ} → r ≡ Enter w → w < context_count t.counts * states_in t
        inner_below q = enter_below A S I.turn inner_place (lands q)

        pub inner_seen : {w : ℕ} → r ≡ Enter w → (get_or z.back w 0 ≡ 0 → ⊥) → Done s plan t z u (o.step / 4096) ((y + 1) * states_in t)
        inner_seen q n = seen A S I.turn inner_place (lands q) n

        pub inner_dropped : r ≡ Dropped → Done s plan t z u (o.step / 4096) ((y + 1) * states_in t)
        inner_dropped q = dropped A S I.turn inner_place (lands q)

        -- where the context is a target
        module _ (flows : flow (ruled s plan) (event_of (o.step / 4096)) v.x (context_at_index t.counts y) ≡ true) where
          faced : Faced (ruled s plan) t.counts plan v.x (o.step / 4096) y
          faced =
              record {
                high = let k = inner_place in omega arith;
                free = λ _. not_excepted;
                flows = λ _. flows;
              }

          few : o.step / 4096 < 1024
          few = event_few A I.ahead

          pub inner_entered : {w : ℕ} → r ≡ Enter w → get_or z.back w 0 ≡ 0
              → Done s plan t (entered_to z (set z.back w (u + 1)) (set z.queue z.tail w) (z.tail + 1)) u (o.step / 4096) ((y + 1) * states_in t)
          inner_entered q n = entered A S I.turn inner_place few asked faced (lands q) n

          pub inner_broken : {w : ℕ} → r ≡ Broken w → FoundAt (graph_of s plan t) z.back u (o.step / 4096) w z.depth
          inner_broken q = broken A S I.turn inner_place few asked faced (lands q)

      -- the next context, with what is entered
      pub inner_next : {back' queue' : List ℕ} {tail' : ℕ} → Memory s plan t back' z.swept z.spent z.opens
          → Done s plan t (entered_to z back' queue' tail') u (o.step / 4096) ((y + 1) * states_in t)
          → Inner s plan t (entered_to z back' queue' tail') u v o (y + 1)
      inner_next N k =
          record {
            within = record { given = A; memory = N; stands = S; asker = I.within.asker };
            below = I.below;
            ahead = I.ahead;
            low = omega (arith, I.low);
            high = omega arith;
            turn = k;
          }
