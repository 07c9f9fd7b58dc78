-- What a search remembers stays true, and what it passes over by it leads to nodes that are entered.
use mathlib.Core.Path.{◌≡◌, refl, sym, ◌∙◌, ap, ap₂, subst}
use mathlib.Core.Bool.{Bool, true, false, not, ◌&&◌}
use mathlib.Core.List.{List}
use mathlib.Core.Logic.{◌⊎◌, inl, inr, ⊎_elim}
use Prim.Native.Nat.{ℕ, ◌+◌, ◌*◌, ◌/◌, ◌%◌, ◌^◌, ◌≤◌, ◌<◌}
use native.Mathlib.Nat.{mod-lt}
use native.Mathlib.Omega.{arith}
use lib.Bits.{bit_and, bit_or}
use lib.Dec.{T}
use lib.ListN.{length, get_or, set, length-set, replicate, length-replicate}
use lib.Seq.{get_or-set_same, get_or-set_other}
use Rattle.base.specs.Bits.{bit}
use Rattle.base.proofs.BitLaws.{bit_or_lem, bit_zero}
use Rattle.base.proofs.Numbers.{split_eq, split_le, zeros}
use Rattle.base.specs.Ranges.{Within}
use Rattle.base.proofs.BoolLaws.{and_first, and_yes, or_cases, or_left, first_false, true_or_false, clash}
use Rattle.policy_image.specs.declared.counts.Counts.{Counts}
use Rattle.context.specs.declared.Context.{Context}
use Rattle.context.specs.Codes.{event_of}
use Rattle.context.specs.Inner.Places.{Countable, context_count, context_at_index, first_place}
use Rattle.access.specs.Authorization.{flow}
use Rattle.goal_image.specs.Goal.{γeChain}
use Rattle.paths.specs.Model.{Model}
use Rattle.goal_model.specs.Images.{meetsρμ}
use Rattle.plan.specs.Inner.Entries.{counted_at, event_sets_at}
use Rattle.plan.specs.Inner.Plan.{special, ruled}
use Rattle.context.proofs.TypeLaws.{type_le}
use Rattle.search_constraints.specs.Inner.Asked.{pair_at}
use Rattle.search_steps.specs.declared.nearest.Asker.{Asker}
use Rattle.search_steps.specs.declared.nearest.Offer.{Offer}
use Rattle.search_steps.specs.Inner.Nearest.{kept_of, PassedOver}
use Rattle.search_steps.specs.Inner.Pairs.{in_pairs}
use Rattle.search_steps.proofs.NearestLaws.{kept_few}
use Rattle.search_steps.proofs.FlowLaws.{flow_class, plain_same}
use Rattle.search_graph.specs.declared.monitor.Mode.{Mode}
use Rattle.search_graph.specs.declared.task.Task.{Task}
use Rattle.search_graph.specs.Inner.Graph.{Graph}
use Rattle.search_graph.specs.Inner.State.{Turn, Clear}
use Rattle.search_graph.specs.Inner.Model.{excepted, barred}
use Rattle.search_graph.specs.Inner.Nodes.{Watch, place_of, state_of, code_of}
use Rattle.search_graph.specs.Inner.Watching.{By}
use Rattle.search_graph.specs.Inner.Tasks.{states_in, Given, model_by, watch_by, graph_of, type_of, Stands}
use Rattle.search_graph.specs.Inner.Blocks.{Asks, Ahead}
use Rattle.search_graph.proofs.SearchLaws.{clear_keep, turn_chain}
use Rattle.search_graph.proofs.ModelLaws.{states_some}
use Rattle.search_graph.proofs.ArrivalLaws.{by_of}
use Rattle.search_graph.proofs.LevelLaws.{place_lt, place_le, whole, chain_open, edge_flow, edge_free, edge_free_e, edge_at}
use Rattle.search_memory.specs.Inner.Opens.{slot_of, open_key, open_at, SlotOpened, PairsTaken, node_pair}
use Rattle.search_memory.specs.Inner.Memory.{kept_by, Marks, Remembered, AskerOf, Opens, Memory}
use Rattle.search_memory.proofs.KeptLaws.{kept, step_by_kept}
use Rattle.search_memory.proofs.StandLaws.{state_small, stands_any, kept_small}
use Rattle.search_memory.proofs.OpenLaws.{opens_begin, opens_keep, opens_opened, key_same, same_open, pair_is, pair_few}

-- nothing is remembered at first
pub memory_begin : (s plan : List ℕ) (t : Task) (back : List ℕ) → Memory s plan t back (replicate 256 0) (replicate 256 0) (replicate 5120 0)
memory_begin s plan t back =
    record {
      left = opens_begin s plan t back;
      swept_size = length-replicate {A = ℕ} 256 0;
      spent_size = length-replicate {A = ℕ} 256 0;
      swept_clear = λ u e w lu lw ed b. absurd (clash b (empty (type_of t w) _));
      spent_clear = λ u e w lu lw ed _ b. absurd (clash b (empty (type_of t u) _));
    }
  where
    empty : (t k : ℕ) → bit (get_or (replicate 256 0) t 0) k ≡ false
    empty t k = ap (λ (v : ℕ). bit v k) (zeros 256 t) ∙ bit_zero k

-- a node is entered
pub memory_keep : {s plan : List ℕ} {t : Task} {back swept spent opens : List ℕ} (v x : ℕ) → get_or back v 0 ≡ 0
    → Memory s plan t back swept spent opens → Memory s plan t (set back v x) swept spent opens
memory_keep v x z M =
    record {
      left = opens_keep v x z M.left;
      swept_size = M.swept_size;
      spent_size = M.spent_size;
      swept_clear = λ u e w lu lw ed b. clear_keep v x z (M.swept_clear u e w lu lw ed b);
      spent_clear = λ u e w lu lw ed p b. clear_keep v x z (M.spent_clear u e w lu lw ed p b);
    }

-- a slot is looked up
pub memory_opened : {s plan : List ℕ} {t : Task} {back swept spent opens opens' r : List ℕ} {o k : ℕ} → Given s plan t → Within 1 t.counts.types o → k < 64
    → SlotOpened t.counts plan opens opens' o k r → Memory s plan t back swept spent opens → Memory s plan t back swept spent opens'
memory_opened A w lk P M =
    record {
      left = opens_opened A w lk M.left P;
      swept_size = M.swept_size;
      spent_size = M.spent_size;
      swept_clear = M.swept_clear;
      spent_clear = M.spent_clear;
    }

-- a bit of a set after one is added
added_bit : (l : List ℕ) (t mark i k : ℕ) → t < length l → bit (get_or (set l t (bit_or (get_or l t 0) mark)) i 0) k ≡ true
    → (bit (get_or l i 0) k ≡ true) ⊎ ((i ≡ t) × (bit mark k ≡ true))
added_bit l t mark i k h b =
    ⊎_elim
    (λ (q : i ≡ t).
    let c : bit (bit_or (get_or l t 0) mark) k ≡ true = ap (λ (v : ℕ). bit v k) (sym (ap (λ (j : ℕ). get_or (set l t (bit_or (get_or l t 0) mark)) j 0) q ∙ get_or-set_same l t (bit_or (get_or l t 0) mark) 0 h)) ∙ b in
    ⊎_elim (λ d. inl (ap (λ (j : ℕ). bit (get_or l j 0) k) q ∙ d)) (λ d. inr (q, d)) (or_cases (bit (get_or l t 0) k) (bit mark k) (sym (bit_or_lem (get_or l t 0) mark k) ∙ c)))
    (λ (d : i ≡ t → ⊥). inl (ap (λ (v : ℕ). bit v k) (sym (get_or-set_other l t i (bit_or (get_or l t 0) mark) 0 d)) ∙ b))
    (split_eq i t)

added_stays : (l : List ℕ) (t mark i k : ℕ) → t < length l → bit (get_or l i 0) k ≡ true → bit (get_or (set l t (bit_or (get_or l t 0) mark)) i 0) k ≡ true
added_stays l t mark i k h b =
    ⊎_elim
    (λ (q : i ≡ t).
    ap (λ (j : ℕ). bit (get_or (set l t (bit_or (get_or l t 0) mark)) j 0) k) q ∙ ap (λ (v : ℕ). bit v k) (get_or-set_same l t (bit_or (get_or l t 0) mark) 0 h) ∙ bit_or_lem (get_or l t 0) mark k
    ∙ or_left (bit (get_or l t 0) k) (bit mark k) (ap (λ (j : ℕ). bit (get_or l j 0) k) (sym q) ∙ b))
    (λ (d : i ≡ t → ⊥). ap (λ (v : ℕ). bit v k) (get_or-set_other l t i (bit_or (get_or l t 0) mark) 0 d) ∙ b)
    (split_eq i t)

pub remembered : {l : List ℕ} {o k mark : ℕ} {yes : Bool} → o < length l → Marks k yes mark → Remembered l (set l o (bit_or (get_or l o 0) mark)) o k yes
remembered {l} {o} {mark = mark} h M =
    record {
      size = simp length-set refl;
      grown = record { stays = λ t i b. added_stays l o mark t i h b };
      only = λ t i b. ⊎_elim inl (λ d. let w = M.only i d.1 in inr (d.0, w.0, w.1)) (added_bit l o mark t i h b);
    }

module _ {s plan : List ℕ} {t₀ : Task} (A : Given s plan t₀) where
  abbrev n : Counts
  n = t₀.counts

  abbrev m : Mode
  m = t₀.mode

  abbrev M : Model
  M = model_by s plan t₀

  abbrev W : Watch
  W = watch_by s plan t₀

  abbrev K : ℕ
  K = states_in t₀

  abbrev G : Graph
  G = graph_of s plan t₀

  C₀ : Countable n
  C₀ = A.readable.sets.counts.countable

  state_lt : (v : ℕ) → state_of K v < K
  unfolding state_of
  state_lt v = mod-lt v (states_some t₀)

  place_in : {v : ℕ} → v < G.k → place_of K v < context_count n
  place_in h = place_lt (states_some t₀) h

  -- an event that flows is one of a class of the policy
  event_in_lem : (e : ℕ) (x y : Context) → flow (ruled s plan) (event_of e) x y ≡ true → e / 32 < 32
  event_in_lem e x y f = let w = (flow_class {s = s} (counted_at plan) (event_of e) x y A.ready.sound f).high in omega (arith, A.ready.sound.range.classes.high)

  by_at : (e : ℕ) → By M e (event_sets_at plan e)
  by_at e = by_of s plan t₀ refl

  -- an edge from another node to w, as one from u by another event
  module _ {u state : ℕ} {x : Context} (S : Stands t₀ u x state) (first : ¬ T (M.σ M.legs (code_of n K u))) (free : excepted n plan x ≡ false) where
    pub edge_from : (u' e e₀ w : ℕ) → w < G.k → G.Edge u' e w → barred plan e₀ ≡ false
        → flow (ruled s plan) (event_of e₀) x (context_at_index n (place_of K w)) ≡ true
        → W.step (state_of K u') e (code_of n K w) ≡ W.step state e₀ (code_of n K w) → G.Edge u e₀ w
    edge_from u' e e₀ w lw ed free_e f q =
        let st : state_of K w ≡ W.step state e₀ (code_of n K w) = ed.state ∙ q in
        edge_at A S e₀ (place_of K w) (place_in lw) (whole K w ∙ ap (λ (i : ℕ). place_of K w * K + i) st) (subst (λ (i : ℕ). i < K) st (state_lt w)) first free free_e f
        (λ z. subst (λ (i : ℕ). T (W.bad i)) st (ed.kept z))

  -- what an event keeps of the asker's state
  pub kept_is : {spent : List ℕ} {u state : ℕ} {x : Context} {a : Asker} → Stands t₀ u x state → AskerOf m spent x state a → (by : ℕ) → kept_of a by ≡ kept m (state_of K u) by
  kept_is S Q by = ap₂ (λ (i j : ℕ). bit_and i (bit_or j (by / 2 ^ 7))) (Q.state_is ∙ S.at) Q.keeps_are

  -- ---- what is passed over
  module _ {back swept spent opens : List ℕ} (N : Memory s plan t₀ back swept spent opens) {u state : ℕ} {x : Context} (S : Stands t₀ u x state) (lu : u < G.k) {a : Asker} (Q : AskerOf m spent x state a) where
    own_type : x.ty ≡ type_of t₀ u
    own_type = ap (λ (z : Context). z.ty) S.place

    pub passed : {i w : ℕ} → w < G.k → G.Edge u i w → PassedOver plan swept a i (type_of t₀ w) → Clear G back w
    passed {i} {w} lw ed (inl c) =
        ⊎_elim
        (λ (b : barred plan i ≡ true). absurd (clash b (edge_free_e A S ed)))
        (λ b. N.swept_clear u i w lu lw ed (ap (bit (get_or swept (type_of t₀ w) 0)) (sym (kept_is S Q (event_sets_at plan i))) ∙ b))
        (or_cases (barred plan i) (bit (get_or swept (type_of t₀ w) 0) (kept_of a (event_sets_at plan i))) c)
    passed {i} {w} lw ed (inr c) =
        N.spent_clear u i w lu lw ed (sym (A.planned.policy.tables.special_at_lem (i / 32) (i % 32) (event_in_lem i x (context_at_index n (place_of K w)) (edge_flow A S lw ed))) ∙ c.1)
        (ap₂ (λ (t k : ℕ). bit (get_or spent t 0) k) (sym own_type) (sym S.at) ∙ sym Q.spent_is ∙ c.0)

    -- an event in the same sets that flows to the same context leads to the same node
    pub edge_like : ¬ T (M.σ M.legs (code_of n K u)) → {i e w : ℕ} → w < G.k → G.Edge u i w → event_sets_at plan e ≡ event_sets_at plan i
        → flow (ruled s plan) (event_of e) x (context_at_index n (place_of K w)) ≡ true → G.Edge u e w
    edge_like first {i} {e} {w} lw ed q f =
        let few : state < 64 = subst (λ (k : ℕ). k < 64) Q.state_is Q.few in
        let free : barred plan e ≡ false = ap (λ (k : ℕ). bit k γeChain) q ∙ edge_free_e A S ed in
        edge_from S first (edge_free A S ed) u i e w lw ed free f
        (ap (λ (k : ℕ). W.step k i (code_of n K w)) (sym S.at) ∙ step_by_kept m state state (code_of n K w) few few (by_at i) (by_at e) (ap (λ (k : ℕ). kept m state k) (sym q)))

    -- ---- the contexts of a type are swept
    module _ {queue : List ℕ} {head tail stop depth : ℕ} {o : Offer} (O : Ahead (ruled s plan) n plan swept a x o)
        (t : Turn G back queue head tail stop depth u (o.step / 4096) (first_place n (o.step % 4096 + 1) * K)) where
      abbrev e₀ : ℕ
      e₀ = o.step / 4096

      abbrev kept₀ : ℕ
      kept₀ = kept_of a (event_sets_at plan e₀)

      abbrev slot : ℕ
      slot = slot_of n.types (o.step % 4096) kept₀

      not_excepted : barred plan e₀ ≡ false
      not_excepted = first_false (barred plan e₀) (bit (get_or swept (o.step % 4096) 0) (kept_of a (event_sets_at plan e₀))) O.unclosed

      -- where another edge with the same key leads
      kept_step : (u' e w : ℕ) → kept_of a (event_sets_at plan e₀) ≡ kept_by m plan (state_of K u') e → W.step (state_of K u') e (code_of n K w) ≡ W.step state e₀ (code_of n K w)
      kept_step u' e w key =
          step_by_kept m (state_of K u') state (code_of n K w) (state_small A.readable u') (subst (λ (i : ℕ). i < 64) Q.state_is Q.few) (by_at e) (by_at e₀)
          (sym key ∙ ap₂ (λ (i j : ℕ). bit_and i (bit_or j (event_sets_at plan e₀ / 2 ^ 7))) Q.state_is Q.keeps_are)

      -- an edge to a context that the event flows to from u is one from u
      target_clear : (u' e w : ℕ) → w < G.k → G.Edge u' e w → type_of t₀ w ≡ o.step % 4096 → kept_of a (event_sets_at plan e₀) ≡ kept_by m plan (state_of K u') e
          → flow (ruled s plan) (event_of e₀) x (context_at_index n (place_of K w)) ≡ true → Clear G back w
      target_clear u' e w lw ed ty key f =
          t.targets w below (edge_from S (chain_open A (turn_chain t)) O.free u' e e₀ w lw ed not_excepted f (kept_step u' e w key))
        where
          below : w < first_place n (o.step % 4096 + 1) * K
          below =
              ⊎_elim
              (λ (h : first_place n (o.step % 4096 + 1) * K ≤ w). absurd (let z = type_le (C₀) (o.step % 4096 + 1) (place_of K w) (place_le (states_some t₀) h) in omega arith))
              (λ h. h)
              (split_le (first_place n (o.step % 4096 + 1) * K) w)

      -- the pairs that the step leads to are taken out of what is left
      module _ {opens' pairs : List ℕ} {settled : Bool} (key : get_or opens slot 0 ≡ open_key (o.step % 4096) kept₀)
          (flows : (j : ℕ) → j < 256 → in_pairs pairs j ≡ true → flow (ruled s plan) (event_of e₀) x (pair_at n (o.step % 4096) j) ≡ true)
          (P : PairsTaken n opens opens' (o.step % 4096) kept₀ pairs settled) where
        left : (j : ℕ) → j < 256 → open_at opens' slot j ≡ (open_at opens slot j && not (in_pairs pairs j))
        left j h = (P.words (j / 64) (omega arith)).at (j % 64)

        taken_clear : (u' e w : ℕ) → u' < G.k → w < G.k → G.Edge u' e w → open_key (o.step % 4096) kept₀ ≡ open_key (type_of t₀ w) (kept_by m plan (state_of K u') e) → open_at opens' slot (node_pair t₀ w) ≡ false → Clear G back w
        taken_clear u' e w lu' lw ed q f =
            ⊎_elim
            (λ (b : in_pairs pairs (node_pair t₀ w) ≡ true).
            target_clear u' e w lw ed (sym D.0) D.1
            (ap (λ (y : Context). flow (ruled s plan) (event_of e₀) x y) (sym (pair_is A lw) ∙ ap (λ (i : ℕ). pair_at n i (node_pair t₀ w)) (sym D.0)) ∙ flows (node_pair t₀ w) (pair_few A lw) b))
            (λ (b : in_pairs pairs (node_pair t₀ w) ≡ false).
            N.left.clear slot u' e w few lu' lw ed (key ∙ q)
            (sym (and_yes (open_at opens slot (node_pair t₀ w)) (not (in_pairs pairs (node_pair t₀ w))) (ap not b)) ∙ sym (left (node_pair t₀ w) (pair_few A lw)) ∙ f))
            (true_or_false (in_pairs pairs (node_pair t₀ w)))
          where
            few : slot < 1024
            few = omega arith

            D : (o.step % 4096 ≡ type_of t₀ w) × (kept₀ ≡ kept_by m plan (state_of K u') e)
            D = key_same (o.step % 4096) kept₀ (type_of t₀ w) (kept_by m plan (state_of K u') e) (kept_few a (event_sets_at plan e₀) Q.few) (kept_small A u' e) q

        opens_taken : Opens s plan t₀ back opens'
        opens_taken =
            record {
              size = P.size;
              held = λ i o' k' j li lk lj e b.
                  ⊎_elim
                  (λ (q : i ≡ slot).
                  N.left.held slot o' k' j (omega arith) lk lj (sym P.key ∙ ap (λ (v : ℕ). get_or opens' v 0) (sym q) ∙ e)
                  (and_first (open_at opens slot j) (not (in_pairs pairs j)) (sym (left j lj) ∙ ap (λ (v : ℕ). open_at opens' v j) (sym q) ∙ b)))
                  (λ (d : i ≡ slot → ⊥). let Z = P.others i li d in N.left.held i o' k' j li lk lj (sym Z.key ∙ e) (sym (same_open j lj Z) ∙ b))
                  (split_eq i slot);
              clear = λ i u' e w li lu' lw ed q f.
                  ⊎_elim
                  (λ (z : i ≡ slot). taken_clear u' e w lu' lw ed (sym key ∙ sym P.key ∙ ap (λ (v : ℕ). get_or opens' v 0) (sym z) ∙ q) (ap (λ (v : ℕ). open_at opens' v (node_pair t₀ w)) (sym z) ∙ f))
                  (λ (d : i ≡ slot → ⊥). let Z = P.others i li d in N.left.clear i u' e w li lu' lw ed (sym Z.key ∙ q) (sym (same_open (node_pair t₀ w) (pair_few A lw) Z) ∙ f))
                  (split_eq i slot);
            }

        -- .. and where none is left, the type is swept
        pub memory_swept : {swept' : List ℕ} → Remembered swept swept' (o.step % 4096) kept₀ settled → Memory s plan t₀ back swept' spent opens'
        memory_swept R =
            record {
              left = opens_taken;
              swept_size = R.size ∙ N.swept_size;
              spent_size = N.spent_size;
              spent_clear = N.spent_clear;
              swept_clear = λ u' e w lu' lw ed b.
                  ⊎_elim (λ d. N.swept_clear u' e w lu' lw ed d)
                  (λ d.
                  taken_clear u' e w lu' lw ed (ap₂ open_key (sym d.0) d.2)
                  (ap (λ (v : ℕ). bit v (node_pair t₀ w % 64)) (P.none d.1 (node_pair t₀ w / 64) (let h = pair_few A lw in omega arith)) ∙ bit_zero (node_pair t₀ w % 64)))
                  (R.only (type_of t₀ w) (kept_by m plan (state_of K u') e) b);
            }

    -- ---- the steps of a state are taken
    module _ {queue : List ℕ} {head tail stop depth at v : ℕ} (t : Turn G back queue head tail stop depth u (at / 4096) v) (end : 4194304 ≤ at) where
      spent_edge : excepted n plan x ≡ false → meetsρμ (ruled s plan) x ≡ true → (u' e w : ℕ) → u' < G.k → w < G.k → G.Edge u' e w → special (ruled s plan) (event_of e) ≡ false
          → type_of t₀ u' ≡ x.ty → state ≡ state_of K u' → Clear G back w
      spent_edge free meets u' e w lu' lw ed plain ty st =
          let f = edge_flow A (stands_any A u' lu') lw ed in
          let y : Context = context_at_index n (place_of K w) in
          let f₀ : flow (ruled s plan) (event_of e) x y ≡ true = plain_same (ruled s plan) (event_of e) (context_at_index n (place_of K u')) x y plain ty meets f in
          let few : e < at / 4096 = (let h = event_in_lem e (context_at_index n (place_of K u')) y f in omega arith) in
          t.events e w few lw
          (edge_from S (chain_open A (turn_chain t)) free u' e e w lw ed (edge_free_e A (stands_any A u' lu') ed) f₀ (ap (λ (i : ℕ). W.step i e (code_of n K w)) (sym st)))

      pub memory_spent : {asks : Bool} {spent' : List ℕ} → Asks (ruled s plan) n plan x asks → Remembered spent spent' x.ty state asks → Memory s plan t₀ back swept spent' opens
      memory_spent C R =
          record {
            left = N.left;
            swept_size = N.swept_size;
            spent_size = R.size ∙ N.spent_size;
            swept_clear = N.swept_clear;
            spent_clear = λ u' e w lu' lw ed plain b.
                ⊎_elim (λ d. N.spent_clear u' e w lu' lw ed plain d) (λ d. spent_edge (C.free d.1) (C.meets d.1) u' e w lu' lw ed plain d.0 d.2)
                (R.only (type_of t₀ u') (state_of K u') b);
          }
