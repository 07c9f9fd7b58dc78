-- What is left of a type: sets of pairs, and the contexts that they stand for.
use mathlib.Core.Path.{◌≡◌, refl, sym, ◌∙◌, ap, subst}
use mathlib.Core.Bool.{true, false, ◌&&◌}
use mathlib.Core.List.{List}
use mathlib.Core.Logic.{⊎_elim}
use Prim.Native.Nat.{ℕ, ◌+◌, ◌-◌, ◌*◌, ◌/◌, ◌%◌, ◌≤◌, ◌<◌}
use native.Mathlib.Nat.{add-mul}
use native.Mathlib.Omega.{arith}
use borrow.Author.Tests.{ltb-true, lt-ltb}
use lib.Dec.{ltb}
use lib.ListN.{get_or, set, replicate, length-replicate}
use Rattle.base.specs.Bits.{bit}
use Rattle.base.specs.Ranges.{Within}
use Rattle.base.proofs.Numbers.{split_eq, zeros}
use Rattle.base.proofs.BoolLaws.{and_first, and_second, and_true, clash}
use Rattle.policy_image.specs.declared.counts.Counts.{Counts}
use Rattle.context.specs.Codes.{event_of}
use Rattle.context.specs.Inner.Places.{context_at_index, pair_count, first_place, OfType}
use Rattle.context.proofs.TypeLaws.{own_type, of_pair, of_same}
use Rattle.goal_model.specs.Images.{meetsρμ}
use Rattle.plan.specs.Inner.Plan.{PlanCounts, ruled}
use Rattle.plan.proofs.ContextLaws.{pairs_few, meets_at}
use Rattle.search_constraints.specs.Inner.Asked.{pair_at}
use Rattle.search_steps.proofs.FlowLaws.{flow_held}
use Rattle.search_graph.specs.declared.task.Task.{Task}
use Rattle.search_graph.specs.Inner.Graph.{Graph}
use Rattle.search_graph.specs.Inner.State.{Clear}
use Rattle.search_graph.specs.Inner.Nodes.{place_of, state_of}
use Rattle.search_graph.specs.Inner.Tasks.{states_in, Given, graph_of, type_of}
use Rattle.search_graph.proofs.SearchLaws.{clear_keep}
use Rattle.search_graph.proofs.ModelLaws.{states_some}
use Rattle.search_graph.proofs.LevelLaws.{place_lt, edge_flow}
use Rattle.search_memory.specs.Inner.Opens.{open_slots, slot_of, open_key, open_word, open_at, pair_held, HeldWord, SameSlot, SlotOpened, node_pair}
use Rattle.search_memory.specs.Inner.Memory.{kept_by, Opens}
use Rattle.search_memory.proofs.StandLaws.{stands_any, kept_small}

-- ---- numbers
-- the places of a type go by its pairs
pub start_pairs : (n : Counts) (o : ℕ) → 1 ≤ o → first_place n (o + 1) ≡ first_place n o + pair_count n
start_pairs n o h =
    let e : o + 1 - 1 ≡ o - 1 + 1 = omega arith in
    ap (λ (k : ℕ). k * n.roles * n.users) e
    ∙ ap (λ (k : ℕ). k * n.users) (add-mul (o - 1) 1 n.roles)
    ∙ add-mul ((o - 1) * n.roles) (1 * n.roles) n.users
    ∙ ap (λ (k : ℕ). (o - 1) * n.roles * n.users + k * n.users) (let q : 1 * n.roles ≡ n.roles = omega arith in q)

pub key_same : (o k o' k' : ℕ) → k < 64 → k' < 64 → open_key o k ≡ open_key o' k' → (o ≡ o') × (k ≡ k')
key_same o k o' k' h h' e = (omega arith, omega arith)

whole_pair : (j : ℕ) → 64 * (j / 64) + j % 64 ≡ j
whole_pair j = omega arith

slot_few : (types o k : ℕ) → slot_of types o k < open_slots
slot_few types o k = omega arith

-- a word of held pairs, at pair j
held_at : {n : Counts} {plan : List ℕ} {o r : ℕ} (j : ℕ) → HeldWord n plan o (j / 64) r → bit r (j % 64) ≡ (ltb j (pair_count n) && pair_held plan o j)
held_at {n} {plan} {o} {r} j H = subst (λ (i : ℕ). bit r (j % 64) ≡ (ltb i (pair_count n) && pair_held plan o i)) (whole_pair j) (H.at (j % 64) (omega arith))

pub same_open : {old new : List ℕ} {i : ℕ} (j : ℕ) → j < 256 → SameSlot old new i → open_at new i j ≡ open_at old i j
same_open j h S = ap (λ (v : ℕ). bit v (j % 64)) (S.words (j / 64) (omega arith))

-- ---- nothing is remembered at first, and what is remembered stays true where a node is entered
pub opens_begin : (s plan : List ℕ) (t : Task) (back : List ℕ) → Opens s plan t back (replicate 5120 0)
opens_begin s plan t back =
    record {
      size = length-replicate {A = ℕ} 5120 0;
      held = λ i o k j li lk lj e b. absurd (let z = zeros 5120 i in omega arith);
      clear = λ i u e w li lu lw ed q f. absurd (let z = zeros 5120 i in omega arith);
    }

pub opens_keep : {s plan : List ℕ} {t : Task} {back opens : List ℕ} (v x : ℕ) → get_or back v 0 ≡ 0 → Opens s plan t back opens → Opens s plan t (set back v x) opens
opens_keep v x z O = record { size = O.size; held = O.held; clear = λ i u e w li lu lw ed q f. clear_keep v x z (O.clear i u e w li lu lw ed q f) }

module _ {s plan : List ℕ} {t : Task} (A : Given s plan t) where
  abbrev n : Counts
  n = t.counts

  abbrev K : ℕ
  K = states_in t

  abbrev G : Graph
  G = graph_of s plan t

  C : PlanCounts n
  C = A.planned.policy.counts

  -- ---- a pair of a type is a context
  pub pair_place : {o j : ℕ} → Within 1 n.types o → j < pair_count n → OfType n o (first_place n o + j)
  pair_place {o} {j} w h = record { type = w; low = omega arith; high = let e = start_pairs n o w.low in omega arith }

  pub pair_context : {o j : ℕ} → Within 1 n.types o → j < pair_count n → context_at_index n (first_place n o + j) ≡ pair_at n o j
  pair_context {o} {j} w h =
      sym (of_same C.countable (pair_place w h) refl) ∙ ap (pair_at n o) (let e : first_place n o + j - first_place n o ≡ j = omega arith in e)

  pair_meets : {o j : ℕ} → Within 1 n.types o → j < pair_count n → pair_held plan o j ≡ meetsρμ (ruled s plan) (pair_at n o j)
  pair_meets {o} {j} w h =
      ap (pair_held plan o) (let e : j ≡ first_place n o + j - first_place n o = omega arith in e)
      ∙ meets_at A.planned.policy (pair_place w h) refl
      ∙ ap (meetsρμ (ruled s plan)) (pair_context w h)

  -- .. and a node's context a pair of its type
  of_node : {w : ℕ} → w < G.k → OfType n (type_of t w) (place_of K w)
  of_node lw = own_type C.countable (place_lt (states_some t) lw)

  pub pair_in : {w : ℕ} → w < G.k → node_pair t w < pair_count n
  pair_in lw = of_pair C.countable (of_node lw) refl

  pub pair_few : {w : ℕ} → w < G.k → node_pair t w < 256
  pair_few lw = let a = pair_in lw in omega (arith, pairs_few C)

  pub pair_is : {w : ℕ} → w < G.k → pair_at n (type_of t w) (node_pair t w) ≡ context_at_index n (place_of K w)
  pair_is lw = of_same C.countable (of_node lw) refl

  pub type_within : {w : ℕ} → w < G.k → Within 1 n.types (type_of t w)
  type_within lw = (of_node lw).type

  -- what an edge arrives at meets ρ and μ
  pub edge_held : {u e w : ℕ} → u < G.k → w < G.k → G.Edge u e w → meetsρμ (ruled s plan) (context_at_index n (place_of K w)) ≡ true
  edge_held {u} {e} {w} lu lw ed =
      (flow_held (ruled s plan) (event_of e) (context_at_index n (place_of K u)) (context_at_index n (place_of K w)) (edge_flow A (stands_any A u lu) lw ed)).1

  -- ---- a slot is looked up
  module _ {back old new r : List ℕ} {o k : ℕ} (w : Within 1 n.types o) (lk : k < 64) (O : Opens s plan t back old) (P : SlotOpened n plan old new o k r) where
    abbrev slot : ℕ
    slot = slot_of n.types o k

    -- where all that meet ρ and μ are left
    module _ (F : (v : ℕ) → v < 4 → HeldWord n plan o v (get_or new (open_word slot v) 0)) where
      fresh : (j : ℕ) → j < 256 → open_at new slot j ≡ (ltb j (pair_count n) && pair_held plan o j)
      fresh j h = held_at j (F (j / 64) (omega arith))

      fresh_held : (j : ℕ) → j < 256 → open_at new slot j ≡ true → (j < pair_count n) × (meetsρμ (ruled s plan) (pair_at n o j) ≡ true)
      fresh_held j h b =
          let c = sym (fresh j h) ∙ b in
          let l : j < pair_count n = ltb-true j (pair_count n) (and_first (ltb j (pair_count n)) (pair_held plan o j) c) in
          (l, sym (pair_meets w l) ∙ and_second (ltb j (pair_count n)) (pair_held plan o j) c)

      fresh_clear : (u e v : ℕ) → u < G.k → v < G.k → G.Edge u e v → type_of t v ≡ o → open_at new slot (node_pair t v) ≡ true
      fresh_clear u e v lu lv ed q =
          let l = pair_in lv in
          let m : meetsρμ (ruled s plan) (pair_at n o (node_pair t v)) ≡ true = ap (λ (i : ℕ). meetsρμ (ruled s plan) (pair_at n i (node_pair t v))) (sym q) ∙ ap (meetsρμ (ruled s plan)) (pair_is lv) ∙ edge_held lu lv ed in
          fresh (node_pair t v) (pair_few lv) ∙ and_true (ltb (node_pair t v) (pair_count n)) (pair_held plan o (node_pair t v)) (lt-ltb (node_pair t v) (pair_count n) l) (pair_meets w l ∙ m)

    pub opens_opened : Opens s plan t back new
    opens_opened =
        record {
          size = P.size;
          held = λ i o' k' j li lk' lj e b. ⊎_elim (here_held i o' k' j lk' lj e b) (λ d. let S = P.others i li d in O.held i o' k' j li lk' lj (sym S.key ∙ e) (sym (same_open j lj S) ∙ b)) (split_eq i slot);
          clear = λ i u e v li lu lv ed q f. ⊎_elim (here_clear i u e v li lu lv ed q f) (λ d. let S = P.others i li d in O.clear i u e v li lu lv ed (sym S.key ∙ q) (sym (same_open (node_pair t v) (pair_few lv) S) ∙ f)) (split_eq i slot);
        }
      where
        here_held : (i o' k' j : ℕ) → k' < 64 → j < 256 → get_or new i 0 ≡ open_key o' k' → open_at new i j ≡ true → i ≡ slot → (j < pair_count n) × (meetsρμ (ruled s plan) (pair_at n o' j) ≡ true)
        here_held i o' k' j lk' lj e b q =
            ⊎_elim
            (λ S. O.held slot o' k' j (slot_few n.types o k) lk' lj (sym S.key ∙ at_slot) (sym (same_open j lj S) ∙ left))
            (λ F. subst (λ (v : ℕ). (j < pair_count n) × (meetsρμ (ruled s plan) (pair_at n v j) ≡ true)) (key_same o k o' k' lk lk' (sym P.key ∙ at_slot)).0 (fresh_held F j lj left))
            P.here
          where
            at_slot : get_or new slot 0 ≡ open_key o' k'
            at_slot = ap (λ (v : ℕ). get_or new v 0) (sym q) ∙ e

            left : open_at new slot j ≡ true
            left = ap (λ (v : ℕ). open_at new v j) (sym q) ∙ b

        here_clear : (i u e v : ℕ) → i < open_slots → u < G.k → v < G.k → G.Edge u e v → get_or new i 0 ≡ open_key (type_of t v) (kept_by t.mode plan (state_of K u) e) → open_at new i (node_pair t v) ≡ false → i ≡ slot
            → Clear G back v
        here_clear i u e v li lu lv ed q f at =
            ⊎_elim
            (λ S. O.clear slot u e v (slot_few n.types o k) lu lv ed (sym S.key ∙ at_slot) (sym (same_open (node_pair t v) (pair_few lv) S) ∙ gone))
            (λ F. absurd (clash (fresh_clear F u e v lu lv ed (sym (key_same o k (type_of t v) (kept_by t.mode plan (state_of K u) e) lk (kept_small A u e) (sym P.key ∙ at_slot)).0)) gone))
            P.here
          where
            at_slot : get_or new slot 0 ≡ open_key (type_of t v) (kept_by t.mode plan (state_of K u) e)
            at_slot = ap (λ (i : ℕ). get_or new i 0) (sym at) ∙ q

            gone : open_at new slot (node_pair t v) ≡ false
            gone = ap (λ (i : ℕ). open_at new i (node_pair t v)) (sym at) ∙ f
