-- The loops of a search over the graph of a policy and a plan: what the leaves pass over has no edge, and what each arrival comes to.
use mathlib.Core.Path.{◌≡◌, sym, ◌∙◌, ap, ap₂, subst}
use mathlib.Core.Bool.{true, false}
use mathlib.Core.List.{List}
use mathlib.Core.Logic.{◌⊎◌, ⊎_elim}
use Prim.Native.Nat.{ℕ, ◌+◌, ◌*◌, ◌/◌, ◌%◌, ◌≤◌, ◌<◌}
use native.Mathlib.Nat.{div-lt_iff_lt-mul, le-div_iff_mul-le, mul-le-mul_right, div-add-mod', add-mul, one-mul, eq-or-lt_of_le}
use native.Mathlib.Omega.{arith}
use lib.Arith.{digits_lt}
use lib.Dec.{T, le→leb}
use lib.ListN.{get_or, set}
use Rattle.base.proofs.Numbers.{split_le}
use Rattle.policy_image.specs.declared.counts.Counts.{Counts}
use Rattle.policy_image.specs.Layout.{counts_of}
use Rattle.policy_image.specs.Policy.{policy_of}
use Rattle.context.specs.declared.Context.{Context}
use Rattle.context.specs.Codes.{context_of, event_of}
use Rattle.context.specs.Ranges.{ContextInRange}
use Rattle.context.specs.Inner.Places.{Countable, context_count, context_at_index, first_place}
use Rattle.context.proofs.PlaceLaws.{at_in_range}
use Rattle.access.specs.Authorization.{flow}
use Rattle.paths.specs.Model.{Model}
use Rattle.paths.proofs.Any.{and_T, not_true}
use Rattle.goal_model.specs.Images.{in_range}
use Rattle.plan.specs.Inner.Plan.{PlanCounts, ruled}
use Rattle.search_graph.specs.declared.task.Task.{Task}
use Rattle.search_graph.specs.Inner.Graph.{Graph, Chain, Chain.root, Chain.link, FoundAt}
use Rattle.search_graph.specs.Inner.State.{Turn, Clear, Through}
use Rattle.search_graph.specs.Inner.Nodes.{Watch, code_at, place_of, state_of, code_of, Bounded}
use Rattle.search_graph.specs.Inner.Arrivals.{LandsOpen, LandsGood, LandsBad}
use Rattle.search_graph.specs.Inner.Tasks.{states_in, Given, model_by, watch_by, graph_of, type_of, Stands, AskedStep, Faced}
use Rattle.search_graph.specs.Inner.Model.{excepted, barred}
use Rattle.search_graph.proofs.SearchLaws.{pass_to, visited, found, turn_chain}
use Rattle.search_graph.proofs.NodeLaws.{place_of_lem, state_of_lem}
use Rattle.search_graph.proofs.ModelLaws.{bounded, states_some}
use Rattle.base.proofs.BoolLaws.{clash, to_true, of_true}
use Rattle.search_graph.proofs.ArrivalLaws.{code_of_place}
use Rattle.context.proofs.TypeLaws.{type_lt, type_le, start_le}

-- ---- over any graph: the targets from a to below b, of which v alone may have an edge
pub block_visit : {g : Graph} {back queue : List ℕ} {head tail stop depth u ev a v : ℕ} (b : ℕ) → Turn g back queue head tail stop depth u ev a → v < b
    → ((w : ℕ) → a ≤ w → w < b → g.Edge u ev w → w ≡ v) → a ≤ v → ev < g.e → v < g.k → get_or back v 0 ≡ 0 → g.Edge u ev v → (g.End v → ⊥)
    → Turn g (set back v (u + 1)) (set queue tail v) head (tail + 1) stop depth u ev b
block_visit {g} {u = u} {ev = ev} {a = a} {v = v} b t hv only lo le lv z ed ne =
    pass_to b (visited (pass_to v t (λ w h k d. absurd (apart w h k d))) le lv z ed ne) (λ w h k d. absurd (apart' w h k d))
  where
    apart : (w : ℕ) → a ≤ w → w < v → g.Edge u ev w → ⊥
    apart w h k d = let q : w ≡ v = only w h (omega arith) d in omega arith

    apart' : (w : ℕ) → v + 1 ≤ w → w < b → g.Edge u ev w → ⊥
    apart' w h k d = let q : w ≡ v = only w (omega arith) k d in omega arith

pub block_pass : {g : Graph} {back queue : List ℕ} {head tail stop depth u ev a v : ℕ} (b : ℕ) → Turn g back queue head tail stop depth u ev a
    → ((w : ℕ) → a ≤ w → w < b → g.Edge u ev w → w ≡ v) → Clear g back v → Turn g back queue head tail stop depth u ev b
block_pass {g} {back} b t only c = pass_to b t (λ w h k d. subst (Clear g back) (sym (only w h k d)) c)

-- the turn goes on to an event and a target; what lies between leads nowhere that is new
pub jump : {g : Graph} {back queue : List ℕ} {head tail stop depth u ev v : ℕ} (ev' v' : ℕ) → Turn g back queue head tail stop depth u ev v → ev ≤ ev'
    → ((i w : ℕ) → i < ev' → w < g.k → ev ≤ i → (i ≡ ev → v ≤ w) → Through g back u i w)
    → ((w : ℕ) → w < v' → (ev' ≡ ev → v ≤ w) → Through g back u ev' w) → Turn g back queue head tail stop depth u ev' v'
jump {g} {back} {u = u} {ev} {v} ev' v' t le th th' =
    record {
      inv = t.inv;
      here = t.here;
      node = t.node;
      events = λ i w h lw. ⊎_elim (λ (a : ev ≤ i). at_event i w h lw a (split_le v w)) (λ (a : i < ev). t.events i w a lw) (split_le ev i);
      targets = λ w h. at_target w h (split_le v w);
    }
  where
    at_event : (i w : ℕ) → i < ev' → w < g.k → ev ≤ i → (v ≤ w) ⊎ (w < v) → Through g back u i w
    at_event i w h lw a d =
        ⊎_elim (λ (b : v ≤ w). th i w h lw a (λ _. b))
        (λ (b : w < v). ⊎_elim (λ (q : ev ≡ i). subst (λ (k : ℕ). Through g back u k w) q (t.targets w b)) (λ (k : ev < i). th i w h lw a (λ q. absurd (omega arith))) (eq-or-lt_of_le a)) d

    at_target : (w : ℕ) → w < v' → (v ≤ w) ⊎ (w < v) → Through g back u ev' w
    at_target w h d =
        ⊎_elim (λ (b : v ≤ w). th' w h (λ _. b))
        (λ (b : w < v). ⊎_elim (λ (q : ev ≡ ev'). subst (λ (k : ℕ). Through g back u k w) q (t.targets w b)) (λ (k : ev < ev'). th' w h (λ q. absurd (omega arith))) (eq-or-lt_of_le le)) d

-- ---- numbers of nodes
pub place_lt : {k v y : ℕ} → 0 < k → v < y * k → place_of k v < y
unfolding place_of
place_lt h l = (div-lt_iff_lt-mul h).1 l

pub place_le : {k v y : ℕ} → 0 < k → y * k ≤ v → y ≤ place_of k v
unfolding place_of
place_le h l = (le-div_iff_mul-le h).1 l

pub whole : (k v : ℕ) → v ≡ place_of k v * k + state_of k v
unfolding place_of state_of
whole k v = sym (div-add-mod' v k)

pub in_range_T : {n : Counts} {x : Context} → ContextInRange n x → T (in_range n x)
unfolding in_range
in_range_T {n} {x} r =
    simp and_T (
      (le→leb 1 x.ty r.ty.low, le→leb x.ty n.types r.ty.high),
      (
        (le→leb 1 x.role r.role.low, le→leb x.role n.roles r.role.high),
        (le→leb 1 x.user r.user.low, le→leb x.user n.users r.user.high),
      ),
    )

pub next_block : (y k : ℕ) → (y + 1) * k ≡ y * k + k
next_block y k = add-mul y 1 k ∙ ap (λ (z : ℕ). y * k + z) (one-mul k)

module _ {s plan : List ℕ} {t₀ : Task} (A : Given s plan t₀) where
  abbrev n : Counts
  n = t₀.counts

  abbrev M : Model
  M = model_by s plan t₀

  abbrev W : Watch
  W = watch_by s plan t₀

  abbrev K : ℕ
  K = states_in t₀

  abbrev G : Graph
  G = graph_of s plan t₀

  B : Bounded M n W K
  B = bounded A

  N : PlanCounts n
  N = A.planned.policy.counts

  at_place : {y : ℕ} → y < context_count n → ContextInRange n (context_at_index n y)
  at_place {y} h = at_in_range n y N.countable.roles N.countable.users h

  pub same_counts : n ≡ counts_of s
  same_counts = A.ready.same

  pub chain_open : {back : List ℕ} {d u : ℕ} → Chain G back d u → ¬ T (M.σ M.legs (code_of n K u))
  chain_open (root lv st e) = st.outside
  chain_open (link c le lv ed ne e) = λ t. ne (record { arrives = t })

  room : (r w : ℕ) → r ≤ context_count n → w < r * K → w < G.k
  room r w h k = let p : r * K ≤ context_count n * K = mul-le-mul_right K h in omega arith

  C : Countable n
  C = N.countable

  pub types_few : n.types ≤ 255
  types_few = subst (λ (k : Counts). k.types ≤ 255) (sym same_counts) A.ready.sound.range.types.high

  pub type_small : {w : ℕ} → w < G.k → type_of t₀ w < 4096
  type_small {w} lw = let z = (at_place (place_lt (states_some t₀) lw)).ty.high in omega (arith, types_few)

  pub few_types : (at : ℕ) → at ≤ 4194304 → (at < 4194304 → at % 4096 ≤ (policy_of s).counts.types) → at % 4096 ≤ n.types + 1
  few_types at h k =
      ⊎_elim (λ (l : 4194304 ≤ at). omega arith)
      (λ (l : at < 4194304). let z : at % 4096 ≤ n.types = subst (λ (c : Counts). at % 4096 ≤ c.types) (sym same_counts) (k l) in omega arith) (split_le 4194304 at)

  -- ---- an edge from u, which stands at x
  module _ {u state : ℕ} {x : Context} (S : Stands t₀ u x state) where
    here : context_of (code_of n K u) ≡ x
    here = code_of_place N S.below ∙ sym S.place

    pub edge_flow : {e w : ℕ} → w < G.k → G.Edge u e w → flow (ruled s plan) (event_of e) x (context_at_index n (place_of K w)) ≡ true
    edge_flow {e} {w} lw ed =
        ap₂ (flow (ruled s plan) (event_of e)) (sym here) (sym (code_of_place N (place_lt (states_some t₀) lw)))
        ∙ to_true (M.flow_by (code_of n K u) e (code_of n K w)) ed.edge.flows

    pub edge_free : {e w : ℕ} → G.Edge u e w → excepted n plan x ≡ false
    edge_free {e} {w} ed = ap (excepted n plan) (sym here) ∙ not_true (M.σe (code_of n K u)) ed.edge.free

    pub edge_free_e : {e w : ℕ} → G.Edge u e w → barred plan e ≡ false
    edge_free_e {e} {w} ed = not_true (M.γe e) ed.edge.free_e

    pub range_at : {w : ℕ} → w < G.k → ContextInRange (policy_of s).counts (context_at_index n (place_of K w))
    range_at {w} lw = subst (λ (k : Counts). ContextInRange k (context_at_index n (place_of K w))) same_counts (at_place (place_lt (states_some t₀) lw))

    -- ---- the target at place y, and the monitor's state there
    abbrev pub dest : ℕ → ℕ → ℕ
    dest e y = W.step state e (code_at n y)

    module _ (e y : ℕ) where
      place_is : (w : ℕ) → y * K ≤ w → w < (y + 1) * K → place_of K w ≡ y
      place_is w lo hi =
          let a : place_of K w < y + 1 = place_lt (states_some t₀) hi in
          let b : y ≤ place_of K w = place_le (states_some t₀) lo in
          omega arith

      state_is : (w : ℕ) → place_of K w ≡ y → G.Edge u e w → state_of K w ≡ dest e y
      state_is w p ed = ed.state ∙ ap₂ (λ (i c : ℕ). W.step i e c) (sym S.at) (ap (code_at n) p)

      -- an edge to a node at place y goes to the monitor's state
      pub only_at : (w : ℕ) → place_of K w ≡ y → G.Edge u e w → w ≡ y * K + dest e y
      only_at w p ed = whole K w ∙ ap₂ (λ (i j : ℕ). i * K + j) p (state_is w p ed)

      bad_of : T (M.σ M.legs (code_at n y)) → (w : ℕ) → y * K ≤ w → w < (y + 1) * K → G.Edge u e w → T (W.bad (dest e y))
      bad_of z w lo hi ed =
          let p = place_is w lo hi in
          subst (λ (i : ℕ). T (W.bad i)) (state_is w p ed) (ed.kept (subst (λ (i : ℕ). T (M.σ M.legs (code_at n i))) (sym p) z))

      module _ (h : y < context_count n) {v : ℕ} (q : v ≡ y * K + dest e y) (small : dest e y < K) where
        at_v : place_of K v ≡ y
        at_v = ap (place_of K) q ∙ place_of_lem y small

        below : v < G.k
        below = let p : y * K + dest e y < context_count n * K = digits_lt h small in omega arith

        inside : v < (y + 1) * K
        inside = omega (arith, next_block y K)

        only_v : (w : ℕ) → y * K ≤ w → w < (y + 1) * K → G.Edge u e w → w ≡ v
        only_v w lo hi ed = only_at w (place_is w lo hi) ed ∙ sym q

        target : T (M.context (code_of n K v))
        target =
            subst (λ (z : ℕ). T (M.context (code_at n z))) (sym at_v)
            (subst (λ (z : Context). T (in_range (counts_of s) z)) (sym (code_of_place N h))
            (in_range_T (subst (λ (k : Counts). ContextInRange k (context_at_index n y)) same_counts (at_place h))))

        pub edge_at : ¬ T (M.σ M.legs (code_of n K u)) → excepted n plan x ≡ false → barred plan e ≡ false
            → flow (ruled s plan) (event_of e) x (context_at_index n y) ≡ true → (T (M.σ M.legs (code_at n y)) → T (W.bad (dest e y))) → G.Edge u e v
        edge_at first free free_e flows k =
            record {
              edge = record {
                into = target;
                flows = of_true _
                    (ap₂ (flow (ruled s plan) (event_of e)) here (ap (λ (z : ℕ). context_of (code_at n z)) at_v ∙ code_of_place N h) ∙ flows);
                first = first;
                free = λ z. clash (to_true (M.σe (code_of n K u)) z) (ap (excepted n plan) here ∙ free);
                free_e = λ z. clash (to_true (M.γe e) z) free_e;
              };
              state = state_v ∙ ap₂ (λ (i c : ℕ). W.step i e c) S.at (ap (code_at n) (sym at_v));
              kept = λ z. subst (λ (i : ℕ). T (W.bad i)) (sym state_v) (k (subst (λ (i : ℕ). T (M.σ M.legs (code_at n i))) at_v z));
            }
          where
            state_v : state_of K v ≡ dest e y
            state_v = ap (state_of K) q ∙ state_of_lem y small

        end_at : G.End v → T (M.σ M.legs (code_at n y))
        end_at d = subst (λ (i : ℕ). T (M.σ M.legs (code_at n i))) at_v d.arrives

    -- ---- what the leaves pass over
    module _ {back queue : List ℕ} {head tail stop depth : ℕ} where
      -- The search stands at a step: events below its own are done, and of that the contexts of types below its own.

      -- the steps from one to below another lead nowhere that is new
      pub step_on : (at to : ℕ) → Turn G back queue head tail stop depth u (at / 4096) (first_place n (at % 4096) * K) → at ≤ to → to % 4096 ≤ n.types + 1
          → ((i w : ℕ) → w < G.k → at ≤ 4096 * i + type_of t₀ w → 4096 * i + type_of t₀ w < to → Through G back u i w) → Turn G back queue head tail stop depth u (to / 4096) (first_place n (to % 4096) * K)
      step_on at to t l few th =
          jump (to / 4096) (first_place n (to % 4096) * K) t (omega arith)
          (λ i w h lw a b. th i w lw (after i w a b) (let z = type_small lw in omega arith))
          (λ w h b.
          let z : type_of t₀ w < to % 4096 = before w h in
          th (to / 4096) w (bound w h) (after (to / 4096) w (omega arith) b) (omega arith))
        where
          after : (i w : ℕ) → at / 4096 ≤ i → (i ≡ at / 4096 → first_place n (at % 4096) * K ≤ w) → at ≤ 4096 * i + type_of t₀ w
          after i w a b =
              ⊎_elim
              (λ (q : at / 4096 ≡ i). let z : at % 4096 ≤ type_of t₀ w = type_le C (at % 4096) (place_of K w) (place_le (states_some t₀) (b (sym q))) in omega arith)
              (λ (k : at / 4096 < i). omega arith)
              (eq-or-lt_of_le a)

          before : (w : ℕ) → w < first_place n (to % 4096) * K → type_of t₀ w < to % 4096
          before w h = type_lt C (to % 4096) (place_of K w) (place_lt (states_some t₀) h)

          bound : (w : ℕ) → w < first_place n (to % 4096) * K → w < G.k
          bound w h = room (first_place n (to % 4096)) w (start_le C (to % 4096) few) h

      -- the steps before one are done
      pub step_past : (at : ℕ) → Turn G back queue head tail stop depth u (at / 4096) (first_place n (at % 4096) * K) → (i w : ℕ) → w < G.k → 4096 * i + type_of t₀ w < at → Through G back u i w
      step_past at t i w lw h =
          ⊎_elim
          (λ (q : i ≡ at / 4096). subst (λ (k : ℕ). Through G back u k w) (sym q) (t.targets w (under q)))
          (λ (k : i < at / 4096). t.events i w k lw)
          (eq-or-lt_of_le (let z = type_small lw in let k : i ≤ at / 4096 = omega arith in k))
        where
          under : i ≡ at / 4096 → w < first_place n (at % 4096) * K
          under q =
              ⊎_elim
              (λ (k : first_place n (at % 4096) * K ≤ w). absurd (let z = type_le C (at % 4096) (place_of K w) (place_le (states_some t₀) k) in omega arith))
              (λ k. k)
              (split_le (first_place n (at % 4096) * K) w)

      -- the contexts from one place to below another lead nowhere that is new
      pub skip_to : {e a b : ℕ} → Turn G back queue head tail stop depth u e (a * K) → b ≤ context_count n
          → ((w : ℕ) → w < G.k → a ≤ place_of K w → place_of K w < b → Through G back u e w) → Turn G back queue head tail stop depth u e (b * K)
      skip_to {b = b} t h th = pass_to (b * K) t (λ w lo hi. th w (room b w h hi) (place_le (states_some t₀) lo) (place_lt (states_some t₀) hi))

      -- the contexts of the step's type are done
      pub swept_to_lem : (at : ℕ) → at % 4096 ≤ n.types → Turn G back queue head tail stop depth u (at / 4096) (first_place n (at % 4096 + 1) * K)
          → Turn G back queue head tail stop depth u ((at + 1) / 4096) (first_place n ((at + 1) % 4096) * K)
      swept_to_lem at few t =
          let small : n.types ≤ 255 = types_few in
          let e : (at + 1) / 4096 ≡ at / 4096 = omega arith in
          let o : (at + 1) % 4096 ≡ at % 4096 + 1 = omega arith in
          rw (e, o) t

      -- ---- what an arrival at place y comes to, whether or not it is a target
      module _ {e y : ℕ} (t : Turn G back queue head tail stop depth u e (y * K)) (h : y < context_count n) where
        pub dropped : LandsGood M n W K y (dest e y) → Turn G back queue head tail stop depth u e ((y + 1) * K)
        dropped L = pass_to ((y + 1) * K) t (λ w lo hi ed. absurd (L.good (bad_of e y L.arrives w lo hi ed)))

        module _ {v : ℕ} (L : LandsOpen M n W K y (dest e y) v) where
          small : dest e y < K
          small = B.steps state e (code_at n y) L.outside

          pub enter_below : v < G.k
          enter_below = below e y h L.node small

          enter_open : G.End v → ⊥
          enter_open d = L.outside (end_at e y h L.node small d)

          pub seen : (get_or back v 0 ≡ 0 → ⊥) → Turn G back queue head tail stop depth u e ((y + 1) * K)
          seen z = block_pass ((y + 1) * K) t (only_v e y h L.node small) (record { open_end = enter_open; seen = z })

        -- .. and where it is
        module _ (le : e < 1024) (Q : AskedStep n plan x e) (F : Faced (ruled s plan) n plan x e y) where
          to_node : {v : ℕ} → v ≡ y * K + dest e y → dest e y < K → (T (M.σ M.legs (code_at n y)) → T (W.bad (dest e y))) → G.Edge u e v
          to_node q few k = edge_at e y h q few (chain_open (turn_chain t)) (Q.free le) (F.free h) (F.flows h) k

          pub entered : {v : ℕ} → LandsOpen M n W K y (dest e y) v → get_or back v 0 ≡ 0
              → Turn G (set back v (u + 1)) (set queue tail v) head (tail + 1) stop depth u e ((y + 1) * K)
          entered L z =
              block_visit ((y + 1) * K) t (inside e y h L.node (small L)) (only_v e y h L.node (small L)) (omega (arith, L.node)) le (enter_below L) z
              (to_node L.node (small L) (λ k. absurd (L.outside k))) (enter_open L)

          pub broken : {v : ℕ} → LandsBad M n W K y (dest e y) v → FoundAt G back u e v depth
          broken {v} L =
              found t (record {
                event = le;
                target = below e y h L.node few;
                edge = to_node L.node few (λ _. L.ends.verdict);
                ends = record { arrives = subst (λ (i : ℕ). T (M.σ M.legs (code_at n i))) (sym (at_v e y h L.node few)) L.ends.arrives };
              })
            where
              few : dest e y < K
              few = B.bads state e (code_at n y) L.ends.verdict
