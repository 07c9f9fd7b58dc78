-- Whether an event leads from one node to another, of which some event leads there.
use mathlib.Core.Path.{◌≡◌, refl, sym, ◌∙◌, ap, subst, subst₂}
use mathlib.Core.Bool.{Bool, true, false}
use mathlib.Core.List.{List, []}
use mathlib.Core.Logic.{◌⊎◌, ⊎_elim}
use Prim.Native.Nat.{ℕ, ◌+◌, ◌*◌, ◌/◌, ◌%◌, ◌≤◌, ◌<◌}
use native.Mathlib.Nat.{eq-or-lt_of_le, mod-lt}
use native.Mathlib.Omega.{arith}
use native.Mathlib.Decide.{dec_lt}
use borrow.Author.Tests.{eqb-true, eqb-false}
use lib.Dec.{T, eqb}
use lib.ListN.{replicate, get_or, set, length}
use lib.Seq.{get_or-set_same}
use Rattle.base.specs.Bits.{bit}
use Rattle.base.specs.Inner.Decides.{Decides}
use Rattle.base.proofs.BitLaws.{bit_zero}
use Rattle.base.proofs.Numbers.{zeros}
use Rattle.policy_image.specs.declared.counts.Counts.{Counts}
use Rattle.context.specs.declared.Context.{Context}
use Rattle.context.specs.Codes.{event_of}
use Rattle.context.specs.Ranges.{ContextInRange}
use Rattle.context.specs.Inner.Places.{context_count, context_at_index, OfType}
use Rattle.context.proofs.PlaceLaws.{at_in_range}
use Rattle.context.proofs.TypeLaws.{own_place}
use Rattle.access.specs.Authorization.{flow}
use Rattle.goal_image.specs.Goal.{γeChain}
use Rattle.paths.specs.Model.{Model}
use Rattle.goal_model.specs.Images.{meetsρμ}
use Rattle.plan.specs.Inner.Entries.{special_at, event_sets_at}
use Rattle.plan.specs.Inner.Plan.{special, PlanCounts, ruled}
use Rattle.plan.specs.Inner.Sets.{sets_of}
use Rattle.plan.specs.Inner.Meets.{held_by}
use Rattle.search_steps.specs.declared.nearest.Asker.{Asker}
use Rattle.search_steps.specs.declared.nearest.Offer.{Offer}
use Rattle.search_steps.specs.Inner.Nearest.{closed, PassedOver}
use Rattle.search_steps.specs.Inner.Steps.{Offering, ResumesFrom, Facing, NextOffer}
use Rattle.search_steps.proofs.FlowLaws.{flow_held}
use Rattle.search_steps.proofs.FlowLaws as flow_laws
use Rattle.plan.proofs.MeetsLaws.{held_is}
use Rattle.search_graph.specs.declared.arrival.Arrival.{Arrival}
use Rattle.search_graph.specs.declared.arrival.Arrival.TheVariants.{Enter, Dropped, Broken}
use Rattle.search_graph.specs.Inner.Nodes.{Watch, code_at, place_of}
use Rattle.search_graph.specs.Inner.Model.{barred}
use Rattle.search_graph.specs.Inner.Arrivals.{Arrived, Lands, LandsOpen, LandsGood, LandsBad}
use Rattle.search_graph.specs.declared.task.Task.{Task}
use Rattle.search_graph.specs.Inner.Tasks.{bits_in, states_in, States, Given, model_by, watch_by, graph_of, type_of, Stands}
use Rattle.search_memory.specs.Inner.Memory.{keeps_of, AskerOf}
use Rattle.witness.specs.Inner.Links.{LeastBelow, LinkedNodes, OfferedBetween}
use Rattle.search_graph.specs.Inner.Watching.{Stepped}
use Rattle.search_graph.proofs.ArrivalLaws.{arriving}
use Rattle.search_graph.proofs.ModelLaws.{bounded, states_some, states_few}
use Rattle.base.proofs.BoolLaws.{clash}
use Rattle.search_memory.proofs.MemoryLaws.{memory_begin, edge_like, passed as remembered}
use Rattle.search_graph.proofs.LevelLaws.{place_lt, edge_flow, edge_free, edge_free_e, range_at, only_at, edge_at}
use Rattle.search_memory.proofs.StandLaws.{Around, at_place, stand}

-- what has been looked for: no step before the offer leads from u to w
pub record Looking (s plan : List ℕ) (t : Task) (u w : ℕ) (x : Context) (o : Offer) : Type 0 where
  pub high : o.step ≤ 4194304
  pub none : (j : ℕ) → 4096 * j + type_of t w < o.step → (graph_of s plan t).Edge u j w → ⊥
  pub offers : o.step < 4194304 → Offering (ruled s plan) plan x.ty (o.step / 4096) (o.step % 4096) o.entry
  pub resumes : o.step < 4194304 → ResumesFrom plan x o

module _ {s plan : List ℕ} {t : Task} (A : Given s plan t) {u w states : ℕ} (L : LinkedNodes (graph_of s plan t) u w) (St : States (bits_in t) states) where
  abbrev n : Counts
  n = t.counts

  abbrev M : Model
  M = model_by s plan t

  abbrev W : Watch
  W = watch_by s plan t

  abbrev K : ℕ
  K = states_in t

  N₀ : PlanCounts n
  N₀ = A.readable.sets.counts

  fixed : Around plan t states
  fixed = record { readable = A.readable; states_are = St }

  pub from_below : u / states < context_count n
  from_below = at_place u fixed L.from

  pub to_below : w / states < context_count n
  to_below = at_place w fixed L.to

  -- w's place is one of its context's type
  pub to_type : {y : Context} → y ≡ context_at_index n (w / states) → OfType n y.ty (w / states)
  to_type = own_place N₀.countable to_below

  place_w : place_of K w ≡ w / states
  unfolding place_of
  place_w = ap (λ (i : ℕ). w / i) (sym fixed.states_are.same)

  -- an end is not where w is
  no_end : T (M.σ M.legs (code_at n (w / states))) → ⊥
  no_end z = L.open_end (record { arrives = subst (λ (i : ℕ). T (M.σ M.legs (code_at n i))) (sym place_w) z })

  module _ {x : Context} (q : x ≡ context_at_index n (u / states)) where
    pub from_range : ContextInRange n x
    from_range = (stand u fixed L.from q).range

    -- an event that leads to w flows from x to w's context
    flows : (j : ℕ) → (graph_of s plan t).Edge u j w → flow (ruled s plan) (event_of j) x (context_at_index n (place_of K w)) ≡ true
    flows j ed = edge_flow A (stand u fixed L.from q) L.to ed

    -- so x meets ρ and μ, since some event does
    pub from_held : meetsρμ (ruled s plan) x ≡ true
    from_held = (flow_held (ruled s plan) (event_of L.event.which) x (context_at_index n (place_of K w)) (flows L.event.which L.event.holds)).0

    -- x faces w's context by an event that is offered from its type to the other's
    pub facing : {e entry : ℕ} {c : Bool} → OfferedBetween s plan t u e entry w → c ≡ special (ruled s plan) (event_of e)
        → Facing (ruled s plan) plan x e (context_at_index n (w / states)).ty entry c
    facing {e} {entry} O k =
        record {
          meets = from_held;
          offering = subst₂ (λ (a b : ℕ). Offering (ruled s plan) plan a e b entry) (ap (λ (z : Context). z.ty) (sym place)) (ap (λ (i : ℕ). (context_at_index n i).ty) place_w) O;
          conditions = k;
        }
      where
        place : x ≡ context_at_index n (place_of K u)
        place = (stand u fixed L.from q).place

    -- the steps that are passed over do not lead from u to w: of w's type nothing is remembered, and no event before that is like another leads
    -- there
    pub passed : {a : Asker} {from : ℕ} {r : Offer} {swept : List ℕ} → AskerOf t.mode (replicate 256 0) x (u % states) a → get_or swept (type_of t w) 0 ≡ 0
        → NextOffer (ruled s plan) plan swept a x from r → ((e : ℕ) → 4096 * e + type_of t w < from → (graph_of s plan t).Edge u e w → ⊥)
        → (j : ℕ) → from ≤ 4096 * j + type_of t w → 4096 * j + type_of t w < r.step → (graph_of s plan t).Edge u j w → ⊥
    passed {a} {swept = swept} Q Z N past j lo hi ed =
        ⊎_elim (λ h. (remembered A (memory_begin s plan t []) (stand u fixed L.from q) L.from Q L.to ed (forgotten h)).seen refl)
        (λ E. past E.event E.before
        (edge_like A (memory_begin s plan t []) (stand u fixed L.from q) L.from Q L.event.holds.edge.first L.to ed E.sets E.flows))
        (N.none j (context_at_index n (place_of K w)) (range_at A (stand u fixed L.from q) L.to) lo hi (flows j ed))
      where
        forgotten : PassedOver plan swept a j (type_of t w) → PassedOver plan (replicate 256 0) a j (type_of t w)
        forgotten =
            subst (λ (v : ℕ). (closed a (event_sets_at plan j) v ≡ true) ⊎ ((a.spent ≡ true) × (bit (special_at plan (j / 32)) (j % 32) ≡ false)))
            (Z ∙ sym (zeros 256 (type_of t w)))

    -- who asks
    pub asker : {a : Asker} → a.state ≡ u % states → a.keeps ≡ keeps_of t.mode → a.spent ≡ false → AskerOf t.mode (replicate 256 0) x (u % states) a
    asker {a} p k f =
        record {
          state_is = p;
          keeps_are = k;
          spent_is = f ∙ sym (ap (λ (v : ℕ). bit v (u % states)) (zeros 256 x.ty) ∙ bit_zero (u % states));
          few = omega (arith, mod-lt u St.some, St.same, states_few t A.readable.few_legs);
        }

  module _ {x : Context} (q : x ≡ context_at_index n (u / states)) (e : ℕ) {by : ℕ} (E : by ≡ event_sets_at plan e) where
    stands : Stands t u x (u % states)
    stands = stand u fixed L.from q

    barred_is : bit by γeChain ≡ barred plan e
    barred_is = ap (λ (k : ℕ). bit k γeChain) E

    pub no_event : {b : Bool} → b ≡ bit by γeChain → b ≡ true → (graph_of s plan t).Edge u e w → ⊥
    no_event p k ed = clash (sym barred_is ∙ sym p ∙ k) (edge_free_e A stands ed)

    pub no_flow_lem : {b : Bool} {x' : Context} → x' ≡ context_at_index n (w / states) → b ≡ flow (ruled s plan) (event_of e) x x' → b ≡ false → (graph_of s plan t).Edge u e w → ⊥
    no_flow_lem q' p k ed =
        clash (edge_flow A stands L.to ed)
        (ap (λ (i : ℕ). flow (ruled s plan) (event_of e) x (context_at_index n i)) place_w ∙ ap (flow (ruled s plan) (event_of e) x) (sym q') ∙ sym p ∙ k)

    pub no_held : {b : Bool} {o : ℕ} → OfType n o (w / states) → b ≡ held_by n plan o (w / states) → b ≡ false → (graph_of s plan t).Edge u e w → ⊥
    no_held H p k = no_flow_lem refl (sym (flow_laws.no_flow_lem (ruled s plan) (event_of e) x (context_at_index n (w / states)) (sym (held_is A.planned.policy H) ∙ sym p ∙ k))) refl

    -- what arriving at w's place comes to: the sets there, the state after the step, and what landing there says
    module _ {into i : ℕ} (S : into ≡ sets_of n plan (context_at_index n (w / states))) (after : Stepped t.mode t.legs (u % states) by into i) (r : Arrival) (Z : Arrived t into (w / states) i r) where
      lands : Lands M n W K (w / states) (W.step (u % states) e (code_at n (w / states))) r
      lands = (arriving r N₀ to_below S after Z).at s e E

      pub no_drop : r ≡ Dropped → (graph_of s plan t).Edge u e w → ⊥
      no_drop k ed =
          let z : LandsGood M n W K (w / states) (W.step (u % states) e (code_at n (w / states)))
          = subst (Lands M n W K (w / states) (W.step (u % states) e (code_at n (w / states)))) k lands in
          no_end z.arrives

      pub no_break : {v : ℕ} → r ≡ Broken v → (graph_of s plan t).Edge u e w → ⊥
      no_break {v} k ed =
          let z : LandsBad M n W K (w / states) (W.step (u % states) e (code_at n (w / states))) v
          = subst (Lands M n W K (w / states) (W.step (u % states) e (code_at n (w / states)))) k lands in
          no_end z.ends.arrives

      module _ {b c : Bool} {x' : Context} (p : b ≡ bit by γeChain) (off : b ≡ false) (q' : x' ≡ context_at_index n (w / states)) (f : c ≡ flow (ruled s plan) (event_of e) x x') (on : c ≡ true) where
        pub decided : (v : ℕ) → r ≡ Enter v → Decides (eqb v w) ((graph_of s plan t).Edge u e w)
        decided v k = go (eqb v w) refl
          where
            z : LandsOpen M n W K (w / states) (W.step (u % states) e (code_at n (w / states))) v
            z = subst (Lands M n W K (w / states) (W.step (u % states) e (code_at n (w / states)))) k lands

            go : (a : Bool) → eqb v w ≡ a → Decides a ((graph_of s plan t).Edge u e w)
            go true i =
                edge_at A stands e (w / states) to_below (sym (eqb-true v w i) ∙ z.node)
                ((bounded A).steps (u % states) e (code_at n (w / states)) z.outside)
                L.event.holds.edge.first (edge_free A stands L.event.holds) (sym barred_is ∙ sym p ∙ off)
                (ap (flow (ruled s plan) (event_of e) x) (sym q') ∙ sym f ∙ on) (λ j. absurd (z.outside j))
            go false i = λ ed. eqb-false v w i (z.node ∙ sym (only_at A stands e (w / states) w place_w ed))

  pub type_is : {y : Context} → y ≡ context_at_index n (w / states) → y.ty ≡ type_of t w
  type_is q' = ap (λ (z : Context). z.ty) q' ∙ ap (λ (i : ℕ). (context_at_index n i).ty) (sym place_w)

  type_entry : type_of t w < 256
  type_entry =
      let r = at_in_range n (place_of K w) N₀.countable.roles N₀.countable.users (place_lt (states_some t) L.to) in
      omega (arith, r.ty.high, N₀.types)

  pub type_within : {y : Context} → y ≡ context_at_index n (w / states) → y.ty < 256
  type_within q' = omega (arith, type_entry, type_is q')

  -- of the type of y, at which w is, nothing is remembered
  pub type_open : {y : Context} (all : List ℕ) → y ≡ context_at_index n (w / states) → length all ≡ 256 → get_or (set all y.ty 0) (type_of t w) 0 ≡ 0
  type_open {y} all q' h =
      subst (λ (i : ℕ). get_or (set all i 0) (type_of t w) 0 ≡ 0) (sym (type_is q')) (get_or-set_same all (type_of t w) 0 0 (omega (arith, type_entry)))

  -- ---- looking for the least event
  type_small : type_of t w < 4096
  type_small = omega (arith, type_entry)

  module _ {x : Context} (q : x ≡ context_at_index n (u / states)) {a : Asker} (Q : AskerOf t.mode (replicate 256 0) x (u % states) a) where
    pub look_begin : {r : Offer} {swept : List ℕ} → get_or swept (type_of t w) 0 ≡ 0 → NextOffer (ruled s plan) plan swept a x 0 r → Looking s plan t u w x r
    look_begin Z N =
        record { high = N.high; none = λ j h. passed q Q Z N (λ e k. absurd (omega arith)) j (omega arith) h; offers = N.offers; resumes = N.resumes }

    module _ {o : Offer} (K : Looking s plan t u w x o) where
      pub offered : {y : Context} → y ≡ context_at_index n (w / states) → o.step < 4194304 → o.step % 4096 ≡ y.ty → OfferedBetween s plan t u (o.step / 4096) o.entry w
      offered q' h k =
          subst₂ (λ (a b : ℕ). Offering (ruled s plan) plan a (o.step / 4096) b o.entry) (ap (λ (z : Context). z.ty) (stand u fixed L.from q).place) (k ∙ type_is q')
          (K.offers h)

      -- a step at the offer is by its event to its type
      pub only_here : (j : ℕ) → o.step ≡ 4096 * j + type_of t w → (o.step / 4096 ≡ j) × (o.step % 4096 ≡ type_of t w)
      only_here j h = let k = type_small in (omega arith, omega arith)

      pub look_more : {r : Offer} {swept : List ℕ} → get_or swept (type_of t w) 0 ≡ 0 → NextOffer (ruled s plan) plan swept a x (o.step + 1) r → ((j : ℕ) → o.step ≡ 4096 * j + type_of t w → (graph_of s plan t).Edge u j w → ⊥)
          → Looking s plan t u w x r
      look_more {r} Z N here =
          record { high = N.high; none = λ j h ed. go j h ed (dec_lt (4096 * j + type_of t w) o.step); offers = N.offers; resumes = N.resumes }
        where
          past : (e : ℕ) → 4096 * e + type_of t w < o.step + 1 → (graph_of s plan t).Edge u e w → ⊥
          past e h ed =
              ⊎_elim (λ (z : 4096 * e + type_of t w ≡ o.step). here e (sym z) ed) (λ (z : 4096 * e + type_of t w < o.step). K.none e z ed) (eq-or-lt_of_le (omega arith))

          go : (j : ℕ) → 4096 * j + type_of t w < r.step → (graph_of s plan t).Edge u j w → Dec (4096 * j + type_of t w < o.step) → ⊥
          go j h ed (yes k) = K.none j k ed
          go j h ed (no k) =
              ⊎_elim (λ (z : o.step ≡ 4096 * j + type_of t w). here j z ed) (λ (z : o.step < 4096 * j + type_of t w). passed q Q Z N past j (omega arith) h ed)
              (eq-or-lt_of_le (omega arith))

      pub look_found : o.step < 4194304 → (graph_of s plan t).Edge u (o.step / 4096) w → LeastBelow (λ e. (graph_of s plan t).Edge u e w) 1024 (o.step / 4096)
      look_found h ed =
          record { within = omega arith; holds = ed; before = λ j k. K.none j (let z = type_small in omega arith) }

      pub look_end : 4194304 ≤ o.step → ⊥
      look_end h = K.none L.event.which (let z = type_small in omega (arith, L.event.within)) L.event.holds
