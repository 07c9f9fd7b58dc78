-- The starts of a search: what the context at each place comes to, and how the code keeps what is known.
use mathlib.Core.Path.{◌≡◌, refl, sym, ◌∙◌, ap, ap₂, subst}
use mathlib.Core.Bool.{Bool, true, false, not}
use mathlib.Core.List.{List, []}
use mathlib.Core.Logic.{⊎_elim}
use Prim.Native.Nat.{ℕ, ◌+◌, ◌-◌, ◌*◌, ◌^◌, ◌≤◌, ◌<◌}
use native.Mathlib.Nat.{mul-le-mul_right, zero-mul, lt_of_lt_of_le}
use native.Mathlib.Decide.{dec_le}
use native.Mathlib.Omega.{arith}
use borrow.Author.Tests.{not-true, not-false}
use lib.Arith.{digits_lt}
use lib.Dec.{T}
use lib.ListN.{set}
use lib.Seq.{get_or-set_other}
use Rattle.base.specs.Bits.{bit}
use Rattle.base.specs.Ranges.{Within}
use Rattle.policy_image.specs.declared.counts.Counts.{Counts}
use Rattle.policy_image.specs.Layout.{counts_of}
use Rattle.context.specs.declared.Context.{Context}
use Rattle.context.specs.Codes.{context_of}
use Rattle.context.specs.Ranges.{ContextInRange}
use Rattle.context.specs.Inner.Places.{context_count, context_at_index, first_place, OfType}
use Rattle.context.proofs.PlaceLaws.{at_in_range}
use Rattle.paths.specs.Model.{Model}
use Rattle.paths.specs.Inner.Monitor.{Start}
use Rattle.goal_model.specs.Images.{in_range, meetsρμ}
use Rattle.plan.specs.Inner.Plan.{PlanCounts, ruled}
use Rattle.plan.specs.Inner.Sets.{sets_of}
use Rattle.plan.specs.Inner.Meets.{held_by}
use Rattle.context.proofs.TypeLaws.{of_below, start_le, start_next}
use Rattle.plan.proofs.MeetsLaws.{held_is}
use Rattle.search_graph.specs.declared.arrival.Arrival.{Arrival}
use Rattle.search_graph.specs.declared.arrival.Arrival.TheVariants.{Enter, Dropped, Broken}
use Rattle.search_graph.specs.declared.task.Task.{Task}
use Rattle.search_graph.specs.Inner.Graph.{Graph}
use Rattle.search_graph.specs.Inner.State.{Seeding}
use Rattle.search_graph.specs.Inner.Nodes.{Watch, code_at, place_of, state_of, BadStart, Bounded}
use Rattle.search_graph.specs.Inner.Watching.{Started}
use Rattle.search_graph.specs.Inner.Arrivals.{Arrived, Lands}
use Rattle.base.proofs.Numbers.{below_or}
use Rattle.search_graph.specs.Inner.Tasks.{states_in, Readable, Given, model_by, watch_by, graph_of}
use Rattle.search_graph.specs.Inner.Starts.{NoStart}
use Rattle.search_graph.specs.Inner.Visits.{Cleared}
use Rattle.search_graph.specs.Inner.Seeds.{Roomy, Begins, Beginning, SownNodes, SownStart}
use Rattle.search_graph.proofs.SearchLaws.{seed_begin, seed_pass, seed_visit, seed_visited, seed_end}
use Rattle.search_graph.proofs.NodeLaws.{place_of_lem, state_of_lem}
use Rattle.search_graph.proofs.ModelLaws.{bounded, begin_below, states_some}
use Rattle.base.proofs.BoolLaws.{clash, to_true, of_true}
use Rattle.search_graph.proofs.ArrivalLaws.{code_of_place, into_of, legs_of_lem, lands}
use Rattle.search_graph.proofs.LevelLaws.{place_lt, place_le, whole, in_range_T, next_block}

module _ {s plan : List ℕ} {t : Task} (A : Given s plan t) where
  abbrev n : Counts
  n = t.counts

  abbrev M : Model
  M = model_by s plan t

  abbrev W : Watch
  W = watch_by s plan t

  abbrev K : ℕ
  K = states_in t

  abbrev G : Graph
  G = graph_of s plan t

  B : Bounded M n W K
  B = bounded A

  N : PlanCounts n
  N = A.planned.policy.counts

  module _ {o y : ℕ} (H : OfType n o y) where
    h : y < context_count n
    h = of_below N.countable H

    here : context_of (code_at n y) ≡ context_at_index n y
    here = code_of_place N h

    held : held_by n plan o y ≡ M.held (code_at n y)
    held = held_is A.planned.policy H ∙ ap (meetsρμ (ruled s plan)) (sym here)

    pub no_set : {into : ℕ} {b : Bool} → into ≡ sets_of n plan (context_at_index n y) → b ≡ bit into 0 → not b ≡ true → Begins M n W K y Dropped
    no_set {into} {b} S p k z = absurd (clash (to_true (M.σ 0 (code_at n y)) z.starts) (sym (into_of s plan t N h S 0) ∙ sym p ∙ not-true b k))

    pub no_held : {b : Bool} → b ≡ held_by n plan o y → not b ≡ true → Begins M n W K y Dropped
    no_held {b} p k z = absurd (clash (to_true (M.held (code_at n y)) z.meets) (sym held ∙ sym p ∙ not-true b k))

    pub never_start : NoStart n plan o → Start M (code_at n y) → ⊥
    never_start Z z =
        ⊎_elim (λ q. clash (to_true (M.σ 0 (code_at n y)) z.starts) (sym (into_of s plan t N h refl 0) ∙ q))
        (λ q. clash (to_true (M.held (code_at n y)) z.meets) (sym held ∙ q)) (Z.at y H)

    pub start_of : {into : ℕ} {a b : Bool} → into ≡ sets_of n plan (context_at_index n y) → a ≡ bit into 0 → not a ≡ false → b ≡ held_by n plan o y → not b ≡ false → Start M (code_at n y)
    start_of {into} {a} {b} S p p' r r' =
        record {
          context_at_lem = subst (λ (z : Context). T (in_range (counts_of s) z)) (sym here) (in_range_T (subst (λ (k : Counts). ContextInRange k (context_at_index n y)) A.ready.same (at_in_range n y N.countable.roles N.countable.users h)));
          starts = of_true _ (sym (into_of s plan t N h S 0) ∙ sym p ∙ not-false a p');
          meets = of_true _ (sym held ∙ sym r ∙ not-false b r');
        }

    pub beginning : {into i : ℕ} (r : Arrival) → Start M (code_at n y) → into ≡ sets_of n plan (context_at_index n y) → Started t.mode t.legs into i → Arrived t into y i r → Begins M n W K y r
    beginning {into} {i} r z S st a = go r (lands s plan t N h S r (st.is M (code_at n y) (legs_of_lem s plan t) (record { at = λ i _ k. into_of s plan t N h S i })) a)
      where
        go : (r : Arrival) → Lands M n W K y (W.start (code_at n y)) r → Begins M n W K y r
        go (Enter v) k = (z, k)
        go Dropped k = λ _. k
        go (Broken v) k = (z, k)

  -- the one node at place y that can be a start
  only_start : (y w : ℕ) → y * K ≤ w → w < (y + 1) * K → G.Start w → w ≡ y * K + W.start (code_at n y)
  only_start y w lo hi st =
      let a : place_of K w < y + 1 = place_lt (states_some t) hi in
      let b : y ≤ place_of K w = place_le (states_some t) lo in
      let p : place_of K w ≡ y = omega arith in
      let q : state_of K w ≡ W.start (code_at n y) = st.state ∙ ap (λ (i : ℕ). W.start (code_at n i)) p in
      whole K w ∙ ap₂ (λ (i j : ℕ). i * K + j) p q

  starts_at : (y w : ℕ) → y * K ≤ w → w < (y + 1) * K → G.Start w → Start M (code_at n y) × (¬ T (M.σ M.legs (code_at n y)))
  starts_at y w lo hi st =
      let a : place_of K w < y + 1 = place_lt (states_some t) hi in
      let b : y ≤ place_of K w = place_le (states_some t) lo in
      let p : place_of K w ≡ y = omega arith in
      (subst (λ (i : ℕ). Start M (code_at n i)) p st.begins, subst (λ (i : ℕ). ¬ T (M.σ M.legs (code_at n i))) p st.outside)

-- while the starts are looked for: the places below y are done, for one policy
pub record SowingBy (s plan : List ℕ) (t : Task) (back queue : List ℕ) (tail y : ℕ) : Type 0 where
  pub given : Given s plan t
  pub seeding : Seeding (graph_of s plan t) back queue tail (y * states_in t)
  pub none : (z : ℕ) → z < y → BadStart (model_by s plan t) (watch_by s plan t) (code_at t.counts z) → ⊥

begin_by : {s plan : List ℕ} {t : Task} {queue back : List ℕ} → Given s plan t → Roomy t queue back → SowingBy s plan t back queue 0 0
begin_by {s} {plan} {t} {queue} {back} A R =
    record {
      given = A;
      seeding = subst (λ (k : ℕ). Seeding (graph_of s plan t) back queue 0 k) (sym (zero-mul (states_in t))) (seed_begin back queue R.back_room R.queue_room);
      none = λ z h. absurd (omega arith);
    }

module _ {s plan : List ℕ} {t : Task} {back queue : List ℕ} {tail y : ℕ} (S : SowingBy s plan t back queue tail y) where
  A : Given s plan t
  A = S.given

  abbrev n₀ : Counts
  n₀ = t.counts

  abbrev M₀ : Model
  M₀ = model_by s plan t

  abbrev W₀ : Watch
  W₀ = watch_by s plan t

  abbrev K₀ : ℕ
  K₀ = states_in t

  -- places that are no starts are passed
  pass_by : (b : ℕ) → y ≤ b → b ≤ context_count n₀ → Cleared back (y * K₀) → ((z : ℕ) → y ≤ z → z < b → Start M₀ (code_at n₀ z) → ⊥)
      → SowingBy s plan t back queue tail b
  pass_by b lo hi C k =
      record {
        given = S.given;
        seeding = seed_pass (b * K₀) S.seeding (mul-le-mul_right K₀ lo) most (λ w l r. C.at w l)
            (λ w l r st. k (place_of K₀ w) (place_le (states_some t) l) (place_lt (states_some t) r) st.begins);
        none = λ z r Z. none' z r Z (dec_le y z);
      }
    where
      most : b * K₀ ≤ context_count n₀ * K₀
      most = mul-le-mul_right K₀ hi

      none' : (z : ℕ) → z < b → BadStart M₀ W₀ (code_at n₀ z) → Dec (y ≤ z) → ⊥
      none' z r Z (yes l) = k z l r Z.begins
      none' z r Z (no l) = S.none z (omega arith) Z

  module _ (h : y < context_count n₀) (C : Cleared back (y * K₀)) where
    block : (y + 1) * K₀ ≤ context_count n₀ * K₀
    block = let k : y + 1 ≤ context_count n₀ = omega arith in mul-le-mul_right K₀ k

    more_none : (BadStart M₀ W₀ (code_at n₀ y) → ⊥) → (z : ℕ) → z < y + 1 → BadStart M₀ W₀ (code_at n₀ z) → ⊥
    more_none k z h b = ⊎_elim (λ (q : z ≡ y). k (subst (λ (i : ℕ). BadStart M₀ W₀ (code_at n₀ i)) q b)) (λ h'. S.none z h' b) (below_or h)

    skip_by : Begins M₀ n₀ W₀ K₀ y Dropped → SowingBy s plan t back queue tail (y + 1)
    skip_by N =
        record {
          given = S.given;
          seeding = seed_pass ((y + 1) * K₀) S.seeding (omega (arith, next_block y K₀)) block
              (λ w lo hi. C.at w lo)
              (λ w lo hi st. let z = starts_at A y w lo hi st in z.1 (N z.0).arrives);
          none = more_none (λ b. (N b.begins).good b.ends.verdict);
        }

    module _ {v : ℕ} (O : Begins M₀ n₀ W₀ K₀ y (Enter v)) where
      node : v ≡ y * K₀ + W₀.start (code_at n₀ y)
      node = O.1.node

      small : W₀.start (code_at n₀ y) < K₀
      small = (B A).starts (code_at n₀ y)

      sow_below : v < context_count n₀ * K₀
      sow_below = let p : y * K₀ + W₀.start (code_at n₀ y) < context_count n₀ * K₀ = digits_lt h small in omega (arith, node)

      inside : v < (y + 1) * K₀
      inside = omega (arith, next_block y K₀, node, small)

      start_at : (graph_of s plan t).Start v
      start_at =
          record {
            begins = subst (λ (i : ℕ). Start M₀ (code_at n₀ i)) (sym at_v) O.0;
            state = ap (state_of K₀) node ∙ state_of_lem y small ∙ ap (λ (i : ℕ). W₀.start (code_at n₀ i)) (sym at_v);
            outside = subst (λ (i : ℕ). ¬ T (M₀.σ M₀.legs (code_at n₀ i))) (sym at_v) O.1.outside;
          }
        where
          at_v : place_of K₀ v ≡ y
          at_v = ap (place_of K₀) node ∙ place_of_lem y small

      only : (w : ℕ) → y * K₀ ≤ w → w < (y + 1) * K₀ → (graph_of s plan t).Start w → w ≡ v
      only w lo hi st = only_start A y w lo hi st ∙ sym node

      enter_by : SowingBy s plan t (set back v (context_count n₀ * K₀ + 1)) (set queue tail v) (tail + 1) (y + 1)
      enter_by =
          record {
            given = S.given;
            seeding = seed_pass ((y + 1) * K₀)
                (seed_visit
                (seed_pass v S.seeding (omega (arith, node)) (omega (arith, sow_below)) (λ w lo hi. C.at w lo)
                (λ w lo hi st. let q : w ≡ v = only w lo (omega (arith, inside)) st in omega arith))
                sow_below start_at)
                (omega (arith, inside)) block
                (λ w lo hi. get_or-set_other back v w (context_count n₀ * K₀ + 1) 0 (λ q. omega arith) ∙ C.at w (omega (arith, node)))
                (λ w lo hi st. let q : w ≡ v = only w (omega (arith, node)) hi st in omega arith);
            none = more_none (λ b. O.1.outside b.ends.arrives);
          }

    broken_by : {v : ℕ} → Begins M₀ n₀ W₀ K₀ y (Broken v) → SownStart s plan t queue back y tail
    broken_by Z = record { visited = seed_visited S.seeding C; below = h; bad = record { begins = Z.0; ends = Z.1.ends } }

  end_by : context_count n₀ ≤ y → Cleared back (y * K₀) → SownNodes s plan t queue back tail
  end_by h C = record { inv = seed_end S.seeding (mul-le-mul_right K₀ h) C; none = none }
    where
      none : (x : ℕ) → BadStart M₀ W₀ x → ⊥
      none x b =
          let (z, l, q) = (B A).placed x b.begins.context_at_lem in
          S.none z (omega arith) (subst (BadStart M₀ W₀) (sym q) b)

-- .. whatever the policy
pub record Sowing (plan : List ℕ) (t : Task) (nodes : ℕ) (back queue : List ℕ) (tail y : ℕ) : Type 0 where
  pub readable : Readable plan t
  pub nodes_are : nodes ≡ context_count t.counts * states_in t
  pub few : nodes < 2 ^ 26
  pub below : y ≤ context_count t.counts
  pub full : tail ≤ y * states_in t
  pub fits : tail ≤ nodes
  pub clear : Cleared back (y * states_in t)
  pub by : (s : List ℕ) → Given s plan t → SowingBy s plan t back queue tail y

pub sow_begin : {plan : List ℕ} {t : Task} {nodes : ℕ} {back queue : List ℕ} → Readable plan t → nodes ≡ context_count t.counts * states_in t
    → Roomy t queue back → Sowing plan t nodes back queue 0 0
sow_begin R p room =
    record {
      readable = R;
      nodes_are = p;
      few = omega (arith, R.nodes);
      below = omega arith;
      full = omega arith;
      fits = omega arith;
      clear = record { at = λ v lo. room.fresh.at v (omega arith) };
      by = λ s A. begin_by A room;
    }

module _ {plan : List ℕ} {t : Task} {nodes : ℕ} {back queue : List ℕ} {tail y : ℕ} (S : Sowing plan t nodes back queue tail y) where
  module _ {o : ℕ} {r : Arrival} (H : OfType t.counts o y) (Z : Beginning plan t y r) where
    in_count : y < context_count t.counts
    in_count = of_below S.readable.sets.counts.countable H

    -- what the arrival is, for a policy
    begun : {r' : Arrival} → r ≡ r' → (s : List ℕ) → Given s plan t → Begins (model_by s plan t) t.counts (watch_by s plan t) (states_in t) y r'
    begun q s A = subst (Begins (model_by s plan t) t.counts (watch_by s plan t) (states_in t) y) q (Z.by s A)

    pub sow_skip : r ≡ Dropped → Sowing plan t nodes back queue tail (y + 1)
    sow_skip q =
        record {
          readable = S.readable;
          nodes_are = S.nodes_are;
          few = S.few;
          below = omega (arith, in_count);
          full = omega (arith, S.full, next_block y (states_in t));
          fits = S.fits;
          clear = record { at = λ w lo. S.clear.at w (omega (arith, next_block y (states_in t))) };
          by = λ s A. skip_by (S.by s A) in_count S.clear (begun q s A);
        }

    pub sow_broken : {v : ℕ} → r ≡ Broken v → (s : List ℕ) → Given s plan t → SownStart s plan t queue back y tail
    sow_broken q s A = broken_by (S.by s A) in_count S.clear (begun q s A)

    module _ {v : ℕ} (q : r ≡ Enter v) where
      pub sow_within : v < context_count t.counts * states_in t
      sow_within = let k : y + 1 ≤ context_count t.counts = omega (arith, in_count) in lt_of_lt_of_le (Z.high v q) (mul-le-mul_right (states_in t) k)

      pub sow_room : tail < context_count t.counts * states_in t
      sow_room = omega (arith, S.full, Z.low v q, sow_within)

      pub sow_enter : Sowing plan t nodes (set back v (nodes + 1)) (set queue tail v) (tail + 1) (y + 1)
      sow_enter =
          record {
            readable = S.readable;
            nodes_are = S.nodes_are;
            few = S.few;
            below = omega (arith, in_count);
            full = omega (arith, S.full, Z.low v q, Z.high v q);
            fits = omega (arith, sow_room, S.nodes_are);
            clear = record {
              at = λ w lo. get_or-set_other back v w (nodes + 1) 0 (λ z. omega (arith, Z.high v q)) ∙ S.clear.at w (omega (arith, next_block y (states_in t)));
            };
            by = λ s A. subst (λ (k : ℕ). SowingBy s plan t (set back v (k + 1)) (set queue tail v) (tail + 1) (y + 1)) (sym S.nodes_are)
                (enter_by (S.by s A) in_count S.clear (begun q s A));
          }

  -- a type is passed over
  pub sow_pass : {o : ℕ} → y ≡ first_place t.counts o → Within 1 t.counts.types o → NoStart t.counts plan o
      → Sowing plan t nodes back queue tail (first_place t.counts (o + 1))
  sow_pass {o} e W Z =
      record {
        readable = S.readable;
        nodes_are = S.nodes_are;
        few = S.few;
        below = most;
        full = omega (arith, S.full, more);
        fits = S.fits;
        clear = record { at = λ w lo. S.clear.at w (omega (arith, more)) };
        by = λ s A. pass_by (S.by s A) (first_place t.counts (o + 1)) next most S.clear
            (λ z lo hi. never_start A (record { type = W; low = subst (λ (k : ℕ). k ≤ z) e lo; high = hi }) Z);
      }
    where
      next : y ≤ first_place t.counts (o + 1)
      next = subst (λ (k : ℕ). k ≤ first_place t.counts (o + 1)) (sym e) (start_next S.readable.sets.counts.countable o)

      most : first_place t.counts (o + 1) ≤ context_count t.counts
      most = start_le S.readable.sets.counts.countable (o + 1) (omega (arith, W.high))

      more : y * states_in t ≤ first_place t.counts (o + 1) * states_in t
      more = mul-le-mul_right (states_in t) next

  pub sow_end : context_count t.counts ≤ y → (s : List ℕ) → Given s plan t → SownNodes s plan t queue back tail
  sow_end h s A = end_by (S.by s A) h S.clear

-- behind the last type stands no context
pub last_type : (n : Counts) {o : ℕ} → n.types ≤ o → context_count n ≤ first_place n (o + 1)
last_type n {o} h = let k : n.types ≤ o + 1 - 1 = omega arith in mul-le-mul_right n.users (mul-le-mul_right n.roles k)

-- the node of a start is among those of its context
module _ {plan : List ℕ} {t : Task} {o y state into : ℕ} (R : Readable plan t) (H : OfType t.counts o y) (S : into ≡ sets_of t.counts plan (context_at_index t.counts y))
    (st : Started t.mode t.legs into state) where
  small_start : state < states_in t
  small_start =
      let h = of_below R.sets.counts.countable H in
      let q = st.is (model_by [] plan t) (code_at t.counts y) (legs_of_lem [] plan t) (record { at = λ i _ k. into_of [] plan t R.sets.counts h S i }) in
      subst (λ (i : ℕ). i < states_in t) (sym q) (begin_below [] plan t R.some_leg (code_at t.counts y))

  pub begins_by : (r : Arrival) → Arrived t into y state r → ((s : List ℕ) → Given s plan t → Begins (model_by s plan t) t.counts (watch_by s plan t) (states_in t) y r) → Beginning plan t y r
  begins_by r Z by = record { by = by; low = λ v q. omega (arith, node_at_lem q); high = λ v q. omega (arith, node_at_lem q, next_block y (states_in t), small_start) }
    where
      node_at_lem : {v : ℕ} → r ≡ Enter v → v ≡ y * states_in t + state
      node_at_lem q = (subst (Arrived t into y state) q Z).node

abbrev never : Arrival → Type 0
never (Enter v) = ⊥
never Dropped = Unit
never (Broken v) = Unit

pub begins_none : {plan : List ℕ} {t : Task} {y : ℕ} → ((s : List ℕ) → Given s plan t → Begins (model_by s plan t) t.counts (watch_by s plan t) (states_in t) y Dropped) → Beginning plan t y Dropped
begins_none by = record { by = by; low = λ v q. absurd (subst never q tt); high = λ v q. absurd (subst never q tt) }
