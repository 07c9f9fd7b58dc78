-- Where a node stands, and who asks for its steps.
use mathlib.Core.Path.{◌≡◌, refl, sym, ◌∙◌, ap, subst}
use mathlib.Core.Bool.{Bool, false}
use mathlib.Core.List.{List}
use Prim.Native.Nat.{ℕ, ◌*◌, ◌/◌, ◌%◌, ◌<◌}
use native.Mathlib.Nat.{div-lt_iff_lt-mul, mod-lt, lt_of_lt_of_le}
use native.Mathlib.Omega.{arith}
use lib.ListN.{get_or}
use Rattle.base.specs.Bits.{bit}
use Rattle.context.specs.declared.Context.{Context}
use Rattle.context.specs.Inner.Places.{context_count, context_at_index}
use Rattle.context.proofs.PlaceLaws.{at_in_range}
use Rattle.plan_tables.specs.Inner.Tables.{type_entries}
use Rattle.plan.specs.Inner.Entries.{event_sets_at}
use Rattle.context.proofs.TypeLaws.{own_place}
use Rattle.search_steps.proofs.NearestLaws.{kept_few}
use Rattle.search_graph.specs.declared.task.Task.{Task}
use Rattle.search_graph.specs.Inner.Nodes.{place_of, state_of}
use Rattle.search_graph.specs.Inner.Model.{asks_by}
use Rattle.search_graph.specs.Inner.Tasks.{bits_in, states_in, States, Readable, Given, Stands}
use Rattle.search_graph.specs.Inner.Blocks.{Asks}
use Rattle.search_graph.proofs.ModelLaws.{states_some, states_few}
use Rattle.search_graph.proofs.ArrivalLaws.{asks_of}
use Rattle.search_graph.proofs.LevelLaws.{place_lt}
use Rattle.search_memory.specs.declared.turn.Node.{Node}
use Rattle.search_memory.specs.Inner.Memory.{keeps_of, kept_by, TakenUp}
use Rattle.plan.specs.Inner.Plan.{ruled}

-- what does not change
pub record Around (plan : List ℕ) (t : Task) (states : ℕ) : Type 0 where
  pub readable : Readable plan t
  pub states_are : States (bits_in t) states

pub at_place : {plan : List ℕ} {t : Task} {states : ℕ} (u : ℕ) → Around plan t states → u < context_count t.counts * states_in t → u / states < context_count t.counts
at_place {t = t} u R h = rw R.states_are.same ((div-lt_iff_lt-mul (states_some t)).1 h)

pub stand : {plan : List ℕ} {t : Task} {states : ℕ} {x : Context} (u : ℕ) → Around plan t states → u < context_count t.counts * states_in t
    → x ≡ context_at_index t.counts (u / states) → Stands t u x (u % states)
unfolding place_of state_of
stand {t = t} {states = states} u R h q =
    let k : u / states < context_count t.counts = at_place u R h in
    let C = R.readable.sets.counts.countable in
    record {
      below = rw R.states_are.same at k;
      place = q ∙ ap (λ (i : ℕ). context_at_index t.counts (u / i)) R.states_are.same;
      range = rw q (at_in_range t.counts (u / states) C.roles C.users k);
      at = ap (λ (i : ℕ). u % i) R.states_are.same;
    }

-- ---- the asker
pub state_small : {plan : List ℕ} {t : Task} → Readable plan t → (u : ℕ) → state_of (states_in t) u < 64
unfolding state_of
state_small {t = t} R u = lt_of_lt_of_le (mod-lt u (states_some t)) (states_few t R.few_legs)

module _ {plan : List ℕ} {t : Task} {u : ℕ} {x : Context} {state : ℕ} (R : Readable plan t) (S : Stands t u x state) where
  pub own_few : x.ty < type_entries
  own_few = omega (arith, S.range.ty.high, R.sets.counts.types)

  pub state_few : state < 64
  state_few = subst (λ (k : ℕ). k < 64) (sym S.at) (state_small R u)

pub taken_up : {plan : List ℕ} {t : Task} {states u : ℕ} {x : Context} {spent : List ℕ} {keeps : ℕ} {b asks : Bool} → Around plan t states → Stands t u x (u % states) → keeps ≡ keeps_of t.mode
    → b ≡ bit (get_or spent x.ty 0) (u % states) → asks ≡ asks_by t.counts plan x.ty (u / states)
    → TakenUp plan t spent u (record { x = x; asker = record { state = u % states; keeps = keeps; spent = b }; asks = asks })
unfolding place_of
taken_up {plan} {t} {states} {u} {x} R S q e a =
    record {
      stands = S;
      asker = record { state_is = refl; keeps_are = q; spent_is = e; few = state_few R.readable S };
      asked = a ∙ ap (λ (i : ℕ). asks_by t.counts plan x.ty (u / i)) R.states_are.same;
    }

-- steps are asked from the node that is taken up, or are not
pub asks_from : {s plan : List ℕ} {t : Task} {spent : List ℕ} {u : ℕ} {v : Node} → Given s plan t → TakenUp plan t spent u v → Asks (ruled s plan) t.counts plan v.x v.asks
asks_from {s} {plan} {t} {u = u} {v} A T =
    subst (λ (x : Context). Asks (ruled s plan) t.counts plan x v.asks) (sym T.stands.place)
    (asks_of A.planned.policy (own_place A.readable.sets.counts.countable T.stands.below T.stands.place) T.asked)

-- every node stands somewhere
pub stands_any : {s plan : List ℕ} {t : Task} → Given s plan t → (u : ℕ) → u < context_count t.counts * states_in t → Stands t u (context_at_index t.counts (place_of (states_in t) u)) (state_of (states_in t) u)
stands_any {t = t} A u h =
    let C = A.readable.sets.counts.countable in
    let k = place_lt (states_some t) h in
    record { below = k; place = refl; range = at_in_range t.counts (place_of (states_in t) u) C.roles C.users k; at = refl }

-- what an event keeps of a state is small
pub kept_small : {s plan : List ℕ} {t : Task} → Given s plan t → (u e : ℕ) → kept_by t.mode plan (state_of (states_in t) u) e < 64
kept_small {plan = plan} {t = t} A u e =
    kept_few (record { state = state_of (states_in t) u; keeps = keeps_of t.mode; spent = false }) (event_sets_at plan e) (state_small A.readable u)
