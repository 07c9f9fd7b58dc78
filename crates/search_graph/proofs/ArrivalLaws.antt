-- The leaves of a search: what their bits say of the model of a plan.
use mathlib.Core.Path.{◌≡◌, refl, sym, ◌∙◌, ap, ap₂, subst}
use mathlib.Core.Bool.{Bool, true, false, not}
use mathlib.Core.List.{List}
use mathlib.Core.Logic.{⊎_elim}
use Prim.Native.Nat.{ℕ, suc, ◌+◌, ◌*◌, ◌%◌, ◌^◌, ◌≤◌, ◌<◌}
use native.Mathlib.Nat.{mul-le-mul_right}
use native.Mathlib.Omega.{arith}
use borrow.Author.Tests.{not-true}
use lib.Pow.{pow_pos, pow-lt}
use Rattle.base.specs.Bits.{bit}
use Rattle.base.proofs.BoolLaws.{clash, and_true, and_first, and_second, to_true, of_true}
use Rattle.policy_image.specs.declared.counts.Counts.{Counts}
use Rattle.policy_image.specs.Policy.{Policy}
use Rattle.context.specs.declared.Context.{Context}
use Rattle.context.specs.Codes.{context_of, event_of}
use Rattle.context.specs.Inner.Places.{context_count, context_at_index, OfType}
use Rattle.context.proofs.CodeLaws.{context_of_code}
use Rattle.context.proofs.PlaceLaws.{at_in_range}
use Rattle.paths.specs.Model.{Model}
use Rattle.paths.proofs.StageLaws.{one_shl}
use Rattle.goal_model.specs.Images.{meetsρμ}
use Rattle.plan.specs.Inner.Entries.{event_sets_at}
use Rattle.plan.specs.Inner.Plan.{PlanCounts, PolicyPlan}
use Rattle.plan.specs.Inner.Sets.{sets_of}
use Rattle.plan.specs.Inner.Meets.{held_by}
use Rattle.search_steps.specs.declared.nearest.Asker.{Asker}
use Rattle.search_steps.specs.declared.nearest.Offer.{Offer}
use Rattle.search_steps.specs.Inner.Steps.{NextOffer}
use Rattle.search_steps.proofs.FlowLaws.{flow_held}
use Rattle.plan.proofs.MeetsLaws.{held_is}
use Rattle.search_graph.specs.declared.arrival.Arrival.{Arrival}
use Rattle.search_graph.specs.declared.arrival.Arrival.TheVariants.{Enter, Dropped, Broken}
use Rattle.search_graph.specs.declared.task.Task.{Task}
use Rattle.search_graph.specs.Inner.Model.{excepted, asks_by}
use Rattle.search_graph.specs.Inner.Nodes.{code_at}
use Rattle.search_graph.specs.Inner.Tasks.{bits_in, state_count, states_in, States, Readable, model_by, watch_by}
use Rattle.search_graph.specs.Inner.Watching.{LegsOf, By, Stepped, Judged}
use Rattle.search_graph.specs.Inner.Arrivals.{Entered, Ended, Broke, Arrived, Lands, Arriving}
use Rattle.search_graph.specs.Inner.Blocks.{Asks, FirstStep}

-- ---- numbers of nodes
pub states_law : (bits : ℕ) → bits ≤ 6 → States bits ((1 * 2 ^ bits) % 2 ^ 32)
unfolding state_count
states_law bits h =
    let k : bits < 32 = omega arith in
    record { same = one_shl k; some = rw (one_shl k) (pow_pos bits) }

pub nodes_of_lem : {c count bits states : ℕ} → count ≡ c → States bits states → count * states ≡ c * state_count bits
nodes_of_lem q S = ap₂ (λ (i j : ℕ). i * j) q S.same

pub node_room : {bits legs state r : ℕ} (y : ℕ) → States bits r → legs ≤ 6 → y * state_count bits < 2 ^ 26 → state < 2 ^ suc legs → y * r + state < 2 ^ 27
node_room {bits} {legs} {state} {r} y S h a b =
    let q : y * r ≡ y * state_count bits = ap (λ (k : ℕ). y * k) S.same in
    let k : suc legs < 8 = omega arith in
    let p : 2 ^ suc legs < 2 ^ 8 = pow-lt k in
    omega arith

pub place_room : {plan : List ℕ} {t : Task} {y : ℕ} → Readable plan t → y < context_count t.counts → y * states_in t < 2 ^ 26
place_room {t = t} {y} G h =
    let a : y ≤ context_count t.counts = omega arith in
    let b : y * states_in t ≤ context_count t.counts * states_in t = mul-le-mul_right (states_in t) a in
    omega (arith, G.nodes)

-- ---- the cases of an arrival
pub land_broken : {t : Task} {into state r : ℕ} {b c : Bool} (y : ℕ) → States (bits_in t) r → b ≡ bit into t.legs.count → b ≡ true → Judged t.mode t.legs state c → c ≡ true
    → Broke t into y state (y * r + state)
land_broken {t} {state = state} y S p q J k =
    record { node = ap (λ (i : ℕ). y * i + state) S.same; arrives = sym p ∙ q; verdict = subst (Judged t.mode t.legs state) k J }

pub land_dropped : {t : Task} {into state : ℕ} {b c : Bool} → b ≡ bit into t.legs.count → b ≡ true → Judged t.mode t.legs state c → c ≡ false → Ended t into state
land_dropped {t} {state = state} p q J k = record { arrives = sym p ∙ q; good = subst (Judged t.mode t.legs state) k J }

pub land_enter : {t : Task} {into state r : ℕ} {b : Bool} (y : ℕ) → States (bits_in t) r → b ≡ bit into t.legs.count → b ≡ false → Entered t into y state (y * r + state)
land_enter {state = state} y S p q = record { node = ap (λ (k : ℕ). y * k + state) S.same; outside = sym p ∙ q }

-- ---- the bits of sets
pub code_of_place : {n : Counts} {y : ℕ} → PlanCounts n → y < context_count n → context_of (code_at n y) ≡ context_at_index n y
unfolding code_at
code_of_place {n} {y} C h =
    let r = at_in_range n y C.countable.roles C.countable.users h in
    let a = r.role.high in
    let b = r.user.high in
    context_of_code (context_at_index n y) (omega (arith, C.roles)) (omega (arith, C.users))

module _ (s plan : List ℕ) (t : Task) where
  abbrev M : Model
  M = model_by s plan t

  abbrev n : Counts
  n = t.counts

  pub legs_of_lem : LegsOf M t.legs
  legs_of_lem = record { count = refl; repeated = λ i _. refl }

  pub by_of : {e by : ℕ} → by ≡ event_sets_at plan e → By M e by
  by_of q = record { at = λ i h. ap (λ (k : ℕ). bit k (7 + i)) q }

  module _ {into y : ℕ} (C : PlanCounts n) (h : y < context_count n) (S : into ≡ sets_of n plan (context_at_index n y)) where
    pub into_of : (i : ℕ) → bit into i ≡ M.σ i (code_at n y)
    into_of i = ap (λ (k : ℕ). bit k i) (S ∙ ap (sets_of n plan) (sym (code_of_place C h)))

    -- what the bits say of an arrival, the model says
    pub lands : {state state' : ℕ} (r : Arrival) → state ≡ state' → Arrived t into y state r → Lands M n (watch_by s plan t) (states_in t) y state' r
    lands {state} {state'} (Enter v) q a =
        record {
          node = a.node ∙ ap (λ (k : ℕ). y * states_in t + k) q;
          outside = λ u. clash (to_true (M.σ M.legs (code_at n y)) u) (sym (into_of M.legs) ∙ a.outside);
        }
    lands {state} {state'} Dropped q a =
        record {
          arrives = of_true _ (sym (into_of M.legs) ∙ a.arrives);
          good = λ u. clash (to_true ((watch_by s plan t).bad state') u) (ap (watch_by s plan t).bad (sym q) ∙ sym (a.good.is M legs_of_lem));
        }
    lands {state} {state'} (Broken v) q a =
        record {
          node = a.node ∙ ap (λ (k : ℕ). y * states_in t + k) q;
          ends = record {
            arrives = of_true _ (sym (into_of M.legs) ∙ a.arrives);
            verdict = of_true _ (ap (watch_by s plan t).bad (sym q) ∙ sym (a.verdict.is M legs_of_lem));
          };
        }

pub arriving : {plan : List ℕ} {t : Task} {state by into y i : ℕ} (r : Arrival) → PlanCounts t.counts → y < context_count t.counts → into ≡ sets_of t.counts plan (context_at_index t.counts y)
    → Stepped t.mode t.legs state by into i → Arrived t into y i r → Arriving plan t state by y r
arriving {plan} {t} {y = y} r C h S st a =
    record {
      at = λ s e E. lands s plan t C h S r
          (st.is (model_by s plan t) e (code_at t.counts y) (legs_of_lem s plan t) (by_of s plan t E) (record { at = λ i _ k. into_of s plan t C h S i })) a;
    }

-- ---- the first step
pub asks_of : {p : Policy} {n : Counts} {plan : List ℕ} {o y : ℕ} {b : Bool} → PolicyPlan p n plan → OfType n o y → b ≡ asks_by n plan o y
    → Asks p n plan (context_at_index n y) b
asks_of {p} {n} {plan} {o} {y} {b} P H q =
    record {
      free = λ k. not-true (excepted n plan x) (and_first (not (excepted n plan x)) (held_by n plan o y) (sym q ∙ k));
      meets = λ k. sym held ∙ and_second (not (excepted n plan x)) (held_by n plan o y) (sym q ∙ k);
      never = λ k f m. clash (q ∙ and_true (not (excepted n plan x)) (held_by n plan o y) (ap not f) (held ∙ m)) k;
    }
  where
    x : Context
    x = context_at_index n y

    held : held_by n plan o y ≡ meetsρμ p (context_at_index n y)
    held = held_is P H

module _ {p : Policy} {n : Counts} {plan swept : List ℕ} {a : Asker} {x : Context} {b : Bool} (A : Asks p n plan x b) where
  pub no_step_lem : {start entry : ℕ} → b ≡ false → FirstStep p n plan swept a x (record { start = start; entry = entry; step = 4194304 })
  no_step_lem t =
      record {
        high = omega arith;
        ahead = λ l. absurd (omega arith);
        none = λ i z _ _ f k. absurd (A.never t f (flow_held p (event_of i) x z k).0);
      }

  pub some_step : {r : Offer} → b ≡ true → NextOffer p plan swept a x 0 r → FirstStep p n plan swept a x r
  some_step t N =
      record {
        high = N.high;
        ahead = λ l. record {
          free = A.free t;
          meets = A.meets t;
          offering = N.offers l;
          unclosed = N.unclosed l;
          resumes = N.resumes l;
        };
        -- nothing was asked before the first step
        none = λ i z w l _ k. ⊎_elim (λ h. h) (λ E. absurd (let h = E.before in omega arith)) (N.none i z w (omega arith) l k);
      }
