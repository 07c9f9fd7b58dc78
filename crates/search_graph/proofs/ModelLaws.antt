-- The model of an accepted policy and a plan: its contexts have places, its events codes below 1024, and the states are enough.
use mathlib.Core.Path.{◌≡◌, refl, sym, ◌∙◌, ap, subst}
use mathlib.Core.Bool.{Bool, not}
use mathlib.Core.List.{List}
use Prim.Native.Nat.{ℕ, suc, ◌*◌, ◌/◌, ◌%◌, ◌^◌, ◌≤◌, ◌<◌}
use native.Mathlib.Nat.{mul-one}
use native.Mathlib.Omega.{arith}
use lib.Pow.{pow_pos, pow_mono}
use lib.Dec.{T, leb→le, T_not}
use Rattle.base.specs.Bits.{bit}
use Rattle.base.proofs.BoolLaws.{to_true}
use Rattle.policy_image.specs.declared.counts.Counts.{Counts}
use Rattle.policy_image.specs.Layout.{counts_of}
use Rattle.context.specs.Inner.Coding.{context_code}
use Rattle.context.specs.Codes.{context_of}
use Rattle.context.specs.Ranges.{ContextInRange}
use Rattle.context.specs.Inner.Places.{context_count, context_index}
use Rattle.context.proofs.CodeLaws.{context_code_of}
use Rattle.context.proofs.PlaceLaws.{at_index, index_lt}
use Rattle.paths.specs.Model.{Model}
use Rattle.paths.proofs.Any.{and_T, not_true}
use Rattle.paths.proofs.Numbers.{pack_lt, pack_top, bit_pack}
use Rattle.paths.specs.Inner.Monitors.{opens}
use Rattle.paths.proofs.Bounds.{top, one_lt}
use Rattle.goal_image.specs.declared.check.Legs.{Legs}
use Rattle.goal_model.specs.Images.{in_range}
use Rattle.plan.specs.Inner.Plan.{Ready}
use Rattle.plan.specs.Inner.Entries.{counted_at}
use Rattle.search_steps.proofs.FlowLaws.{flow_code}
use Rattle.search_graph.specs.declared.monitor.Mode.{Mode}
use Rattle.search_graph.specs.declared.monitor.Mode.TheVariants.{Order, Events, Any}
use Rattle.search_graph.specs.declared.task.Task.{Task}
use Rattle.search_graph.specs.Inner.Nodes.{watch_of, code_at, Bounded}
use Rattle.search_graph.specs.Inner.Tasks.{task_for, state_bits, bits_in, state_count, states_in, Given, model_by, watch_by}

pub range_of : {s : List ℕ} {n : Counts} → Ready s n → (x : ℕ) → T (in_range (counts_of s) (context_of x)) → ContextInRange n (context_of x)
unfolding in_range
range_of {s} {n} r x t =
    let ((t1, t2), ((r1, r2), (u1, u2))) = simp and_T at t in
    subst (λ (k : Counts). ContextInRange k (context_of x)) (sym r.same)
    (record {
      ty = record { low = leb→le 1 (x / 256) t1; high = leb→le (x / 256) (counts_of s).types t2 };
      role = record { low = leb→le 1 (x / 16 % 16) r1; high = leb→le (x / 16 % 16) (counts_of s).roles r2 };
      user = record { low = leb→le 1 (x % 16) u1; high = leb→le (x % 16) (counts_of s).users u2 };
    })

place : {s : List ℕ} {n : Counts} → Ready s n → (x : ℕ) → T (in_range (counts_of s) (context_of x)) → (y : ℕ) × (y < context_count n) × (code_at n y ≡ x)
unfolding code_at
place {s} {n} r x t =
    let h = range_of r x t in
    (context_index n (context_of x), index_lt n (context_of x) h, ap context_code (at_index n (context_of x) h) ∙ context_code_of x)

-- the state at a start is small, and that after a step to a context that is no end
start_below : (M : Model) (m : Mode) → 0 < M.legs → (x : ℕ) → (watch_of m M).start x < 2 ^ state_bits m M.legs
start_below M Order l x = pack_lt M.legs _
start_below M Events l x = one_lt M M.legs l
start_below M Any l x = pow_pos 0

step_below : (M : Model) (m : Mode) (state e y : ℕ) → ¬ T (M.σ M.legs y) → (watch_of m M).step state e y < 2 ^ state_bits m M.legs
step_below M Order state e y k = pack_lt M.legs _
step_below M Events state e y k =
    pack_top M.legs (opens M (bit state) e y) (not_true (opens M (bit state) e y M.legs) (λ t. k (top M state e y M.legs refl t)))
step_below M Any state e y k = pow_pos 0

pub begin_below : (s plan : List ℕ) (t : Task) → 0 < t.legs.count → (x : ℕ) → (watch_by s plan t).start x < states_in t
unfolding state_count
begin_below s plan t = start_below (model_by s plan t) t.mode

pub arrival_below : (s plan : List ℕ) (t : Task) (state e y : ℕ) → ¬ T ((model_by s plan t).σ t.legs.count y) → (watch_by s plan t).step state e y < states_in t
unfolding state_count
arrival_below s plan t = step_below (model_by s plan t) t.mode

module _ {s plan : List ℕ} {t : Task} (A : Given s plan t) where
  abbrev M : Model
  M = model_by s plan t

  code : (x e y : ℕ) → T (M.flow_by x e y) → e < 1024
  code x e y k = flow_code {s = s} (counted_at plan) e (context_of x) (context_of y) A.ready.sound (to_true (M.flow_by x e y) k)

  enough : (m : Mode) → Bounded M t.counts (watch_of m M) (2 ^ state_bits m M.legs)
  enough Order =
      record {
        placed = place A.ready;
        events = code;
        starts = start_below M Order A.readable.some_leg;
        steps = step_below M Order;
        bads = λ s e y b. pack_lt M.legs _;
      }
  enough Events =
      record {
        placed = place A.ready;
        events = code;
        starts = start_below M Events A.readable.some_leg;
        steps = step_below M Events;
        bads = λ s e y b. pack_top M.legs (opens M (bit s) e y) (not_true (opens M (bit s) e y M.legs)
            (T_not (opens M (bit s) e y M.legs) (subst (λ (a : Bool). T (not a)) (bit_pack (suc M.legs) (opens M (bit s) e y) M.legs (omega arith)) b)));
      }
  enough Any =
      record {
        placed = place A.ready;
        events = code;
        starts = start_below M Any A.readable.some_leg;
        steps = step_below M Any;
        bads = λ s e y b. pow_pos 0;
      }

  pub bounded : Bounded M t.counts (watch_by s plan t) (states_in t)
  unfolding state_count
  bounded = enough t.mode

-- a context has states, and at most 64
pub states_some : (t : Task) → 0 < states_in t
unfolding state_count
states_some t = pow_pos (bits_in t)

pub bits_few : (m : Mode) {legs b : ℕ} → legs ≤ b → state_bits m legs ≤ b
bits_few Order h = h
bits_few Events h = h
bits_few Any h = omega arith

pub states_few : (t : Task) → t.legs.count ≤ 6 → states_in t ≤ 64
unfolding state_count
states_few t h = pow_mono {j = 6} (bits_few t.mode h)

-- where any end is looked for, there is a node for each context
pub any_nodes : (n : Counts) (l : Legs) → context_count n * states_in (task_for n l Any) ≡ context_count n
unfolding state_count
any_nodes n l = mul-one (context_count n)
