-- An accepted policy has few contexts, so that its nodes can be numbered: with a plan for it a search has all that it is given. The bounds hold
-- for up to 4,095 types.
use Prim.Native.Nat.{ℕ, ◌*◌, ◌^◌, ◌≤◌, ◌<◌}
use mathlib.Core.List.{List}
use mathlib.Core.Path.{◌≡◌, sym, subst}
use native.Mathlib.Nat.{mul-le-mul}
use native.Mathlib.Omega.{arith}
use lib.Pow.{pow_mono}
use Rattle.policy_image.specs.declared.counts.Counts.{Counts}
use Rattle.policy_image.specs.Layout.{counts_of}
use Rattle.policy_image.specs.Counts.{CountsInRange}
use Rattle.policy_check.specs.Inner.Sound.{Sound}
use Rattle.context.specs.Inner.Places.{context_count}
use Rattle.goal_image.specs.declared.check.Legs.{Legs}
use Rattle.plan.specs.Inner.Plan.{Ready, Planned}
use Rattle.plan.proofs.ContextLaws.{plan_counts}
use Rattle.search_graph.specs.declared.monitor.Mode.{Mode}
use Rattle.search_graph.specs.Inner.Tasks.{state_bits, state_count, Given, task_for}
use Rattle.search_graph.proofs.ModelLaws.{bits_few}

few_contexts : {n : Counts} → CountsInRange n → context_count n ≤ 921375
few_contexts R = mul-le-mul {n₂ = 61425} {m₂ = 15} (mul-le-mul {n₂ = 4095} {m₂ = 15} (omega (arith, R.types.high)) R.roles.high) R.users.high

pub ready_of : {s : List ℕ} {n : Counts} → Sound s → n ≡ counts_of s → Ready s n
ready_of S q =
    let R = subst CountsInRange (sym q) S.range in
    record { sound = S; same = q; countable = record { roles = R.roles.low; users = R.users.low; few = omega (arith, few_contexts R) } }

pub few_nodes : {s : List ℕ} {n : Counts} → Ready s n → (bits : ℕ) → bits ≤ 6 → context_count n * state_count bits < 2 ^ 26
unfolding state_count
few_nodes {n = n} R bits b =
    let h : context_count n * 2 ^ bits ≤ 921375 * 2 ^ 6 = mul-le-mul (few_contexts (subst CountsInRange (sym R.same) R.sound.range)) (pow_mono b) in
    omega arith

pub given : {s plan : List ℕ} {n : Counts} {l : Legs} → Ready s n → Planned s n plan → 0 < l.count → l.count ≤ 6 → (m : Mode) → Given s plan (task_for n l m)
given {l = l} R L some few m =
    record {
      ready = R;
      planned = L;
      readable = record {
        sets = record { counts = plan_counts R; falls = L.falls; size = L.size };
        some_leg = some;
        few_legs = few;
        nodes = few_nodes R (state_bits m l.count) (bits_few m few);
      };
    }
