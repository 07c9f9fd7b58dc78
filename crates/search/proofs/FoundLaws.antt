-- What the search of the graph says of the model.
use mathlib.Core.Path.{◌≡◌, sym, ◌∙◌, ap, subst}
use mathlib.Core.List.{List}
use mathlib.Core.Logic.{inr}
use Prim.Native.Nat.{ℕ, ◌^◌, ◌<◌, ◌≤◌}
use native.Mathlib.Omega.{arith}
use Rattle.std.specs.Prelude.{Option, Some, None}
use Rattle.policy_image.specs.declared.counts.Counts.{Counts}
use Rattle.context.specs.declared.Context.{Context}
use Rattle.context.specs.Inner.Coding.{context_code}
use Rattle.context.specs.Inner.Places.{context_count, context_at_index}
use Rattle.context.proofs.PlaceLaws.{at_in_range}
use Rattle.paths.specs.Model.{Model}
use Rattle.paths.specs.Inner.Least.{Least}
use Rattle.plan.specs.Inner.Plan.{PlanCounts}
use Rattle.search.specs.declared.levels.End.{End}
use Rattle.search.specs.declared.levels.End.TheVariants.{Start, Step}
use Rattle.search_graph.specs.declared.task.Task.{Task}
use Rattle.search_graph.specs.Inner.Nodes.{Watch, monitor_of, code_at, BadStart}
use Rattle.search_graph.specs.Inner.Tasks.{states_in, Given, model_by, watch_by, graph_of}
use Rattle.search_graph.specs.Inner.Seeds.{SownStart}
use Rattle.search.specs.Inner.Found.{unbounded, steps_to, reached_by, Searched, FoundStart, FoundLeast}
use Rattle.search_graph.proofs.NodeLaws.{least_start, least_at, none_within}
use Rattle.search_graph.proofs.ModelLaws.{bounded}

module _ {s plan : List ℕ} {t : Task} (A : Given s plan t) where
  abbrev n : Counts
  n = t.counts

  abbrev M : Model
  M = model_by s plan t

  abbrev W : Watch
  W = watch_by s plan t

  N : PlanCounts n
  N = A.readable.sets.counts

  pub found_least : (b : ℕ) (back : List ℕ) (r : Option End) → ((x : ℕ) → BadStart M W x → ⊥) → Searched (graph_of s plan t) b back r → FoundLeast s plan t b back r
  found_least b back None none f = none_within M n W (states_in t) (bounded A) none f
  found_least b back (Some (Start x)) none f = absurd f
  found_least b back (Some (Step l)) none (f, h) = (record { found = f; least = least_at M n W (states_in t) (bounded A) none f }, h)

  -- every number of steps is within `unbounded`, so that what is found is the least of all
  pub least_of_all : (back : List ℕ) (r : Option End) → FoundLeast s plan t unbounded back r → Least M (monitor_of W) (reached_by r)
  least_of_all back None f = λ k. f k (inr (omega (arith, A.readable.nodes)))
  least_of_all back (Some (Start x)) f = f.least
  least_of_all back (Some (Step l)) f = f.0.least

  -- how many steps away it is has room in 32 bits
  pub few_steps : (b : ℕ) (back : List ℕ) (e : End) → FoundLeast s plan t b back (Some e) → steps_to e ≤ 2 ^ 26
  few_steps b back (Start x) f = omega arith
  few_steps b back (Step l) f = omega (arith, f.0.found.short, A.readable.nodes)

  -- a context has a code
  pub coded : {y : ℕ} {x : Context} → y < context_count n → x ≡ context_at_index n y → (x.ty < 65536) × (x.role < 16) × (x.user < 16)
  coded {y} {x} h q =
      let r = at_in_range n y N.countable.roles N.countable.users h in
      let a = r.ty.high in
      let b = r.role.high in
      let c = r.user.high in
      rw q (omega (arith, N.types), omega (arith, N.roles), omega (arith, N.users))

  pub found_start : {queue back : List ℕ} {y tail c : ℕ} {x : Context} → SownStart s plan t queue back y tail → x ≡ context_at_index n y → c ≡ context_code x → FoundStart s plan t c
  unfolding code_at
  found_start {y = y} {c = c} {x} S q p =
      let k : code_at n y ≡ c = ap context_code (sym q) ∙ sym p in
      record { bad = subst (BadStart M W) k S.bad; least = least_start M n W (states_in t) (bounded A) S.bad }
