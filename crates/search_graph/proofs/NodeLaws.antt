-- What a search of the graph says of the nodes of a model: its least number of steps to a bad end.
use mathlib.Core.Path.{◌≡◌, sym, ◌∙◌, ap, subst}
use mathlib.Core.List.{List}
use Prim.Native.Nat.{ℕ, zero, suc, ◌+◌, ◌*◌, ◌≤◌, ◌<◌}
use native.Mathlib.Omega.{arith}
use lib.Arith.{digits_div, digits_mod, digits_lt}
use lib.Dec.{T}
use Rattle.policy_image.specs.declared.counts.Counts.{Counts}
use Rattle.context.specs.Inner.Places.{context_count}
use Rattle.paths.specs.Model.{Model}
use Rattle.paths.specs.Inner.Monitor.{Monitor, Start, Edge, BadNode, Reach, begin as begins, more}
use Rattle.paths.specs.Inner.Least.{Least, at}
use Rattle.search_graph.specs.Inner.Graph.{GraphReach, GraphReach.begin, GraphReach.step, Breaks, FoundAt, WithinBound, NoneFound}
use Rattle.search_graph.specs.Inner.Nodes.{Watch, monitor_of, code_at, place_of, state_of, code_of, EdgeAt, graph, BadStart, Bounded}

-- ---- the number of a node
pub place_of_lem : {k s : ℕ} (y : ℕ) → s < k → place_of k (y * k + s) ≡ y
unfolding place_of
place_of_lem y h = digits_div y h

pub state_of_lem : {k s : ℕ} (y : ℕ) → s < k → state_of k (y * k + s) ≡ s
unfolding state_of
state_of_lem y h = digits_mod y h

module _ (M : Model) (n : Counts) (W : Watch) (K : ℕ) where
  abbrev A : Monitor
  A = monitor_of W

  -- ---- from the graph to the model
  pub reach_there : {d v : ℕ} → GraphReach (graph M n W K) d v → Reach M A d (code_of n K v) (state_of K v)
  reach_there (begin {v} l s) = subst (λ (t : ℕ). Reach M A 0 (code_of n K v) t) (sym s.state) (begins s.begins)
  reach_there (step {d} {u} {e} {v} r le lv ed ne) =
      subst (λ (t : ℕ). Reach M A (suc d) (code_of n K v) t) (sym ed.state) (more e (code_of n K v) (reach_there r) ed.edge)

  pub breaks_there : {d u e v : ℕ} → GraphReach (graph M n W K) d u → Breaks (graph M n W K) u e v → BadNode M A (suc d)
  breaks_there {d} {u} {e} {v} r b =
      record {
        x = code_of n K v;
        s = state_of K v;
        reach = subst (λ (t : ℕ). Reach M A (suc d) (code_of n K v) t) (sym b.edge.state) (more e (code_of n K v) (reach_there r) b.edge.edge);
        arrives = b.ends.arrives;
        verdict = b.edge.kept b.ends.arrives;
      }

  -- ---- and back
  pub record NodeOf (x s : ℕ) : Type 0 where
    pub v : ℕ
    pub below : v < context_count n * K
    pub code : code_of n K v ≡ x
    pub state : state_of K v ≡ s

  module _ (B : Bounded M n W K) where
    pub node_of : (x s : ℕ) → T (M.context x) → s < K → NodeOf x s
    node_of x s c h =
        let (y, l, q) = B.placed x c in
        record { v = y * K + s; below = digits_lt l h; code = ap (code_at n) (place_of_lem y h) ∙ q; state = state_of_lem y h }

    edge_back : {x s e y : ℕ} (u : NodeOf x s) (v : NodeOf y (W.step s e y)) → Edge M x e y → (T (M.σ M.legs y) → T (W.bad (W.step s e y)))
        → EdgeAt M n W K u.v e v.v
    edge_back {x} {s} {e} {y} u v g h =
        record {
          edge = rw (u.code, v.code) g;
          state = rw (u.state, v.code) v.state;
          kept = rw (v.code, v.state) h;
        }

    -- a node of the graph for each that is reached and no end
    pub record Back (d x s : ℕ) : Type 0 where
      pub node : NodeOf x s
      pub reach : GraphReach (graph M n W K) d node.v

    pub reach_back : {d x s : ℕ} → Reach M A d x s → ¬ T (M.σ M.legs x) → Back d x s
    reach_back (begins {x} st) k =
        let v = node_of x (W.start x) st.context_at_lem (B.starts x) in
        record {
          node = v;
          reach = begin v.below (record {
            begins = subst (Start M) (sym v.code) st;
            state = v.state ∙ ap W.start (sym v.code);
            outside = λ t. k (subst (λ (z : ℕ). T (M.σ M.legs z)) v.code t);
          });
        }
    reach_back (more {d} {x} {s} e y r g) k =
        let u = reach_back r g.first in
        let v = node_of y (W.step s e y) g.into (B.steps s e y k) in
        record {
          node = v;
          reach = step u.reach (B.events x e y g.flows) v.below (edge_back u.node v g (λ t. absurd (k t)))
              (λ t. k (subst (λ (z : ℕ). T (M.σ M.legs z)) v.code t.arrives));
        }

    pub record BrokenFrom (d : ℕ) : Type 0 where
      pub u : ℕ
      pub e : ℕ
      pub v : ℕ
      pub reach : GraphReach (graph M n W K) d u
      pub breaks : Breaks (graph M n W K) u e v

    pub bad_back : {d x s : ℕ} → Reach M A (suc d) x s → T (M.σ M.legs x) → T (W.bad s) → BrokenFrom d
    bad_back (more {d} {x} {s} e y r g) t b =
        let u = reach_back r g.first in
        let v = node_of y (W.step s e y) g.into (B.bads s e y b) in
        record {
          u = u.node.v;
          e = e;
          v = v.v;
          reach = u.reach;
          breaks = record {
            event = B.events x e y g.flows;
            target = v.below;
            edge = edge_back u.node v g (λ _. b);
            ends = record { arrives = subst (λ (z : ℕ). T (M.σ M.legs z)) (sym v.code) t };
          };
        }

    start_back : {x s : ℕ} → Reach M A 0 x s → T (M.σ M.legs x) → T (W.bad s) → BadStart M W x
    start_back (begins st) t b = record { begins = st; ends = record { arrives = t; verdict = b } }

    -- ---- what the search finds
    pub least_start : {x : ℕ} → BadStart M W x → Least M A (at 0)
    least_start {x} b =
        (record { x = x; s = W.start x; reach = begins b.begins; arrives = b.ends.arrives; verdict = b.ends.verdict }, λ k h. absurd (omega arith))

    module _ (none : (x : ℕ) → BadStart M W x → ⊥) where
      none_below : (d : ℕ) → ((j u e v : ℕ) → GraphReach (graph M n W K) j u → Breaks (graph M n W K) u e v → d ≤ j) → (k : ℕ) → k < suc d → ¬ BadNode M A k
      none_below d l zero h b = none b.x (start_back b.reach b.arrives b.verdict)
      none_below d l (suc k) h b =
          let f = bad_back b.reach b.arrives b.verdict in
          let z : d ≤ k = l k f.u f.e f.v f.reach f.breaks in
          absurd (omega arith)

      pub least_at : {back : List ℕ} {u e v d : ℕ} → FoundAt (graph M n W K) back u e v d → Least M A (at (suc d))
      least_at {d = d} f = (breaks_there f.reach f.breaks, none_below d f.least)

      pub none_within : {h : ℕ} → NoneFound (graph M n W K) h → (k : ℕ) → WithinBound h (context_count n * K) k → ¬ BadNode M A k
      none_within f zero w b = none b.x (start_back b.reach b.arrives b.verdict)
      none_within f (suc k) w b =
          let r = bad_back b.reach b.arrives b.verdict in
          f.never k r.u r.e r.v w r.reach r.breaks
