-- A path is written from its end: the links of a chain, one by one, and what the slice then shows.
use mathlib.Core.Path.{◌≡◌, refl, sym, ◌∙◌, ap, subst, subst₂}
use mathlib.Core.List.{List}
use mathlib.Core.Logic.{⊎_elim}
use Prim.Native.Nat.{ℕ, zero, suc, ◌+◌, ◌-◌, ◌*◌, ◌^◌, ◌≤◌, ◌<◌}
use native.Mathlib.Nat.{eq-or-lt_of_le, le_refl}
use native.Mathlib.Omega.{arith}
use lib.Dec.{T}
use lib.ListN.{length, get_or, set, length-set}
use lib.Seq.{get_or-set_same, get_or-set_other}
use Rattle.std.specs.Prelude.{Option, Some}
use Rattle.policy_image.specs.declared.counts.Counts.{Counts}
use Rattle.context.specs.Inner.Places.{context_count}
use Rattle.paths.specs.Model.{Model}
use Rattle.paths.specs.Paths.{IsPath}
use Rattle.paths.specs.Slice.{contexts_in, events_in}
use Rattle.paths.specs.Inner.Monitor.{Edge, run}
use Rattle.paths.proofs.Monitor.{run_is}
use Rattle.paths.proofs.Monitors.{order_verdict, events_verdict}
use Rattle.search_graph.specs.declared.monitor.Mode.{Mode}
use Rattle.search_graph.specs.declared.monitor.Mode.TheVariants.{Order, Events, Any}
use Rattle.search_graph.specs.declared.task.Task.{Task}
use Rattle.search_graph.specs.Inner.Tasks.{bits_in, states_in, States, Given, model_by, watch_by, graph_of}
use Rattle.search_graph.specs.Inner.Graph.{Graph, Chain, Chain.root, Chain.link}
use Rattle.search_graph.specs.Inner.Nodes.{Watch, watch_of, monitor_of, state_of, code_of, StartAt, EdgeAt, EndAt, BadStart}
use Rattle.search_graph.proofs.SearchLaws.{chain_bound}
use Rattle.search_memory.proofs.StandLaws.{at_place}
use Rattle.search.specs.declared.levels.LastStep.{LastStep}
use Rattle.search.specs.declared.levels.End.{End}
use Rattle.search.specs.declared.levels.End.TheVariants.{Start, Step}
use Rattle.search.specs.Inner.Found.{FoundBy, FoundLeast}
use Rattle.witness.specs.Inner.Links.{LinkedNodes}
use Rattle.witness.specs.Inner.Shown.{BreaksBy, ShownPath, SearchFound, NodeIn}

-- ---- what a search found, where it is a start, and where it is a step
module _ {s plan : List ℕ} {t : Task} {back : List ℕ} {r : Option End} (F : SearchFound s plan t back r) {e : End} (p : r ≡ Some e) where
  pub end_found : FoundLeast s plan t F.bound back (Some e)
  end_found = subst (FoundLeast s plan t F.bound back) p F.found

  pub start_found : {x : ℕ} → e ≡ Start x → BadStart (model_by s plan t) (watch_by s plan t) x
  start_found q = (subst (λ (e : End). FoundLeast s plan t F.bound back (Some e)) q end_found).bad

  pub step_found : {l : LastStep} → e ≡ Step l → FoundBy (graph_of s plan t) back l
  step_found q = (subst (λ (e : End). FoundLeast s plan t F.bound back (Some e)) q end_found).0.found

-- ---- the links
pub record Last (g : Graph) (back : List ℕ) (d v : ℕ) : Type 0 where
  pub chain : Chain g back (d - 1) (get_or back v 0 - 1)
  pub marked : 0 < get_or back v 0
  pub linked : LinkedNodes g (get_or back v 0 - 1) v

-- the last link of a chain: to the node's parent
pub unlink : {g : Graph} {back : List ℕ} {d v : ℕ} → Chain g back d v → 0 < d → Last g back d v
unlink (root l s e) h = absurd (omega arith)
unlink {g} {back} (link {d} {u} {e = ev} {v} c le lv ed ne e) h =
    let up : u ≡ get_or back v 0 - 1 = omega (arith, e) in
    let down : d ≡ suc d - 1 = omega arith in
    record {
      chain = subst₂ (λ (n w : ℕ). Chain g back n w) down up c;
      marked = omega (arith, e);
      linked = record {
        from = omega (arith, e, chain_bound c);
        to = lv;
        event = record { which = ev; within = le; holds = subst (λ (w : ℕ). g.Edge w ev v) up ed };
        open_end = ne;
      };
    }

pub chain_start : {g : Graph} {back : List ℕ} {d v : ℕ} → Chain g back d v → d ≤ 0 → g.Start v
chain_start (root l s e) h = s
chain_start (link c le lv ed ne e) h = absurd (omega arith)

-- the node k steps before the end v of a path whose last step is from u
abbrev pub node_back : List ℕ → ℕ → ℕ → ℕ → ℕ
node_back back u v zero = v
node_back back u v (suc zero) = u
node_back back u v (suc (suc k)) = get_or back (node_back back u v (suc k)) 0 - 1

-- .. and the node at place j of its m steps
abbrev pub node_at : List ℕ → ℕ → ℕ → ℕ → ℕ → ℕ
node_at back u v m j = node_back back u v (m - j)

-- ---- nodes that a path goes through, and the path
module _ (M : Model) (n : Counts) (W : Watch) (K : ℕ) where
  -- x and e are a path through the nodes N 0 to N m, the last of them an end
  pub record Trail (m : ℕ) (N x e : ℕ → ℕ) : Type 0 where
    pub contexts : (j : ℕ) → j ≤ m → x j ≡ code_of n K (N j)
    pub starts : StartAt M n W K (N 0)
    pub steps : (j : ℕ) → j < m → EdgeAt M n W K (N j) (e j) (N (suc j))
    pub ends : EndAt M n W K (N m)
    pub bad : T (W.bad (state_of K (N m)))

  module _ {m : ℕ} {N x e : ℕ → ℕ} (R : Trail m N x e) where
    edge : (j : ℕ) → j < m → Edge M (x j) (e j) (x (suc j))
    edge j h = rw (R.contexts j (omega arith), R.contexts (suc j) h) (R.steps j h).edge

    context_at_lem : (j : ℕ) → j ≤ m → T (M.context (x j))
    context_at_lem zero h = rw (R.contexts 0 h) R.starts.begins.context_at_lem
    context_at_lem (suc j) h = (edge j h).into

    pub trail_path : IsPath M m x e
    trail_path =
        record {
          contexts = context_at_lem;
          flows = λ j h. (edge j h).flows;
          starts = rw (R.contexts 0 (omega arith)) R.starts.begins.starts;
          meets = rw (R.contexts 0 (omega arith)) R.starts.begins.meets;
          arrives = rw (R.contexts m (le_refl m)) R.ends.arrives;
          first = λ j h. (edge j h).first;
          free = λ j h. (edge j h).free;
          free_e = λ j h. (edge j h).free_e;
        }

    pub trail_bad : T (W.bad (run (monitor_of W) x e m))
    trail_bad =
        subst (λ (t : ℕ). T (W.bad t)) (sym (run_is (monitor_of W) x e (λ j. state_of K (N j)) m begin more)) R.bad
      where
        begin : state_of K (N 0) ≡ W.start (x 0)
        begin = R.starts.state ∙ ap W.start (sym (R.contexts 0 (omega arith)))

        more : (j : ℕ) → j < m → state_of K (N (suc j)) ≡ W.step (state_of K (N j)) (e j) (x (suc j))
        more j h = (R.steps j h).state ∙ ap (W.step (state_of K (N j)) (e j)) (sym (R.contexts (suc j) h))

-- ---- writing, from the end: the places from i on are written, of the path whose last step goes from u to v
pub record Written (s plan : List ℕ) (t : Task) (back : List ℕ) (u v m : ℕ) (before path : List ℕ) (i : ℕ) : Type 0 where
  pub whole : length path ≡ length before
  pub rest : (j : ℕ) → 2 * m + 1 ≤ j → get_or path j 0 ≡ get_or before j 0
  pub contexts : (j : ℕ) → i ≤ j → j ≤ m → contexts_in path j ≡ code_of t.counts (states_in t) (node_at back u v m j)
  pub steps : (j : ℕ) → i ≤ j → j < m → (graph_of s plan t).Edge (node_at back u v m j) (events_in path j) (node_at back u v m (suc j))

-- .. and the step before them is from w by e
pub record Writing (s plan : List ℕ) (t : Task) (back : List ℕ) (u v m : ℕ) (before path : List ℕ) (i w e : ℕ) : Type 0 where
  pub some : 0 < i
  pub high : i ≤ m
  pub written : Written s plan t back u v m before path i
  pub node : node_back back u v (suc (m - i)) ≡ w
  pub event : (graph_of s plan t).Edge w e (node_at back u v m i)
  pub chain : Chain (graph_of s plan t) back (i - 1) w

module _ {s plan : List ℕ} {t : Task} {back : List ℕ} {u v m : ℕ} (before : List ℕ) where
  -- the loop begins where the end is written
  pub write_begin : {c e d : ℕ} → m ≡ d + 1 → 2 * m + 1 ≤ length before → c ≡ code_of t.counts (states_in t) v → (graph_of s plan t).Edge u e v
      → Chain (graph_of s plan t) back d u → Writing s plan t back u v m (set before (2 * m) c) (set before (2 * m) c) m u e
  write_begin {c} {e} {d} q room p ed ch =
      record {
        some = omega arith;
        high = le_refl m;
        written = record {
          whole = refl;
          rest = λ j h. refl;
          contexts = λ j lo hi. let k : m ≡ j = omega arith in subst (λ (i : ℕ). contexts_in (set before (2 * m) c) i ≡ code_of t.counts (states_in t) (node_at back u v m i)) k at_end;
          steps = λ j lo hi. absurd (omega arith);
        };
        node = ap (λ (i : ℕ). node_back back u v (suc i)) none;
        event = subst (λ (i : ℕ). (graph_of s plan t).Edge u e (node_back back u v i)) (sym none) ed;
        chain = let k : d ≡ m - 1 = omega arith in subst (λ (i : ℕ). Chain (graph_of s plan t) back i u) k ch;
      }
    where
      none : m - m ≡ 0
      none = omega arith

      at_end : contexts_in (set before (2 * m) c) m ≡ code_of t.counts (states_in t) (node_at back u v m m)
      at_end = get_or-set_same before (2 * m) c 0 (omega arith) ∙ p ∙ ap (λ (i : ℕ). code_of t.counts (states_in t) (node_back back u v i)) (sym none)

  module _ {path : List ℕ} {i w e : ℕ} (R : Writing s plan t back u v m before path i w e) (room : 2 * m + 1 ≤ length before) where
    -- how far k, the place before i, is from the end
    far : {k : ℕ} → i ≡ suc k → m - k ≡ suc (m - i)
    far q = omega (arith, R.high)

    module _ {k c : ℕ} (q : i ≡ suc k) (p : c ≡ code_of t.counts (states_in t) w) where
      abbrev new : List ℕ
      new = set (set path (2 * k + 1) e) (2 * k) c

      size : length path ≡ length before
      size = R.written.whole

      other : (j : ℕ) → (j ≡ 2 * k + 1 → ⊥) → (j ≡ 2 * k → ⊥) → get_or new j 0 ≡ get_or path j 0
      other j a b = get_or-set_other (set path (2 * k + 1) e) (2 * k) j c 0 b ∙ get_or-set_other path (2 * k + 1) j e 0 a

      node : node_at back u v m k ≡ w
      node = ap (node_back back u v) (far q) ∙ R.node

      here : contexts_in new k ≡ code_of t.counts (states_in t) (node_at back u v m k)
      here = get_or-set_same (set path (2 * k + 1) e) (2 * k) c 0 (omega (arith, R.high, size, length-set path (2 * k + 1) e)) ∙ p ∙ ap (code_of t.counts (states_in t)) (sym node)

      event : events_in new k ≡ e
      event = get_or-set_other (set path (2 * k + 1) e) (2 * k) (2 * k + 1) c 0 (λ a. omega arith) ∙ get_or-set_same path (2 * k + 1) e 0 (omega (arith, R.high, size))

      step : (graph_of s plan t).Edge (node_at back u v m k) (events_in new k) (node_at back u v m (suc k))
      step = rw (node, event, ← q) R.event

      pub write_step : Written s plan t back u v m before new k
      write_step =
          record {
            whole = length-set (set path (2 * k + 1) e) (2 * k) c ∙ length-set path (2 * k + 1) e ∙ R.written.whole;
            rest = λ j h. other j (λ z. omega (arith, R.high)) (λ z. omega (arith, R.high)) ∙ R.written.rest j h;
            contexts = λ j lo hi. ⊎_elim (λ (z : k ≡ j). subst (λ (a : ℕ). contexts_in new a ≡ code_of t.counts (states_in t) (node_at back u v m a)) z here)
                (λ (z : k < j). other (2 * j) (λ a. omega arith) (λ a. omega arith) ∙ R.written.contexts j (omega arith) hi) (eq-or-lt_of_le lo);
            steps = λ j lo hi. ⊎_elim (λ (z : k ≡ j). subst (λ (a : ℕ). (graph_of s plan t).Edge (node_at back u v m a) (events_in new a) (node_at back u v m (suc a))) z step)
                (λ (z : k < j). subst (λ (a : ℕ). (graph_of s plan t).Edge (node_at back u v m j) a (node_at back u v m (suc j))) (sym (other (2 * j + 1) (λ a. omega arith) (λ a. omega arith)))
                (R.written.steps j (omega arith) hi)) (eq-or-lt_of_le lo);
          }

      -- the links lead on from w, which is no start
      pub write_next : {w' e' : ℕ} → 0 < k → w' ≡ get_or back w 0 - 1 → (graph_of s plan t).Edge w' e' w → Writing s plan t back u v m before new k w' e'
      write_next {w'} {e'} h z ed =
          record {
            some = h;
            high = omega (arith, R.high);
            written = write_step;
            node = ap (λ (a : ℕ). node_back back u v (suc a)) (far q) ∙ ap (λ (a : ℕ). get_or back a 0 - 1) R.node ∙ sym z;
            event = subst ((graph_of s plan t).Edge w' e') (sym node) ed;
            chain = let d : i - 1 ≡ k = omega arith in
                let L = unlink R.chain (omega arith) in
                subst₂ (λ (a b : ℕ). Chain (graph_of s plan t) back a b) (ap (λ (a : ℕ). a - 1) d) (sym z) L.chain;
          }

      -- all is written
      pub write_end : k ≡ 0 → EndAt (model_by s plan t) t.counts (watch_by s plan t) (states_in t) v → T ((watch_by s plan t).bad (state_of (states_in t) v))
          → Trail (model_by s plan t) t.counts (watch_by s plan t) (states_in t) m (node_at back u v m) (contexts_in new) (events_in new)
      write_end z en b =
          record {
            contexts = λ j hi. write_step.contexts j (omega arith) hi;
            starts = subst (StartAt (model_by s plan t) t.counts (watch_by s plan t) (states_in t)) (sym node ∙ ap (node_at back u v m) z) (chain_start R.chain (omega arith));
            steps = λ j hi. write_step.steps j (omega arith) hi;
            ends = subst (λ (a : ℕ). EndAt (model_by s plan t) t.counts (watch_by s plan t) (states_in t) (node_back back u v a)) (sym none) en;
            bad = subst (λ (a : ℕ). T ((watch_by s plan t).bad (state_of (states_in t) (node_back back u v a)))) (sym none) b;
          }
        where
          none : m - m ≡ 0
          none = omega arith

-- the end of the path was written before the rest of it
pub rest_of : {s plan : List ℕ} {t : Task} {back : List ℕ} {u v m : ℕ} {path : List ℕ} {i : ℕ} (before : List ℕ) (c : ℕ)
    → Written s plan t back u v m (set before (2 * m) c) path i → (j : ℕ) → 2 * m + 1 ≤ j → get_or path j 0 ≡ get_or before j 0
rest_of {m = m} before c W j h = W.rest j h ∙ get_or-set_other before (2 * m) j c 0 (λ z. omega arith)

-- ---- what a trail shows
module _ {M : Model} {n : Counts} {K m : ℕ} {nodes : ℕ → ℕ} (after : List ℕ) where
  pub breaks_by : (mode : Mode) → 0 < M.legs → Trail M n (watch_of mode M) K m nodes (contexts_in after) (events_in after) → BreaksBy mode M m (contexts_in after) (events_in after)
  breaks_by Order some R = (order_verdict M some (contexts_in after) (events_in after) m).0 (trail_bad M n (watch_of Order M) K R)
  breaks_by Events some R = (events_verdict M (contexts_in after) (events_in after) m (trail_path M n (watch_of Events M) K R).starts).0 (trail_bad M n (watch_of Events M) K R)
  breaks_by Any some R = tt

  pub shown_by : {before : List ℕ} (mode : Mode) → 0 < M.legs → 2 * m + 1 ≤ length before → length after ≡ length before
      → ((j : ℕ) → 2 * m + 1 ≤ j → get_or after j 0 ≡ get_or before j 0) → Trail M n (watch_of mode M) K m nodes (contexts_in after) (events_in after) → ShownPath M mode m before after
  shown_by mode some room whole rest R =
      record { shows = record { room = room; whole = whole; rest = rest; path = trail_path M n (watch_of mode M) K R }; breaks = breaks_by mode some R }

-- a start that is a bad end is a path of no steps
pub shown_start : (M : Model) {x : ℕ} (mode : Mode) (before : List ℕ) → 0 < M.legs → 0 < length before → BadStart M (watch_of mode M) x → ShownPath M mode 0 before (set before 0 x)
shown_start M {x} mode before some room B =
    record {
      shows = record {
        room = omega arith;
        whole = length-set before 0 x;
        rest = λ j h. get_or-set_other before 0 j x 0 (λ z. omega arith);
        path = path;
      };
      breaks = breaks mode B;
    }
  where
    here : contexts_in (set before 0 x) 0 ≡ x
    here = get_or-set_same before 0 x 0 room

    path : IsPath M 0 (contexts_in (set before 0 x)) (events_in (set before 0 x))
    path =
        record {
          contexts = λ j h. let z : 0 ≡ j = omega arith in subst (λ (i : ℕ). T (M.context (contexts_in (set before 0 x) i))) z (rw here B.begins.context_at_lem);
          flows = λ j h. absurd (omega arith);
          starts = rw here B.begins.starts;
          meets = rw here B.begins.meets;
          arrives = rw here B.ends.arrives;
          first = λ j h. absurd (omega arith);
          free = λ j h. absurd (omega arith);
          free_e = λ j h. absurd (omega arith);
        }

    breaks : (mode : Mode) → BadStart M (watch_of mode M) x → BreaksBy mode M 0 (contexts_in (set before 0 x)) (events_in (set before 0 x))
    breaks Order B =
        (order_verdict M some (contexts_in (set before 0 x)) (events_in (set before 0 x)) 0).0 (subst (λ (a : ℕ). T ((watch_of Order M).bad ((watch_of Order M).start a))) (sym here) B.ends.verdict)
    breaks Events B =
        (events_verdict M (contexts_in (set before 0 x)) (events_in (set before 0 x)) 0 path.starts).0
        (subst (λ (a : ℕ). T ((watch_of Events M).bad ((watch_of Events M).start a))) (sym here) B.ends.verdict)
    breaks Any B = tt

-- a node of the graph has a context with a code
module _ {s plan : List ℕ} {t : Task} {k : ℕ} (A : Given s plan t) (S : States (bits_in t) k) where
  pub node_in : {v : ℕ} → v < context_count t.counts * states_in t → NodeIn t.counts k v
  node_in {v} h =
      let N = A.readable.sets.counts in
      record {
        countable = N.countable;
        types = omega (arith, N.types);
        roles = omega (arith, N.roles);
        users = omega (arith, N.users);
        some = S.some;
        below = at_place v (record { readable = A.readable; states_are = S }) h;
      }

  pub code_at : {c : ℕ} (v : ℕ) → c ≡ code_of t.counts k v → c ≡ code_of t.counts (states_in t) v
  code_at v q = q ∙ ap (λ (i : ℕ). code_of t.counts i v) S.same

  pub node_small : {v : ℕ} → v < context_count t.counts * states_in t → v < 2 ^ 26
  node_small h = omega (arith, A.readable.nodes)
