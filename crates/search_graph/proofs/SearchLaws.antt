-- The laws of the search's invariant, over plain lists.
use mathlib.Core.Path.{◌≡◌, refl, sym, ◌∙◌, ap, subst}
use mathlib.Core.Logic.{◌⊎◌, ⊎_elim}
use mathlib.Core.List.{List}
use Prim.Native.Nat.{ℕ, zero, suc, ◌+◌, ◌≤◌, ◌<◌}
use native.Mathlib.Nat.{eq-or-lt_of_le, le_of_suc-le-suc, le_refl}
use native.Mathlib.Numerals.{add-one}
use native.Mathlib.Decide.{ℕ_discrete, dec_le}
use native.Mathlib.Omega.{arith}
use lib.ListN.{length, get_or, set, length-set}
use lib.Seq.{get_or-set_same, get_or-set_other}
use Rattle.base.proofs.Numbers.{below_or}
use Rattle.search_graph.specs.Inner.Graph.{Graph, GraphReach, GraphReach.begin, GraphReach.step, Chain, Chain.root, Chain.link, Breaks, FoundAt, NoneFound}
use Rattle.search_graph.specs.Inner.State.{mark, marks, InQueue, Clear, Through, Inv, Turn, Root, Seeding}
use Rattle.search_graph.specs.Inner.Visits.{Cleared, Visited}

below_suc : {i n : ℕ} → i < suc n → (i ≡ n) ⊎ (i < n)
below_suc l = eq-or-lt_of_le (le_of_suc-le-suc l)

-- marks

mark_le : (x : ℕ) → mark x ≤ 1
unfolding mark
mark_le zero = omega arith
mark_le (suc x) = omega arith

mark_zero : (x : ℕ) → x ≡ 0 → mark x ≡ 0
unfolding mark
mark_zero zero e = refl
mark_zero (suc x) e = absurd (omega arith)

mark_one : (x : ℕ) → (x ≡ 0 → ⊥) → mark x ≡ 1
unfolding mark
mark_one zero e = absurd (e refl)
mark_one (suc x) e = refl

pub marks_le : (back : List ℕ) (n : ℕ) → marks back n ≤ n
unfolding marks
marks_le back zero = omega arith
marks_le back (suc n) = omega (arith, marks_le back n, mark_le (get_or back n 0))

pub marks_room : (back : List ℕ) (n v : ℕ) → v < n → get_or back v 0 ≡ 0 → marks back n < n
unfolding marks
marks_room back zero v l e = omega arith
marks_room back (suc n) v l e =
    ⊎_elim
    (λ (q : v ≡ n). omega (arith, marks_le back n, mark_zero (get_or back n 0) (ap (λ (j : ℕ). get_or back j 0) (sym q) ∙ e)))
    (λ (lt : v < n). omega (arith, marks_room back n v lt e, mark_le (get_or back n 0)))
    (below_suc l)

pub marks_out : (back : List ℕ) (n v x : ℕ) → n ≤ v → marks (set back v x) n ≡ marks back n
unfolding marks
marks_out back zero v x l = refl
marks_out back (suc n) v x l =
    let ih : marks (set back v x) n ≡ marks back n = marks_out back n v x (omega arith) in
    let here : get_or (set back v x) n 0 ≡ get_or back n 0 = get_or-set_other back v n x 0 (λ q. omega arith) in
    omega (arith, ih, ap mark here)

pub marks_set : (back : List ℕ) (n v x : ℕ) → v < n → v < length back → get_or back v 0 ≡ 0 → (x ≡ 0 → ⊥) → marks (set back v x) n ≡ marks back n + 1
unfolding marks
marks_set back zero v x l r e nz = omega arith
marks_set back (suc n) v x l r e nz =
    ⊎_elim
    (λ (q : v ≡ n).
    let old : mark (get_or back n 0) ≡ 0 = mark_zero _ (ap (λ (j : ℕ). get_or back j 0) (sym q) ∙ e) in
    let new : mark (get_or (set back v x) n 0) ≡ 1 = ap (λ (j : ℕ). mark (get_or (set back v x) j 0)) (sym q) ∙ (ap mark (get_or-set_same back v x 0 r) ∙ mark_one x nz) in
    omega (arith, marks_out back n v x (omega arith)))
    (λ (lt : v < n).
    let ih : marks (set back v x) n ≡ marks back n + 1 = marks_set back n v x lt r e nz in
    let here : get_or (set back v x) n 0 ≡ get_or back n 0 = get_or-set_other back v n x 0 (λ q. omega arith) in
    omega (arith, ap mark here))
    (below_suc l)

-- a store to a node that is not visited changes no node that is

pub kept : (back : List ℕ) (w x v : ℕ) → get_or back w 0 ≡ 0 → (get_or back v 0 ≡ 0 → ⊥) → get_or (set back w x) v 0 ≡ get_or back v 0
kept back w x v z nz = get_or-set_other back w v x 0 (λ q. nz (ap (λ (j : ℕ). get_or back j 0) q ∙ z))

pub chain_keep : {g : Graph} {back : List ℕ} {d v : ℕ} (w x : ℕ) → get_or back w 0 ≡ 0 → Chain g back d v → Chain g (set back w x) d v
chain_keep {back} w x z (root {v} l s e) = root l s (kept back w x v z (λ q. omega arith) ∙ e)
chain_keep {back} w x z (link {v} c le lv ed ne e) =
    link (chain_keep w x z c) le lv ed ne (kept back w x v z (λ q. omega arith) ∙ e)

pub chain_bound : {g : Graph} {back : List ℕ} {d v : ℕ} → Chain g back d v → v < g.k
chain_bound (root l s e) = l
chain_bound (link c le lv ed ne e) = lv

pub chain_reach : {g : Graph} {back : List ℕ} {d v : ℕ} → Chain g back d v → GraphReach g d v
chain_reach (root l s e) = begin l s
chain_reach (link c le lv ed ne e) = step (chain_reach c) le lv ed ne

pub in_more : {queue : List ℕ} {n m v : ℕ} → n ≤ m → InQueue queue n v → InQueue queue m v
in_more le q = record { place = q.place; below = omega (arith, q.below); holds = q.holds }

pub in_push : {queue : List ℕ} {n v : ℕ} (t x : ℕ) → n ≤ t → InQueue queue n v → InQueue (set queue t x) n v
in_push {queue} t x le q =
    record {
      place = q.place;
      below = q.below;
      holds = get_or-set_other queue t q.place x 0 (λ e. omega (arith, q.below)) ∙ q.holds;
    }

pub clear_keep : {g : Graph} {back : List ℕ} {v : ℕ} (w x : ℕ) → get_or back w 0 ≡ 0 → Clear g back v → Clear g (set back w x) v
clear_keep {back} {v} w x z c =
    record {
      open_end = c.open_end;
      seen = λ q. c.seen (sym (kept back w x v z c.seen) ∙ q);
    }

-- what is known of an edge from a node whose turn is over
pub onward : {g : Graph} {back queue : List ℕ} {head tail stop depth u e v : ℕ} → Inv g back queue head tail stop depth → InQueue queue head u → e < g.e → v < g.k → g.Edge u e v → Clear g back v
onward {g} {e} {v} i q le lv ed =
    i.done q.place q.below e v le lv (subst (λ (w : ℕ). g.Edge w e v) (sym q.holds) ed)

-- where a node is not visited, the queue has a place left
pub room : {g : Graph} {back queue : List ℕ} {head tail stop depth v : ℕ} → Inv g back queue head tail stop depth → v < g.k → get_or back v 0 ≡ 0 → tail < g.k
room {g} {back} {v} i lv z = omega (arith, marks_room back g.k v lv z, i.count)

-- the node v is visited, at one step more than the level's
pub push : {g : Graph} {back queue : List ℕ} {head tail stop depth : ℕ} (v x : ℕ) → Inv g back queue head tail stop depth → head < stop → v < g.k → get_or back v 0 ≡ 0 → (x ≡ 0 → ⊥) → Chain g (set back v x) (suc depth) v → Inv g (set back v x) (set queue tail v) head (tail + 1) stop depth
push {g} {back} {queue} {head} {tail} {stop} {depth} v x i here lv z nz ch =
    record {
      back_room = simp length-set i.back_room;
      queue_room = simp length-set i.queue_room;
      head_stop = i.head_stop;
      stop_tail = omega (arith, i.stop_tail);
      count = omega (arith, marks_set back g.k v x lv v_in z nz, i.count);
      full = omega (arith, left);
      deep = λ h. i.deep (omega (arith, i.stop_tail));
      inside = λ j l. ⊎_elim (λ (q : j ≡ tail). rw (q, top) lv) (λ (lt : j < tail). rw (same j lt) (i.inside j lt)) (below_or l);
      listed = λ w nw. listed' w nw (ℕ_discrete w v);
      chains = λ j lo hi. rw (same j (omega (arith, i.stop_tail))) (chain_keep v x z (i.chains j lo hi));
      chains_next = λ j lo hi. ⊎_elim (λ (q : j ≡ tail). rw (q, top) ch) (λ (lt : j < tail). rw (same j lt) (chain_keep v x z (i.chains_next j lo lt))) (below_or hi);
      past = λ d u l r. in_push tail v (omega (arith, i.stop_tail, i.head_stop)) (i.past d u l r);
      level = λ d u l r. in_push tail v i.stop_tail (i.level d u l r);
      done = λ j l e w le lw. rw (same j (omega (arith, i.stop_tail))) (λ ed. clear_keep v x z (i.done j l e w le lw ed));
    }
  where
    v_in : v < length back
    v_in = omega (arith, i.back_room)

    left : tail < g.k
    left = room i lv z

    top : get_or (set queue tail v) tail 0 ≡ v
    top = get_or-set_same queue tail v 0 (omega (arith, left, i.queue_room))

    same : (j : ℕ) → j < tail → get_or (set queue tail v) j 0 ≡ get_or queue j 0
    same j l = get_or-set_other queue tail j v 0 (λ q. omega arith)

    listed' : (w : ℕ) → (get_or (set back v x) w 0 ≡ 0 → ⊥) → Dec (w ≡ v) → InQueue (set queue tail v) (tail + 1) w
    listed' w nw (yes q) = record { place = tail; below = omega arith; holds = top ∙ sym q }
    listed' w nw (no ne) =
        in_more (omega arith) (in_push tail v (le_refl tail) (i.listed w (λ e. nw (get_or-set_other back v w x 0 ne ∙ e))))

-- the level is done, and the next one is not empty
pub enter : {g : Graph} {back queue : List ℕ} {head tail stop depth : ℕ} → Inv g back queue head tail stop depth → head ≡ stop → head < tail → Inv g back queue head tail tail (depth + 1)
enter {g} {back} {queue} {head} {tail} {stop} {depth} i at more =
    record {
      back_room = i.back_room;
      queue_room = i.queue_room;
      head_stop = omega arith;
      stop_tail = le_refl tail;
      count = i.count;
      full = i.full;
      deep = λ h. omega (arith, i.deep more);
      inside = i.inside;
      listed = i.listed;
      chains = λ j lo hi. rw add-one (i.chains_next j (omega arith) hi);
      chains_next = λ j lo hi. absurd (omega arith);
      past = λ d u l r. in_more (omega arith) (i.level d u (omega arith) r);
      level = λ d u l r. next l r;
      done = i.done;
    }
  where
    next : {d u : ℕ} → d ≤ depth + 1 → GraphReach g d u → InQueue queue tail u
    next l (begin {v} lv s) = in_more i.stop_tail (i.level zero v (omega arith) (begin lv s))
    next l (step {d} {u} {e} {v} r le lv ed ne) =
        i.listed v (onward i (in_more (omega arith) (i.level d u (omega arith) r)) le lv ed).seen

-- the turn of the node at `head` begins
pub take_up : {g : Graph} {back queue : List ℕ} {head tail stop depth : ℕ} → Inv g back queue head tail stop depth → head < stop → Turn g back queue head tail stop depth (get_or queue head 0) 0 0
take_up i here =
    record {
      inv = i;
      here = here;
      node = refl;
      events = λ e w l. absurd (omega arith);
      targets = λ w l. absurd (omega arith);
    }

pub turn_chain : {g : Graph} {back queue : List ℕ} {head tail stop depth u ev v : ℕ} → Turn g back queue head tail stop depth u ev v → Chain g back depth u
turn_chain {g} {back} {head} {depth} t = subst (λ (w : ℕ). Chain g back depth w) t.node (t.inv.chains head (le_refl head) t.here)

-- the target v is passed: there is no edge to it, or it is visited already
pub pass : {g : Graph} {back queue : List ℕ} {head tail stop depth u ev v : ℕ} → Turn g back queue head tail stop depth u ev v → Through g back u ev v → Turn g back queue head tail stop depth u ev (v + 1)
pass {g} {back} {u} {ev} {v} t th =
    record {
      inv = t.inv;
      here = t.here;
      node = t.node;
      events = t.events;
      targets = λ w l. ⊎_elim (λ (q : w ≡ v). subst (λ (n : ℕ). Through g back u ev n) (sym q) th) (λ (lt : w < v). t.targets w lt) (below_or l);
    }

-- the targets from v to below w are passed
pub pass_to : {g : Graph} {back queue : List ℕ} {head tail stop depth u ev v : ℕ} (w : ℕ) → Turn g back queue head tail stop depth u ev v
    → ((t : ℕ) → v ≤ t → t < w → Through g back u ev t) → Turn g back queue head tail stop depth u ev w
pass_to {g} {back} {u} {ev} {v} w t th =
    record {
      inv = t.inv;
      here = t.here;
      node = t.node;
      events = t.events;
      targets = λ i l. among i l (dec_le v i);
    }
  where
    among : (i : ℕ) → i < w → Dec (v ≤ i) → Through g back u ev i
    among i l (yes h) = th i h l
    among i l (no h) = t.targets i (omega arith)

-- the target v is visited
pub visited : {g : Graph} {back queue : List ℕ} {head tail stop depth u ev v : ℕ} → Turn g back queue head tail stop depth u ev v → ev < g.e → v < g.k → get_or back v 0 ≡ 0 → g.Edge u ev v → (g.End v → ⊥) → Turn g (set back v (u + 1)) (set queue tail v) head (tail + 1) stop depth u ev (v + 1)
visited {g} {back} {queue} {head} {tail} {stop} {depth} {u} {ev} {v} t le lv z ed ne =
    pass
    (record {
      inv = push v (u + 1) i t.here lv z (λ q. omega arith) (link (chain_keep v (u + 1) z (turn_chain t)) le lv ed ne here);
      here = t.here;
      node = get_or-set_other queue tail head v 0 (λ q. omega (arith, t.here, i.stop_tail)) ∙ t.node;
      events = λ e w l lw a. clear_keep v (u + 1) z (t.events e w l lw a);
      targets = λ w l a. clear_keep v (u + 1) z (t.targets w l a);
    })
    (λ _. record { open_end = ne; seen = λ q. omega (arith, here) })
  where
    i : Inv g back queue head tail stop depth
    i = t.inv

    here : get_or (set back v (u + 1)) v 0 ≡ u + 1
    here = get_or-set_same back v (u + 1) 0 (omega (arith, i.back_room))

-- the node's events are done
pub end_turn : {g : Graph} {back queue : List ℕ} {head tail stop depth u ev v : ℕ} → Turn g back queue head tail stop depth u ev v → g.e ≤ ev → Inv g back queue (head + 1) tail stop depth
end_turn {g} {back} {queue} {head} {tail} {stop} {depth} {u} t l =
    record {
      back_room = i.back_room;
      queue_room = i.queue_room;
      head_stop = omega (arith, t.here);
      stop_tail = i.stop_tail;
      count = i.count;
      full = i.full;
      deep = λ h. i.deep (omega arith);
      inside = i.inside;
      listed = i.listed;
      chains = λ j lo hi. i.chains j (omega arith) hi;
      chains_next = i.chains_next;
      past = λ d u l r. in_more (omega arith) (i.past d u l r);
      level = i.level;
      done = λ j lj e w le lw. ⊎_elim (λ (q : j ≡ head). rw (q, t.node) (t.events e w (omega arith) lw)) (λ (lt : j < head). i.done j lt e w le lw) (below_or lj);
    }
  where
    i : Inv g back queue head tail stop depth
    i = t.inv

-- the queue is empty
pub nothing : {g : Graph} {back queue : List ℕ} {head tail stop depth b : ℕ} → Inv g back queue head tail stop depth → tail ≤ head → NoneFound g b
nothing {g} {back} {queue} {head} {tail} i h =
    record { never = λ d u e v w r a. (onward i (all r) a.event a.target a.edge).open_end a.ends }
  where
    all : {d u : ℕ} → GraphReach g d u → InQueue queue head u
    all (begin {v} lv s) = in_more (omega (arith, i.stop_tail)) (i.level zero v (omega arith) (begin lv s))
    all (step {v} r le lv ed ne) = in_more h (i.listed v (onward i (all r) le lv ed).seen)

-- the level's steps would arrive beyond the bound. All levels before it are done, and there are more nodes than levels
pub stopped : {g : Graph} {back queue : List ℕ} {head tail stop depth b : ℕ} → Inv g back queue head tail stop depth → head < tail → b ≤ depth → NoneFound g b
stopped {g} {b = b} i more h = record { never = λ d u e v w r a. ⊎_elim (λ (l : suc d ≤ b). (onward i (i.past d u (omega arith) r) a.event a.target a.edge).open_end a.ends) (λ (l : g.k ≤ b). omega (arith, i.deep more, i.stop_tail, i.full)) w }

-- an edge to an end
pub found : {g : Graph} {back queue : List ℕ} {head tail stop depth u ev w v : ℕ} → Turn g back queue head tail stop depth u ev w → Breaks g u ev v → FoundAt g back u ev v depth
found {g} {back} {queue} {head} {tail} {stop} {depth} t b =
    record {
      short = omega (arith, t.inv.deep (omega (arith, t.here, t.inv.stop_tail)), t.inv.stop_tail, t.inv.full);
      reach = chain_reach (turn_chain t);
      chain = turn_chain t;
      breaks = b;
      least = λ d u e v r a. least' d u e v r a (dec_le depth d);
    }
  where
    least' : (d u e v : ℕ) → GraphReach g d u → Breaks g u e v → Dec (depth ≤ d) → depth ≤ d
    least' d u e v r a (yes l) = l
    least' d u e v r a (no n) = absurd ((onward t.inv (t.inv.past d u (omega (arith, n)) r) a.event a.target a.edge).open_end a.ends)

-- the start nodes

root_keep : {g : Graph} {back : List ℕ} {w : ℕ} (v x : ℕ) → w < v → Root g back w → Root g (set back v x) w
root_keep {back} {w} v x l r = record { bound = r.bound; starts = r.starts; parent = get_or-set_other back v w x 0 (λ q. omega arith) ∙ r.parent }

pub seed_begin : {g : Graph} (back queue : List ℕ) → g.k ≤ length back → g.k ≤ length queue → Seeding g back queue 0 0
unfolding marks
seed_begin back queue rb rq =
    record {
      back_room = rb;
      queue_room = rq;
      within = omega arith;
      count = refl;
      full = omega arith;
      listed = λ w l. absurd (omega arith);
      roots = λ i l. absurd (omega arith);
      old = λ i l. absurd (omega arith);
      rising = λ i j l h. absurd (omega arith);
      starts = λ w l. absurd (omega arith);
    }

marks_next : (back : List ℕ) (v x n : ℕ) → v < length back → mark x ≡ n → marks (set back v x) (v + 1) ≡ marks back v + n
unfolding marks
marks_next back v x n l m =
    rw add-one
    (let here : mark (get_or (set back v x) v 0) ≡ n = ap mark (get_or-set_same back v x 0 l) ∙ m in
    omega (arith, marks_out back v v x (le_refl v)))

pub seed_visit : {g : Graph} {back queue : List ℕ} {tail v : ℕ} → Seeding g back queue tail v → v < g.k → g.Start v → Seeding g (set back v (g.k + 1)) (set queue tail v) (tail + 1) (v + 1)
seed_visit {g} {back} {queue} {tail} {v} s lv st =
    record {
      back_room = simp length-set s.back_room;
      queue_room = simp length-set s.queue_room;
      within = omega arith;
      count = omega (arith, marks_next back v (g.k + 1) 1 v_in (mark_one (g.k + 1) (λ q. omega arith)), s.count);
      full = omega (arith, s.full);
      listed = λ w l nz. ⊎_elim (λ (q : w ≡ v). record { place = tail; below = omega arith; holds = top ∙ sym q }) (λ (lt : w < v). in_more (omega arith) (in_push tail v (le_refl tail) (s.listed w lt (λ e. nz (other w lt ∙ e))))) (below_or l);
      roots = λ i l. ⊎_elim (λ (q : i ≡ tail). rw (q, top) (record { bound = lv; starts = st; parent = here })) (λ (lt : i < tail). rw (same i lt) (root_keep v (g.k + 1) (s.old i lt) (s.roots i lt))) (below_or l);
      rising = λ i j l h. ⊎_elim (λ (q : j ≡ tail). rw (q, top, same i (omega arith)) (s.old i (omega arith))) (λ (lt : j < tail). rw (same j lt, same i (omega arith)) (s.rising i j l lt)) (below_or h);
      old = λ i l. ⊎_elim (λ (q : i ≡ tail). rw (q, top) (omega arith)) (λ (lt : i < tail). rw (same i lt) (omega (arith, s.old i lt))) (below_or l);
      starts = λ w l sw. ⊎_elim (λ (q : w ≡ v). rw q (λ e. omega (arith, here))) (λ (lt : w < v). λ e. s.starts w lt sw (sym (other w lt) ∙ e)) (below_or l);
    }
  where
    v_in : v < length back
    v_in = omega (arith, s.back_room)

    here : get_or (set back v (g.k + 1)) v 0 ≡ g.k + 1
    here = get_or-set_same back v (g.k + 1) 0 v_in

    top : get_or (set queue tail v) tail 0 ≡ v
    top = get_or-set_same queue tail v 0 (omega (arith, s.queue_room, s.full))

    same : (j : ℕ) → j < tail → get_or (set queue tail v) j 0 ≡ get_or queue j 0
    same j l = get_or-set_other queue tail j v 0 (λ q. omega arith)

    other : (w : ℕ) → w < v → get_or (set back v (g.k + 1)) w 0 ≡ get_or back w 0
    other w l = get_or-set_other back v w (g.k + 1) 0 (λ q. omega arith)

-- the queue lists what is visited
pub seed_visited : {g : Graph} {back queue : List ℕ} {tail v : ℕ} → Seeding g back queue tail v → Cleared back v → Visited queue back tail
seed_visited {back = back} {queue} {tail} {v} s C =
    record {
      room = omega (arith, s.full, s.within, s.queue_room);
      inside = λ i h. omega (arith, s.old i h, s.within, s.back_room);
      listed = λ w nz. listed' w nz (dec_le v w);
    }
  where
    listed' : (w : ℕ) → (get_or back w 0 ≡ 0 → ⊥) → Dec (v ≤ w) → InQueue queue tail w
    listed' w nz (yes h) = absurd (nz (C.at w h))
    listed' w nz (no h) = s.listed w (omega arith) nz

pub inv_visited : {g : Graph} {back queue : List ℕ} {head tail stop depth : ℕ} → Inv g back queue head tail stop depth → Visited queue back tail
inv_visited i =
    record { room = omega (arith, i.full, i.queue_room); inside = λ j l. omega (arith, i.inside j l, i.back_room); listed = i.listed }

pub seed_end : {g : Graph} {back queue : List ℕ} {tail v : ℕ} → Seeding g back queue tail v → g.k ≤ v → Cleared back v → Inv g back queue 0 tail tail 0
seed_end {g} {back} {queue} {tail} {v} s l C =
    record {
      back_room = s.back_room;
      queue_room = s.queue_room;
      head_stop = omega arith;
      stop_tail = le_refl tail;
      count = subst (λ (n : ℕ). marks back n ≡ tail) all s.count;
      full = omega (arith, s.full);
      deep = λ h. h;
      inside = λ i h. omega (arith, s.old i h);
      listed = (seed_visited s C).listed;
      chains = λ i lo hi. let r : Root g back (get_or queue i 0) = s.roots i hi in root r.bound r.starts r.parent;
      chains_next = λ i lo hi. absurd (omega arith);
      past = λ d u l. absurd (omega arith);
      level = λ d u l₀ r. first l₀ r;
      done = λ i l. absurd (omega arith);
    }
  where
    all : v ≡ g.k
    all = omega (arith, s.within)

    first : {d u : ℕ} → d ≤ 0 → GraphReach g d u → InQueue queue tail u
    first l₀ (begin {v = w} lw st) = s.listed w (omega arith) (s.starts w (omega arith) st)
    first l₀ (step r le lw ed ne) = absurd (omega arith)

-- nodes that are not visited and no start are passed
marks_same : (back : List ℕ) (a b : ℕ) → a ≤ b → ((w : ℕ) → a ≤ w → w < b → get_or back w 0 ≡ 0) → marks back b ≡ marks back a
unfolding marks
marks_same back a zero h z = ap (marks back) (let q : 0 ≡ a = omega arith in q)
marks_same back a (suc b) h z = go (dec_le a b) (λ k. marks_same back a b k (λ w lo hi. z w lo (omega arith)))
  where
    go : Dec (a ≤ b) → (a ≤ b → marks back b ≡ marks back a) → marks back (suc b) ≡ marks back a
    go (yes k) ih = omega (arith, ih k, mark_zero (get_or back b 0) (z b k (omega arith)))
    go (no k) ih = ap (marks back) (let q : suc b ≡ a = omega arith in q)

pub seed_pass : {g : Graph} {back queue : List ℕ} {tail v : ℕ} (b : ℕ) → Seeding g back queue tail v → v ≤ b → b ≤ g.k
    → ((w : ℕ) → v ≤ w → w < b → get_or back w 0 ≡ 0) → ((w : ℕ) → v ≤ w → w < b → g.Start w → ⊥) → Seeding g back queue tail b
seed_pass {g} {back} {queue} {tail} {v} b s lo hi z ns =
    record {
      back_room = s.back_room;
      queue_room = s.queue_room;
      within = hi;
      count = marks_same back v b lo z ∙ s.count;
      full = omega (arith, s.full);
      listed = λ w l nz. listed' w l nz (dec_le v w);
      roots = s.roots;
      old = λ i l. omega (arith, s.old i l);
      rising = s.rising;
      starts = λ w l st e. starts' w l st e (dec_le v w);
    }
  where
    listed' : (w : ℕ) → w < b → (get_or back w 0 ≡ 0 → ⊥) → Dec (v ≤ w) → InQueue queue tail w
    listed' w l nz (yes h) = absurd (nz (z w h l))
    listed' w l nz (no h) = s.listed w (omega arith) nz

    starts' : (w : ℕ) → w < b → g.Start w → get_or back w 0 ≡ 0 → Dec (v ≤ w) → ⊥
    starts' w l st e (yes h) = ns w h l st
    starts' w l st e (no h) = s.starts w (omega arith) st e
