use Prim.Native.Nat.{suc, ◌+◌, ◌*◌, ◌-◌, ◌^◌, ◌≤◌, ◌<◌}
use mathlib.Core.Path.{◌≡◌, refl, ◌∙◌}
use native.Mathlib.Omega.{arith}
use lib.ListN.{length, length-set, set}
use Rattle.search_graph.proofs.SearchLaws.{chain_bound}
use Rattle.witness.proofs.PathLaws.{unlink, write_begin, write_step, write_next, write_end, shown_by, node_in, node_small, code_at, rest_of}
use Rattle.witness.proofs.path.write_path.Goals.{At-loop-i}
use Rattle.witness.proofs.path.write_path.Goals as goal

-- where the loop stands, the start, and that i is one more than the place that is written next
module _ (c : At-loop-i) where
  room : 2 * (c.args.last.depth + 1) + 1 ≤ length (set c.args.path.now (2 * (c.args.last.depth + 1)) c.code_of.result)
  room = rw (length-set c.args.path.now (2 * (c.args.last.depth + 1)) c.code_of.result) c.requires.3

  next : c.loop-i.i ≡ suc (c.loop-i.i - 1)
  next = omega (arith, c.loop-i.invariant.0.some)

  small : c.loop-i.w < 2 ^ 26
  small = node_small c.requires.0 c.states_in-states.ensures (chain_bound c.loop-i.invariant.0.chain)

pub code_of-requires : goal.code_of-requires
code_of-requires c =
    node_in c.requires.0 c.states_in-states.ensures c.requires.1.breaks.target

pub loop-i-init : goal.loop-i-init
loop-i-init c =
    (write_begin c.args.path.now refl c.requires.3 (code_at c.requires.0 c.states_in-states.ensures _ c.code_of.ensures) c.requires.1.breaks.edge c.requires.1.chain, refl)

pub code_of-requires-in-loop-i : goal.code_of-requires-in-loop-i
code_of-requires-in-loop-i c = node_in c.requires.0 c.states_in-states.ensures (chain_bound c.loop-i.invariant.0.chain)

pub bounds-path-i-in-loop-i-2 : goal.bounds-path-i-in-loop-i-2
bounds-path-i-in-loop-i-2 c =
    simp length-set (omega (arith, c.loop-i.invariant.0.some, c.loop-i.invariant.0.high, c.loop-i.invariant.0.written.whole, room (goal.at.bounds-path-i-in-loop-i-2 c).At-loop-i))

pub shape_of-path-then-i-eq0 : goal.shape_of-path-then-i-eq0
shape_of-path-then-i-eq0 c =
    simp length-set (omega (arith, c.loop-i.invariant.0.written.whole, length-set c.args.path.now (2 * (c.args.last.depth + 1)) c.code_of.result))

pub returns-then-i-eq0 : goal.returns-then-i-eq0
returns-then-i-eq0 c =
    let K = (goal.at.returns-then-i-eq0 c).At-loop-i in
    let R = c.loop-i.invariant.0 in
    let p = code_at c.requires.0 c.states_in-states.ensures _ c.code_of-in-loop-i.ensures in
    let W = write_step _ R (room K) (next K) p in
    let b = c.requires.1.breaks in
    let o = c.args.path.now in
    let m = c.args.last.depth + 1 in
    let v = c.code_of.result in
    shown_by _ c.args.query.task.mode c.requires.0.readable.some_leg c.requires.3 (W.whole ∙ length-set o (2 * m) v) (rest_of o v W)
    (write_end _ R (room K) (next K) p c.if-i-eq0.true b.ends (b.edge.kept b.ends.arrives))

pub overflow_cast-at : goal.overflow_cast-at
overflow_cast-at c = omega (arith, small (goal.at.overflow_cast-at c).At-loop-i)

pub offset_bounds-back-at : goal.offset_bounds-back-at
offset_bounds-back-at c = omega (arith, small (goal.at.offset_bounds-back-at c).At-loop-i)

pub bounds-back-at : goal.bounds-back-at
bounds-back-at c = omega (arith, chain_bound c.loop-i.invariant.0.chain, c.requires.2)

pub overflow_sub-w : goal.overflow_sub-w
overflow_sub-w c = omega (arith, (unlink c.loop-i.invariant.0.chain (omega (arith, c.if-i-eq0.false))).marked)

pub least_event-e-requires : goal.least_event-e-requires
least_event-e-requires c =
    (c.requires.0, (unlink c.loop-i.invariant.0.chain (omega (arith, c.if-i-eq0.false))).linked, c.loop-i.invariant.1)

pub loop-i-preserved : goal.loop-i-preserved
loop-i-preserved c =
    let K = (goal.at.loop-i-preserved c).At-loop-i in
    let p = code_at c.requires.0 c.states_in-states.ensures _ c.code_of-in-loop-i.ensures in
    (write_next _ c.loop-i.invariant.0 (room K) (next K) p (omega (arith, c.if-i-eq0.false)) refl c.least_event-e.ensures.0.holds, c.least_event-e.ensures.1)
