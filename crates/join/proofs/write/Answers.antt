-- The header, then the two runs of each kind: `WriteLaws`, and `ImageWriteLaws` of policy_runs, say that each part can be written, and what is there
-- when all are.
use Prim.Native.Nat.{ℕ, ◌+◌, ◌-◌, ◌≤◌}
use mathlib.Core.Path.{◌≡◌, refl, sym, ap₂, subst, ◌∙◌}
use mathlib.Core.List.{List}
use native.Mathlib.Omega.{arith}
use lib.ListN.{length, get_or}
use Rattle.policy_image.specs.Policy.{policy_of}
use Rattle.policy_image.proofs.KindRange.{kind_at}
use Rattle.policy_lists.specs.Lists.{kind_list}
use Rattle.policy_lists.specs.Joined.{joined_kind, joined}
use Rattle.policy_runs.proofs.RunImageLaws.{RecordsTo, records_none}
use Rattle.policy_runs.proofs.ImageWriteLaws.{EndTable, ends_most, few_upto, counts_writable, heads_writable, header_put}
use Rattle.join.proofs.WriteLaws.{writable_lists, few_of_each, ends_are, counts_are, makers_run_fits, makers_run_put, boards_run_fits, boards_run_put, joined_put}
use Rattle.join.proofs.write.Invariants.{ends_in}
use Rattle.join.proofs.write.Goals.{After-ends_of-ends, At-loop-kind, After-number-k, After-put_run-between}
use Rattle.join.proofs.write.Goals as goal

-- what is known where the ends of all kinds are known
module _ (E : After-ends_of-ends) where
  ends : EndTable (joined_kind (policy_of E.args.maker.now) (policy_of E.args.board.now)) E.ends_of-ends.result
  ends =
      ends_are E.requires E.count_kinds-of_maker.result E.count_kinds-of_board.result E.count_kinds-of_maker.ensures E.count_kinds-of_board.ensures E.ends_of-ends.result
      E.ends_of-ends.ensures

pub ends_of-ends-requires : goal.ends_of-ends-requires
ends_of-ends-requires c =
    few_of_each c.requires c.count_kinds-of_maker.result c.count_kinds-of_board.result c.count_kinds-of_maker.ensures c.count_kinds-of_board.ensures

pub heads_of-heads-requires : goal.heads_of-heads-requires
heads_of-heads-requires c = few_upto (writable_lists c.requires) c.ends_of-ends.result (ends (goal.at.heads_of-heads-requires c).After-ends_of-ends)

pub larger_counts-requires : goal.larger_counts-requires
larger_counts-requires c = let G = c.requires in omega (arith, G.makers_size, G.boards_size, G.few)

pub put_header-requires : goal.put_header-requires
put_header-requires c =
    let G = c.requires in (
      omega (arith, G.room),
      counts_writable (writable_lists G) (c.larger_counts.ensures ∙ counts_are G),
      heads_writable (writable_lists G) c.ends_of-ends.result (ends (goal.at.put_header-requires c).After-ends_of-ends) c.heads_of-heads.result c.heads_of-heads.ensures,
    )

pub overflow_add-boards_shift : goal.overflow_add-boards_shift
overflow_add-boards_shift c =
    let G = c.requires in
    let E = ends (goal.at.overflow_add-boards_shift c).After-ends_of-ends in
    let few = few_of_each G c.count_kinds-of_maker.result c.count_kinds-of_board.result c.count_kinds-of_maker.ensures c.count_kinds-of_board.ensures in
    let m = ends_most (writable_lists G) 8 (omega arith) in
    omega (arith, E 8 (omega arith), m, few.first 9 (omega arith) (omega arith))

pub loop-kind-init : goal.loop-kind-init
loop-kind-init c = (refl, records_none _ _)

-- what is known in the loop
module _ (L : At-loop-kind) (E : EndTable (joined_kind (policy_of L.args.maker.now) (policy_of L.args.board.now)) L.ends_of-ends.result) where
  abbrev s : List ℕ
  s = L.args.maker.now

  abbrev t : List ℕ
  t = L.args.board.now

  same_room : length L.args.output.now ≤ length L.loop-kind.output
  same_room = omega (arith, L.loop-kind.invariant.0, L.put_header.auto.out)

  makers_shift : get_or L.ends_of-ends.result 8 0 ≡ ends_in s t 8
  makers_shift = E 8 (omega arith)

  boards_shift : get_or L.ends_of-ends.result 8 0 + get_or L.count_kinds-of_maker.result 9 0 ≡ ends_in s t 8 + length (kind_list (policy_of s) 9)
  boards_shift = ap₂ ◌+◌ makers_shift (L.count_kinds-of_maker.ensures 9 (omega arith) (omega arith))

-- the number of the kind at hand
module _ (N : After-number-k) where
  abbrev k : ℕ
  k = N.number-k.result

  at : k ≡ N.loop-kind.kind-index + 1
  at = N.number-k.ensures ∙ kind_at N.loop-kind.kind-index N.loop-kind-test.true

pub bounds-ends-k-in-loop-kind : goal.bounds-ends-k-in-loop-kind
bounds-ends-k-in-loop-kind c = let e = at c in omega arith

pub put_run-between-requires : goal.put_run-between-requires
put_run-between-requires c =
    let E = ends (goal.at.put_run-between-requires c).After-ends_of-ends in
    let L = (goal.at.put_run-between-requires c).At-loop-kind in
    let N = (goal.at.put_run-between-requires c).After-number-k in
    let e = at N in
    makers_run_fits c.requires (k N) (omega arith) (omega arith) _ (sym c.number-k.ensures) (E (k N) (omega arith)) (E (k N - 1) (omega arith)) (makers_shift L E) _ _
    (same_room L E) c.count_nodes-maker_nodes.ensures

-- what is known where the maker's run is written
module _ (P : After-put_run-between) (E : EndTable (joined_kind (policy_of P.args.maker.now) (policy_of P.args.board.now)) P.ends_of-ends.result) where
  here : P.number-k.result ≡ P.loop-kind.kind-index + 1
  here = P.number-k.ensures ∙ kind_at P.loop-kind.kind-index P.loop-kind-test.true

  between : P.put_run-between.result ≡ ends_in P.args.maker.now P.args.board.now (P.number-k.result - 1) + length (kind_list (policy_of P.args.maker.now) P.number-k.result)
  between =
      P.put_run-between.ensures.0
      ∙ ap₂ (λ (n i : ℕ). n + length (kind_list (policy_of P.args.maker.now) i)) (E (P.number-k.result - 1) (omega (arith, here))) (sym P.number-k.ensures)

pub put_run-requires : goal.put_run-requires
put_run-requires c =
    let E = ends (goal.at.put_run-requires c).After-ends_of-ends in
    let L = (goal.at.put_run-requires c).At-loop-kind in
    let P = (goal.at.put_run-requires c).After-put_run-between in
    let k = c.number-k.result in
    let e = here P E in
    boards_run_fits c.requires k (omega arith) (omega arith) _ (sym c.number-k.ensures) (E k (omega arith)) (between P E) (boards_shift L E) _ _
    (omega (arith, same_room L E, c.put_run-between.auto.output)) c.count_nodes-board_nodes.ensures

pub loop-kind-preserved : goal.loop-kind-preserved
loop-kind-preserved c =
    let E = ends (goal.at.loop-kind-preserved c).After-ends_of-ends in
    let L = (goal.at.loop-kind-preserved c).At-loop-kind in
    let P = (goal.at.loop-kind-preserved c).After-put_run-between in
    let k : ℕ = c.number-k.result in
    let i : ℕ = c.loop-kind.kind-index in
    let e : k ≡ i + 1 = here P E in
    let G = c.requires in
    let j = joined (policy_of c.args.maker.now) (policy_of c.args.board.now) in
    let begun = subst (λ (n : ℕ). RecordsTo j (ends_in c.args.maker.now c.args.board.now n) c.put_header.new.out c.loop-kind.output) (let d : i ≡ k - 1 = omega arith in d) c.loop-kind.invariant.1 in (
      c.put_run.auto.output ∙ c.put_run-between.auto.output ∙ c.loop-kind.invariant.0,
      subst (λ (n : ℕ). RecordsTo j (ends_in c.args.maker.now c.args.board.now n) c.put_header.new.out c.put_run.new.output) (let d : k + 1 - 1 ≡ i + 1 = omega arith in d)
          (boards_run_put G k (omega arith) (omega arith) _ (sym c.number-k.ensures) (E k (omega arith)) (between P E) (boards_shift L E)
          (makers_run_put G k (omega arith) (omega arith) _ (sym c.number-k.ensures) (E k (omega arith)) (E (k - 1) (omega arith)) (makers_shift L E) begun
          c.put_run-between.ensures.1)
          c.put_run.ensures.1),
    )

pub returns : goal.returns
returns c =
    let E = ends (goal.at.returns c).After-ends_of-ends in
    let G = c.requires in
    let l = c.loop-kind in
    joined_put G l.kind-index (omega (arith, c.loop-kind-test.false)) (l.invariant.0 ∙ c.put_header.auto.out) refl
    (header_put (writable_lists G) c.ends_of-ends.result E c.heads_of-heads.result c.heads_of-heads.ensures (c.larger_counts.ensures ∙ counts_are G) c.put_header.ensures)
    l.invariant.1
