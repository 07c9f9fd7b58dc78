-- The header, the rows, then the two runs: `WriteLaws` says that each part can be written, and what is there when all are.
use Prim.Native.Nat.{ℕ}
use mathlib.Core.List.{List}
use mathlib.Core.Path.{◌≡◌, refl, ◌∙◌}
use native.Mathlib.Omega.{arith}
use lib.ListN.{get_or}
use Rattle.policy_image.specs.declared.kinds.Kind.TheVariants.{Constraint, Node}
use Rattle.policy_image.specs.Policy.{policy_of}
use Rattle.policy_runs.specs.declared.Run.{Run}
use Rattle.policy_facts.specs.Canonical.{canonical_kind}
use Rattle.policy_lists.proofs.PlaceLaws.{ending}
use Rattle.policy_runs.proofs.ImageWriteLaws.{EndTable, few_upto, counts_writable, heads_writable, header_put, all_put}
use Rattle.canonical.proofs.PlacedLaws.{rows_put}
use Rattle.canonical.proofs.WriteLaws.{writable_lists, facts_are, few_facts, fact_kinds, few_of_each, ends_are, counts_are, rows_fit, kept_fits, kept_put, behind}
use Rattle.canonical.proofs.write.Goals.{After-ends_of-ends, After-put_run-behind}
use Rattle.canonical.proofs.write.Goals as goal

-- what is known where the ends of all kinds are known
module _ (E : After-ends_of-ends) where
  ends : EndTable (canonical_kind (policy_of E.args.policy.now)) E.ends_of-ends.result
  ends =
      ends_are E.requires E.count_kinds.result E.count_keys.result E.kept_kinds-kept.result E.count_kinds.ensures E.count_keys.ensures E.kept_kinds-kept.ensures
      E.ends_of-ends.result E.ends_of-ends.ensures

pub count_keys-requires : goal.count_keys-requires
count_keys-requires c = (c.requires.keyed, few_facts c.requires, fact_kinds c.requires)

pub ends_of-ends-requires : goal.ends_of-ends-requires
ends_of-ends-requires c =
    few_of_each c.requires c.count_kinds.result c.count_keys.result c.kept_kinds-kept.result c.count_kinds.ensures c.count_keys.ensures c.kept_kinds-kept.ensures

pub heads_of-heads-requires : goal.heads_of-heads-requires
heads_of-heads-requires c = few_upto (writable_lists c.requires) c.ends_of-ends.result (ends (goal.at.heads_of-heads-requires c).After-ends_of-ends)

pub put_header-requires : goal.put_header-requires
put_header-requires c =
    let E = ends (goal.at.put_header-requires c).After-ends_of-ends in
    let G = c.requires in (
      omega (arith, G.room),
      counts_writable (writable_lists G) (c.with_records.ensures ∙ counts_are G c.ends_of-ends.result E),
      heads_writable (writable_lists G) c.ends_of-ends.result E c.heads_of-heads.result c.heads_of-heads.ensures,
    )

pub put_rows-requires : goal.put_rows-requires
put_rows-requires c =
    rows_fit c.requires c.ends_of-ends.result (ends (goal.at.put_rows-requires c).After-ends_of-ends) _ (omega (arith, c.put_header.auto.out))

pub put_run-behind-requires : goal.put_run-behind-requires
put_run-behind-requires c =
    let E = ends (goal.at.put_run-behind-requires c).After-ends_of-ends in
    let G = c.requires in
    kept_fits G 7 (omega arith) (omega arith) _ refl (E 8 (omega arith)) (facts_are G) (E 8 (omega arith)) _ _
    (omega (arith, c.put_header.auto.out, c.put_rows.auto.output)) c.count_nodes-nodes.ensures

-- the two runs, by the records before them and the ends of all kinds
abbrev constraints : ℕ → List ℕ → Run
constraints before ends = record { kind = Constraint; before = before; last = get_or ends 8 0; shift = get_or ends 8 0 }

abbrev expressions : ℕ → List ℕ → Run
expressions before ends = record { kind = Node; before = before; last = get_or ends 9 0; shift = get_or ends 8 0 }

-- .. and where the constraints are
module _ (K : After-put_run-behind) where
  constraints_end : EndTable (canonical_kind (policy_of K.args.policy.now)) K.ends_of-ends.result
      → K.put_run-behind.result ≡ ending (canonical_kind (policy_of K.args.policy.now)) 8
  constraints_end E =
      let G = K.requires in
      K.put_run-behind.ensures.0 ∙ behind G 7 (omega arith) (omega arith) (constraints K.args.facts K.ends_of-ends.result) refl (E 8 (omega arith)) (facts_are G) (E 8 (omega arith))

pub put_run-requires : goal.put_run-requires
put_run-requires c =
    let E = ends (goal.at.put_run-requires c).After-ends_of-ends in
    kept_fits c.requires 8 (omega arith) (omega arith) _ refl (E 9 (omega arith)) (constraints_end (goal.at.put_run-requires c).After-put_run-behind E) (E 8 (omega arith)) _ _
    (omega (arith, c.put_header.auto.out, c.put_rows.auto.output, c.put_run-behind.auto.output)) c.count_nodes-nodes.ensures

pub returns : goal.returns
returns c =
    let E = ends (goal.at.returns c).After-ends_of-ends in
    let G = c.requires in
    let B = constraints_end (goal.at.returns c).After-put_run-behind E in
    all_put _ (c.put_run.auto.output ∙ c.put_run-behind.auto.output ∙ c.put_rows.auto.output ∙ c.put_header.auto.out) G.room
    (header_put (writable_lists G) c.ends_of-ends.result E c.heads_of-heads.result c.heads_of-heads.ensures (c.with_records.ensures ∙ counts_are G c.ends_of-ends.result E)
    c.put_header.ensures)
    (kept_put G 8 (omega arith) (omega arith) (expressions c.put_run-behind.result c.ends_of-ends.result) refl (E 9 (omega arith)) B (E 8 (omega arith))
    (kept_put G 7 (omega arith) (omega arith) (constraints c.args.facts c.ends_of-ends.result) refl (E 8 (omega arith)) (facts_are G) (E 8 (omega arith))
    (rows_put _ G.table c.ends_of-ends.result E c.put_rows.ensures) c.put_run-behind.ensures.1) c.put_run.ensures.1)
