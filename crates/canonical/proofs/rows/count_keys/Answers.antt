use Prim.Native.Nat.{ℕ, ◌+◌, ◌-◌, ◌<◌}
use mathlib.Core.Path.{◌≡◌, refl, ap, ◌∙◌}
use mathlib.Core.List.{List}
use native.Mathlib.Omega.{arith}
use lib.ListN.{get_or}
use Rattle.std.proofs.lemmas.List.{get_or-take, length-take-le}
use Rattle.base.specs.Ranges.{Within}
use Rattle.policy_facts.specs.Inner.FactTable.{kind_in}
use Rattle.policy_runs.proofs.CountingLaws.{counted_fits, counted_more}
use Rattle.canonical.proofs.rows.count_keys.Goals.{After-kind_in}
use Rattle.canonical.proofs.rows.count_keys.Invariants.{rows}
use Rattle.canonical.proofs.rows.count_keys.Goals as goal

-- what is known where the kind of a key has been read
module _ (K : After-kind_in) where
  abbrev keys : List ℕ
  keys = K.args.keys.now

  abbrev i : ℕ
  i = K.loop-key.key-index

  here : i < K.args.m
  here = omega (arith, length-take-le K.args.m keys K.requires.0)

  own : K.kind_in.result ≡ kind_in (get_or keys i 0)
  own = K.kind_in.ensures ∙ ap kind_in (get_or-take K.args.m keys i 0 here)

  kinds : Within 1 9 K.kind_in.result
  kinds = let w = K.requires.2 i here in record { low = omega (arith, own, w.low); high = omega (arith, own, w.high) }

  fits : get_or K.loop-key.table K.kind_in.result 0 < K.args.m
  fits = omega (arith, here, counted_fits (rows keys) K.loop-key.invariant K.kind_in.result kinds.low kinds.high)

  same : K.kind_in.result ≡ (rows keys (i + 1)).kind
  same = own ∙ ap (λ (j : ℕ). kind_in (get_or keys j 0)) (let e : i ≡ i + 1 - 1 = omega arith in e)

pub bounds-table-kind_in : goal.bounds-table-kind_in
bounds-table-kind_in c = omega (arith, (kinds (goal.at.bounds-table-kind_in c).After-kind_in).high)

pub overflow_add-table : goal.overflow_add-table
overflow_add-table c = omega (arith, fits (goal.at.overflow_add-table c).After-kind_in)

pub loop-key-preserved : goal.loop-key-preserved
loop-key-preserved c =
    let K = (goal.at.loop-key-preserved c).After-kind_in in
    counted_more (rows (keys K)) c.loop-key.invariant (i K + 1) c.kind_in.result _ (omega arith) (same K) (kinds K) refl
