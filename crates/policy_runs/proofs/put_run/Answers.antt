-- A run is written record by record, along the chain of its kind; each record is renumbered and linked on the way.
use Prim.Native.Nat.{ℕ, suc, ◌+◌, ◌≤◌}
use mathlib.Core.Path.{◌≡◌, refl, sym, ap, ap₂, subst, ◌∙◌}
use mathlib.Core.List.{List}
use native.Mathlib.Omega.{arith}
use lib.ListN.{length, get_or}
use Rattle.base.specs.Ranges.{Within}
use Rattle.policy_image.specs.declared.records.Record.{Record}
use Rattle.policy_image.specs.Inner.Kinds.{kind_number}
use Rattle.policy_image.specs.Layout.{record_count}
use Rattle.policy_image.specs.Policy.{Policy, policy_of}
use Rattle.policy_image.specs.Inner.Reading.{Bytes}
use Rattle.policy_image.specs.Inner.Writable.{WritableRecord}
use Rattle.policy_image.proofs.KindRange.{kind_within}
use Rattle.policy_image.proofs.FieldLaws.{same_fields}
use Rattle.policy_image.proofs.SizeLaws.{start_room}
use Rattle.policy_links.proofs.Walking.{given_is}
use Rattle.policy_links.proofs.KindLaws.{OfKind}
use Rattle.policy_lists.specs.Lists.{kind_list, with_next}
use Rattle.policy_lists.specs.Joined.{nodes_upto, renumbered}
use Rattle.policy_lists.specs.Inner.Places.{next_upto}
use Rattle.policy_runs.specs.declared.Run.{Run}
use Rattle.policy_runs.specs.Inner.Runs.{many_upto, run_place, run_record, RunFits, Movable}
use Rattle.policy_runs.proofs.RunLaws.{WrittenTo, written_start, written_here, written_as, written_past, many_here, many_past, place_most, movable, by_table}
use Rattle.policy_runs.proofs.ChainRunLaws.{cursor_start, start_none, cursor_kind, cursor_here, next_past, cursor_next, next_none}
use Rattle.policy_runs.proofs.put_run.Invariants.{before}
use Rattle.policy_runs.proofs.put_run.Goals.{In-Some}
use Rattle.policy_runs.proofs.put_run.Goals as goal

-- what is known where record i has been read
module _ (K : In-Some) where
  abbrev s : List ℕ
  s = K.args.policy.now

  abbrev p : Policy
  p = policy_of s

  abbrev run : Run
  run = K.args.run

  abbrev fits : RunFits s K.args.nodes.now run (length K.args.output.now)
  fits = K.requires

  abbrev i : ℕ
  i = K.loop-r.r-iterator.next

  -- how many records stand before it
  abbrev n : ℕ
  n = before s i

  there : i ≡ 0 → ⊥
  there e = omega (arith, K.in-Some.ensures.steps.low)

  is : K.in-Some.r ≡ p.rec i
  is = given_is s K.loop-r.invariant.4 K.in-Some.ensures.steps

  of_kind_lem : OfKind p (kind_number run.kind) i
  of_kind_lem = cursor_kind p fits.links fits.chains (kind_number run.kind) (kind_within run.kind) i there K.loop-r.invariant.0

  here : suc n ≡ i
  here = cursor_here p fits.links fits.chains (kind_number run.kind) (kind_within run.kind) i there K.loop-r.invariant.0

  within : Within 1 (record_count s) i
  within = record { low = of_kind_lem.low; high = of_kind_lem.high }

  its_kind : (p.rec (suc n)).kind ≡ kind_number run.kind
  its_kind = ap (λ (x : ℕ). (p.rec x).kind) here ∙ of_kind_lem.kind

  next : K.next.new.self.next ≡ (p.rec i).next
  next = K.in-Some.ensures.steps.next ∙ (same_fields is).next

  -- it has a place up to the run's end
  place : K.loop-r.at + 1 ≤ run.before + length (kind_list p (kind_number run.kind))
  place =
      let m = place_most p (kind_number run.kind) n its_kind (omega (arith, here, of_kind_lem.high)) in
      omega (arith, m, K.loop-r.invariant.1)

  at_place : K.loop-r.at + 1 ≡ run_place p run n
  at_place = omega (arith, K.loop-r.invariant.1)

  -- .. and has been renumbered and linked
  made : {moved linked : Record} {next' : ℕ} → linked ≡ with_next next' moved → next' ≡ next_upto run.last (K.loop-r.at + 1)
      → moved ≡ renumbered (λ m. run.shift + get_or K.args.nodes.now m 0) K.in-Some.r → linked ≡ run_record p run n
  made a b e =
      a
      ∙ ap₂ with_next (b ∙ ap (next_upto run.last) at_place)
      (e ∙ ap (renumbered (λ m. run.shift + get_or K.args.nodes.now m 0)) is
      ∙ by_table fits i within ∙ ap (λ (x : ℕ). renumbered (λ m. run.shift + nodes_upto p m) (p.rec x)) (sym here))

pub loop-r-init : goal.loop-r-init
loop-r-init c =
    let R = c.requires in
    let o = policy_of c.args.policy.now in
    let k = kind_number c.args.run.kind in
    let w = kind_within c.args.run.kind in
    let it = c.into_iter-r-iterator.result in
    let e : (it.image.now ≡ c.args.policy.now) × (it.next ≡ o.head k) = rw c.into_iter-r-iterator.ensures.into_iter_gives c.records_of-r-items.ensures in
    let at = cursor_start o R.links R.chains k w it.next e.1 in
    let none = start_none o R.links R.chains k w it.next at e.1 in
    let first = before c.args.policy.now it.next in (
      at,
      omega (arith, many_past o c.args.run 0 first (omega arith) none),
      refl,
      written_past o c.args.run 0 first (omega arith) none (written_start o c.args.run c.args.output.now),
      e.0,
    )

pub overflow_add-at : goal.overflow_add-at
overflow_add-at c = let K = (goal.at.overflow_add-at c).In-Some in omega (arith, place K, (fits K).most)

pub renumber-moved-requires : goal.renumber-moved-requires
renumber-moved-requires c =
    let K = (goal.at.renumber-moved-requires c).In-Some in
    subst (λ (r : Record). Movable r c.args.nodes.now c.args.run.shift) (sym (is K)) (movable (fits K) (i K) (within K) (subst Bytes (is K) c.in-Some.ensures.steps.read.bytes))

pub next_upto-requires : goal.next_upto-requires
next_upto-requires c = let K = (goal.at.next_upto-requires c).In-Some in omega (arith, place K, (fits K).most)

pub put_record-requires : goal.put_record-requires
put_record-requires c =
    let K = (goal.at.put_record-requires c).In-Some in
    let h = place K in
    let R = fits K in (
      record { low = omega arith; high = omega (arith, h, R.most) },
      start_room (omega arith) h (omega (arith, R.room, c.loop-r.invariant.2)),
      subst WritableRecord (sym (made K c.with_next.ensures c.next_upto.ensures c.renumber-moved.ensures))
          (R.writable (n K) (omega (arith, here K, (of_kind_lem K).high)) (its_kind K)),
    )

pub loop-r-preserved : goal.loop-r-preserved
loop-r-preserved c =
    let K = (goal.at.loop-r-preserved c).In-Some in
    let R = fits K in
    let o = p K in
    let C = c.loop-r.invariant.0 in
    let next' = c.next.new.self.next in
    let none = next_none o R.links R.chains (kind_number (run K).kind) (kind_within (run K).kind) (i K) (there K) C next' (next K) in
    let past = next_past o R.links R.chains (kind_number (run K).kind) (kind_within (run K).kind) (i K) (there K) C next' (next K) in
    let one = ap (many_upto o (kind_number (run K).kind)) (sym (here K)) ∙ many_here o (kind_number (run K).kind) (n K) (its_kind K) in (
      cursor_next o R.links R.chains (kind_number (run K).kind) (kind_within (run K).kind) (i K) (there K) C next' (next K),
      omega (arith, many_past o (run K) (i K) (before (s K) next') past none, one, c.loop-r.invariant.1),
      c.put_record.auto.out ∙ c.loop-r.invariant.2,
      written_past o (run K) (i K) (before (s K) next') past none
          (written_as o (run K) (here K)
          (written_here o (run K) (n K) c.loop-r.invariant.3 (its_kind K) (c.loop-r.at + 1) (at_place K) _
          (made K c.with_next.ensures c.next_upto.ensures c.renumber-moved.ensures) c.put_record.ensures)),
      c.in-Some.ensures.steps.image ∙ c.loop-r.invariant.4,
    )

pub returns : goal.returns
returns c =
    let l = c.loop-r in
    let o = policy_of c.args.policy.now in
    let end : before c.args.policy.now l.r-iterator.next ≡ o.size = ap (before c.args.policy.now) c.in-None.ensures.steps in (
      l.invariant.1 ∙ ap (λ (n : ℕ). c.args.run.before + many_upto o (kind_number c.args.run.kind) n) end,
      subst (λ (n : ℕ). WrittenTo o c.args.run n c.args.output.now l.output) end l.invariant.3,
    )
