use Prim.Native.Nat.{ℕ, ◌+◌, ◌*◌, ◌/◌, ◌%◌, ◌<◌}
use mathlib.Core.List.{List}
use mathlib.Core.Path.{◌≡◌, sym, ◌∙◌, ap, subst}
use native.Mathlib.Omega.{arith}
use lib.ListN.{length, get_or, set, length-set}
use lib.Seq.{get_or-set_same, get_or-set_other}
use Rattle.base.proofs.Decide.{yes_of, no_of}
use Rattle.base.proofs.Numbers.{zeros}
use Rattle.policy_image.specs.declared.records.Record.{Record}
use Rattle.policy_image.specs.Policy.{Policy, policy_of}
use Rattle.policy_image.proofs.FieldLaws.{same_fields}
use Rattle.std.specs.Prelude.{Option, None, Some}
use Rattle.policy_expressions.specs.Nodes.{use_of, UsedWell}
use Rattle.policy_expressions.proofs.Marks.{used_at, Marks, marks_start_lem, marks_nothing, marks_node, marks_bad, marks_twice, marks_end}
use Rattle.policy_expressions.proofs.nodes_in_order.Goals.{After-use_at, in-Some+else-not-used_well+else-used-m-ne0, in_default}
use Rattle.policy_expressions.proofs.nodes_in_order.Goals as goal

-- what is known where place q has been read
module _ (K : After-use_at) where
  abbrev p : Policy
  p = policy_of K.args.image.now

  abbrev q : ℕ
  q = K.loop-q.q

  abbrev κ : ℕ
  κ = K.record_at-r.result.kind

  here_used : (t : Option ℕ) → K.use_at.result ≡ t → used_at p q ≡ t
  here_used t e = ap (λ (r : Record). use_of r (q % 2)) (sym K.record_at-r.ensures.same) ∙ sym K.use_at.ensures ∙ e

  child_to : (m : ℕ) → UsedWell p (q / 2) κ m → UsedWell p (q / 2) (p.rec (q / 2)).kind m
  child_to m h = subst (λ (k : ℕ). UsedWell p (q / 2) k m) (same_fields K.record_at-r.ensures.same).kind h

  child_of : (m : ℕ) → UsedWell p (q / 2) (p.rec (q / 2)).kind m → UsedWell p (q / 2) κ m
  child_of m h = subst (λ (k : ℕ). UsedWell p (q / 2) k m) (sym (same_fields K.record_at-r.ensures.same).kind) h

  abbrev marks : Marks p q (λ m. get_or K.loop-q.used m 0)
  marks = K.loop-q.invariant.1

pub loop-q-init : goal.loop-q-init
loop-q-init c = (omega arith, marks_start_lem (policy_of c.args.image.now) _ (zeros 4096))

pub returns-then-not-used_well : goal.returns-then-not-used_well
returns-then-not-used_well c =
    let K = (goal.at.returns-then-not-used_well c).After-use_at in
    let m : ℕ = c.in-Some.m in
    let k = c.used_well in
    marks_bad (p K) (q K) _ (marks K) (omega arith) (omega arith) m (here_used K (Some m) c.in-Some.is) (λ h. no_of k.result k.ensures c.if-not-used_well.true (child_of K m h))

pub returns-then-used-m-ne0 : goal.returns-then-used-m-ne0
returns-then-used-m-ne0 c =
    let K = (goal.at.returns-then-used-m-ne0 c).After-use_at in
    let m : ℕ = c.in-Some.m in
    marks_twice (p K) (q K) _ (marks K) (omega arith) (omega arith) m (here_used K (Some m) c.in-Some.is) (λ z. omega arith)

pub returns : goal.returns
returns c =
    let l = c.loop-q in
    let p = policy_of c.args.image.now in
    let cur : ℕ → ℕ = λ k. get_or l.used k 0 in
    let z : l.q ≡ 2 * p.size + 2 = omega arith in
    marks_end p cur (subst (λ (q : ℕ). Marks p q cur) z l.invariant.1)

pub loop-q-preserved : goal.loop-q-preserved
loop-q-preserved c =
    let K = (goal.at.loop-q-preserved c).After-use_at in
    let l = c.loop-q in
    elim c.match-use_at.branch [
      | in-Some+else-not-used_well+else-used-m-ne0 w ↦
          let m : ℕ = w.in-Some.m in
          let h = yes_of w.used_well.result w.used_well.ensures w.if-not-used_well.false in
          let b = h.node.high in
          let i : m < length l.used = omega arith in
          let free : get_or l.used m 0 ≡ 0 = omega arith in (
            ap length w.used-is ∙ length-set l.used m 1 ∙ l.invariant.0,
            subst (λ (u : List ℕ). Marks (p K) (q K + 1) (λ j. get_or u j 0)) (sym w.used-is)
                (marks_node (p K) (q K) _ (marks K) (omega arith) (λ j. get_or (set l.used m 1) j 0) m (here_used K (Some m) w.in-Some.is) (child_to K m h) free
                (λ z. let e = get_or-set_same l.used m 1 0 i in omega arith)
                (λ j d. get_or-set_other l.used m j 1 0 d)),
          )
      | in_default w ↦ (
        ap length w.used-is ∙ l.invariant.0,
        subst (λ (u : List ℕ). Marks (p K) (q K + 1) (λ j. get_or u j 0)) (sym w.used-is)
            (marks_nothing (p K) (q K) _ (marks K) (omega arith) (here_used K None w.in_default.is)),
      )
    ]
