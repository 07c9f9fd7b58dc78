use Prim.Native.Nat.{ℕ, ◌+◌, ◌≤◌}
use mathlib.Core.Bool.{Bool}
use mathlib.Core.List.{List}
use mathlib.Core.Path.{◌≡◌, refl, sym, ◌∙◌, subst}
use native.Mathlib.Omega.{arith}
use lib.ListN.{length, get_or, set, length-set}
use lib.Seq.{get_or-set_same, get_or-set_other}
use Rattle.base.specs.Inner.Decides.{Decides}
use Rattle.base.proofs.Decide.{decides_iff}
use Rattle.chains.proofs.ShapeLaws.{head_of}
use Rattle.policy_image.specs.declared.records.Record.{Record}
use Rattle.policy_image.specs.Policy.{Policy, policy_of}
use Rattle.policy_image.proofs.FieldLaws.{SameFields, same_fields}
use Rattle.policy_links.specs.Chains.{LinksRise, ChainsByKind}
use Rattle.policy_links.proofs.Walk.{Walk, walk_start, walk_step, walk_wrong, walk_end, walk_zero}
use Rattle.policy_links.proofs.chains_by_kind.Goals.{else-loop-i-test, then-loop-i-test+in-1-to-9+else-cursor-k+else-i-i-end}
use Rattle.policy_links.proofs.chains_by_kind.Goals as goal

-- record i, which is read as r, is of a kind, whose cursor, at k, stands at it or does not
module _ (p : Policy) (rise : LinksRise p) {i : ℕ} (low : 1 ≤ i) (high : i ≤ p.size) {r : Record} (same : SameFields r (p.rec i)) where
  wrong : (cursor : List ℕ) {k : ℕ} → Walk p i (λ j. get_or cursor j 0) → k ≡ r.kind → 1 ≤ k → k ≤ 9
      → (get_or cursor k 0 ≡ i → ⊥) → ChainsByKind p → ⊥
  wrong cursor walk is l h away =
      let e = is ∙ same.kind in
      walk_wrong p rise i (λ j. get_or cursor j 0) walk low high (omega arith) (omega arith)
      (λ q. away (subst (λ (n : ℕ). get_or cursor n 0 ≡ i) (sym e) q))

  step : (cursor : List ℕ) {k : ℕ} → Walk p i (λ j. get_or cursor j 0) → k ≡ r.kind → 1 ≤ k → k ≤ 9
      → length cursor ≡ 16 → get_or cursor k 0 ≡ i → Walk p (i + 1) (λ j. get_or (set cursor k r.next) j 0)
  step cursor {k} walk is l h size at =
      let e = is ∙ same.kind in
      walk_step p rise i (λ j. get_or cursor j 0) walk low high (λ j. get_or (set cursor k r.next) j 0) (omega arith) (omega arith)
      (subst (λ (n : ℕ). get_or cursor n 0 ≡ i) e at)
      (subst (λ (n : ℕ). get_or (set cursor k r.next) n 0 ≡ r.next) e (get_or-set_same cursor k r.next 0 (omega arith)) ∙ same.next)
      (λ j n. get_or-set_other cursor k j r.next 0 (λ q. n (q ∙ e)))

-- .. and where all records are passed
passed : (p : Policy) (rise : LinksRise p) {i : ℕ} (cursor : List ℕ) → Walk p i (λ j. get_or cursor j 0) → i ≡ p.size + 1 → (b : Bool)
    → Decides b ((k : ℕ) → 1 ≤ k → k ≤ 9 → get_or cursor k 0 ≡ 0) → Decides b (ChainsByKind p)
passed p rise cursor walk e b d =
    let w : Walk p (p.size + 1) (λ j. get_or cursor j 0) = subst (λ (n : ℕ). Walk p n (λ j. get_or cursor j 0)) e walk in
    decides_iff b (walk_end p rise (λ j. get_or cursor j 0) w) (walk_zero p rise (λ j. get_or cursor j 0) w) d

pub loop-i-init : goal.loop-i-init
loop-i-init c =
    let S = c.policy_shape.ensures in (
      omega arith,
      omega arith,
      walk_start (policy_of c.args.image.now) c.requires.1 (λ k. get_or c.heads-cursor.result k 0)
          (λ k a b. c.heads-cursor.ensures k (omega arith) (omega arith) ∙ head_of S k),
    )

pub returns-then-cursor-k : goal.returns-then-cursor-k
returns-then-cursor-k c =
    wrong (policy_of c.args.image.now) c.requires.1 (omega arith) (omega arith) (same_fields c.record_at-r.ensures.same)
    c.loop-i.cursor c.loop-i.invariant.2 refl (omega arith) (omega arith) c.if-cursor-k.true

pub returns-in_default : goal.returns-in_default
returns-in_default c =
    let e = same_fields c.record_at-r.ensures.same in
    λ C. let h = (C.all c.loop-i.i (omega arith) (omega arith)).kind in omega arith

pub returns-in_default-2 : goal.returns-in_default-2
returns-in_default-2 c =
    let e = same_fields c.record_at-r.ensures.same in
    λ C. let h = (C.all c.loop-i.i (omega arith) (omega arith)).kind in omega arith

pub loop-i-preserved : goal.loop-i-preserved
loop-i-preserved c = (
  omega arith,
  simp length-set (omega arith),
  step (policy_of c.args.image.now) c.requires.1 (omega arith) (omega arith) (same_fields c.record_at-r.ensures.same)
      c.loop-i.cursor c.loop-i.invariant.2 refl (omega arith) (omega arith) (omega arith) c.if-cursor-k.false,
)

pub returns : goal.returns
returns c =
    let p = policy_of c.args.image.now in
    let rise = c.requires.1 in
    let zero : List ℕ → Type 0 = λ (x : List ℕ). Decides c.all_zero.result ((k : ℕ) → 1 ≤ k → k ≤ 9 → get_or x k 0 ≡ 0) in
    elim c.loop-i-test.branch [
      | else-loop-i-test w ↦ passed p rise c.loop-i.cursor c.loop-i.invariant.2 (omega arith) c.all_zero.result (subst zero w.cursor-is c.all_zero.ensures)
      | then-loop-i-test+in-1-to-9+else-cursor-k+else-i-i-end w ↦
          let moved = step p rise (omega arith) (omega arith) (same_fields w.record_at-r.ensures.same) c.loop-i.cursor c.loop-i.invariant.2
          refl (omega arith) (omega arith) (omega arith) w.if-cursor-k.false in
          passed p rise _ moved (omega arith) c.all_zero.result (subst zero w.cursor-is c.all_zero.ensures)
    ]
