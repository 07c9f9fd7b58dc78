use Prim.Native.Nat.{ℕ, ◌+◌}
use mathlib.Core.List.{List}
use mathlib.Core.Path.{◌≡◌, sym, subst}
use native.Mathlib.Omega.{arith}
use Rattle.policy_image.specs.Policy.{policy_of}
use Rattle.plan.specs.Inner.Plan.{ruled}
use Rattle.search_constraints.specs.Inner.Asked.{AskedBefore}
use Rattle.search_steps.specs.Inner.Pairs.{StepPairs}
use Rattle.search_steps.proofs.PairLaws.{PairsTo, pairs_begin, pairs_skip, pairs_more}
use Rattle.search_steps.proofs.pairs.step_pairs.Goals as goal
use Rattle.search_steps.proofs.pairs.step_pairs.Goals.{then-left-ne0, else-left-ne0}

pub loop-w-init : goal.loop-w-init
loop-w-init c = (pairs_begin, c.requires.0.before)

pub returns : goal.returns
returns c =
    let l = c.loop-w in
    let a = c.args in
    let q : l.w ≡ 4 = omega arith in
    (subst (StepPairs (ruled a.rules.policy.now a.rules.plan.now) (policy_of a.rules.policy.now).counts a.x a.sweep.event a.sweep.ty a.among.now l.pairs) q l.invariant.0.done, l.invariant.1)

pub loop-w-preserved : goal.loop-w-preserved
loop-w-preserved c =
    let l = c.loop-w in
    let a = c.args in
    let to : List ℕ → Type 0 = λ r. PairsTo (ruled a.rules.policy.now a.rules.plan.now) a.x a.sweep.event a.sweep.ty a.among.now r (l.w + 1) in
    let asked : List ℕ → Type 0 = AskedBefore (policy_of a.rules.policy.now) a.rules.marks.now in
    elim c.if-left-ne0.branch [
      | then-left-ne0 t ↦
          (subst to (sym t.pairs-is) (pairs_more l.invariant.0 c.loop-w-test.true t.step_word-to.ensures.0), subst asked (sym t.memo-is) t.step_word-to.ensures.1)
      | else-left-ne0 t ↦
          (subst to (sym t.pairs-is) (pairs_skip l.invariant.0 t.if-left-ne0.false), subst asked (sym t.memo-is) l.invariant.1)
    ]
