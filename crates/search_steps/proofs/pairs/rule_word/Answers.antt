use Prim.Native.Nat.{ℕ, ◌+◌}
use mathlib.Core.Path.{◌≡◌, sym, subst, ◌∙◌}
use native.Mathlib.Omega.{arith}
use Rattle.search_steps.proofs.PairLaws.{RuleTo, rule_begin, rule_with, rule_without, rule_end, rule_none}
use Rattle.search_steps.proofs.pairs.rule_word.Goals.{else-may_change, then-may_change}
use Rattle.search_steps.proofs.pairs.rule_word.Goals as goal

pub returns-then-a-ne-TRANSITION_CODE : goal.returns-then-a-ne-TRANSITION_CODE
returns-then-a-ne-TRANSITION_CODE c = rule_none c.if-a-ne-TRANSITION_CODE.true

pub loop-b-init : goal.loop-b-init
loop-b-init c = rule_begin

pub returns : goal.returns
returns c =
    let l = c.loop-b in
    let q : l.b ≡ 16 = omega arith in
    rule_end c.requires.1 c.if-a-ne-TRANSITION_CODE.false q l.invariant

pub loop-b-preserved : goal.loop-b-preserved
loop-b-preserved c =
    let l = c.loop-b in
    let m = c.may_change.ensures in
    let few = c.loop-b-test.true in
    let to : ℕ → Type 0 = λ r. RuleTo c.args.plan.now c.args.rows.now c.args.a r (l.b + 1) in
    elim c.if-may_change.branch [
      | then-may_change t ↦ subst to (sym t.r-is) (rule_with l.invariant few (sym m ∙ t.if-may_change.true))
      | else-may_change t ↦ subst to (sym t.r-is) (rule_without l.invariant few (sym m ∙ t.if-may_change.false))
    ]
