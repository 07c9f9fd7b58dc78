use Prim.Native.Nat.{ℕ, ◌+◌}
use mathlib.Core.Path.{◌≡◌, ◌∙◌, subst}
use native.Mathlib.Omega.{arith}
use lib.ListN.{get_or, set, length-set}
use lib.Seq.{get_or-set_same, get_or-set_other}
use borrow.Author.Rules.{rules}
use Rattle.chains.specs.Inner.Links.{LinksRising}
use Rattle.chains.proofs.ShapeLaws.{head_of}
use Rattle.goal_image.specs.Goal.{Goal, goal_of, goal_links}
use Rattle.goal_image.specs.Questions.{OneChainEach}
use Rattle.goal_image.proofs.Pass.{Pass, pass_start, pass_none, pass_two, pass_step, pass_end, only_one, none_there, one_there}
use Rattle.goal_image.proofs.links.each_on_one.Goals.{After-first_at, After-next_at}
use Rattle.goal_image.proofs.links.each_on_one.Goals as goal

-- what is known where record i is looked at
module _ (K : After-first_at) where
  abbrev g : Goal
  g = goal_of K.args.goal.now

  abbrev rise : LinksRising (goal_links g) 0 15
  rise = K.requires.1

  abbrev i : ℕ
  i = K.loop-i.i

  abbrev cur : ℕ → ℕ
  cur k = get_or K.loop-i.cursor k 0

  abbrev pass : Pass g i cur
  pass = K.loop-i.invariant.2

pub loop-i-init : goal.loop-i-init
loop-i-init c =
    let S = c.goal_shape.ensures in (
      omega arith,
      search rules,
      pass_start (goal_of c.args.goal.now) c.requires.1 (λ k. get_or c.heads-cursor.result k 0)
          (λ h b. c.heads-cursor.ensures h (omega arith) (omega arith) ∙ head_of S h),
    )

-- .. where the cursor of chain h moves on
module _ (K : After-next_at) where
  moved : Pass (g (goal.at.After-next_at K).After-first_at) (K.loop-i.i + 1) (λ k. get_or (set K.loop-i.cursor K.in-Some.h K.next_at.result) k 0)
  moved =
      let F = (goal.at.After-next_at K).After-first_at in
      let old = K.loop-i.cursor in
      let h = K.in-Some.h in
      let first = K.in-Some.ensures in
      pass_step (g F) (rise F) (i F) (cur F) (pass F) (omega arith) (omega arith) h first.high first.at
      (only_one (cur F) (i F) h first
      (none_there (cur F) (h + 1) (i F) K.first_at-in-loop-i.result K.first_at-in-loop-i.ensures K.if-is_some.ensures))
      (λ k. get_or (set old h K.next_at.result) k 0)
      (get_or-set_same old h K.next_at.result 0 (omega arith) ∙ K.next_at.ensures)
      (λ k n. get_or-set_other old h k K.next_at.result 0 n)

-- .. and where all records are passed
passed : (q : Goal) (j : ℕ) (at : ℕ → ℕ) → LinksRising (goal_links q) 0 15 → j ≡ q.size + 1 → Pass q j at → OneChainEach q
passed q j at rise e p = pass_end q rise at (subst (λ (n : ℕ). Pass q n at) e p)

pub returns-in_default : goal.returns-in_default
returns-in_default c =
    let K = (goal.at.returns-in_default c).After-first_at in
    pass_none (g K) (rise K) (i K) (cur K) (pass K) (omega arith) (omega arith) (λ h b e. c.in_default.ensures h (omega arith) b e)

pub returns-then-is_some : goal.returns-then-is_some
returns-then-is_some c =
    let K = (goal.at.returns-then-is_some c).After-first_at in
    let h = c.in-Some.h in
    let first = c.in-Some.ensures in
    let t = c.first_at-in-loop-i in
    let second = (one_there (cur K) (h + 1) (i K) t.result t.ensures c.if-is_some.ensures).1 in
    pass_two (g K) (rise K) (i K) (cur K) (pass K) (omega arith) (omega arith) h _ first.high second.high
    (let a = second.low in λ q. omega arith) first.at second.at

pub loop-i-preserved : goal.loop-i-preserved
loop-i-preserved c = (omega arith, simp length-set (omega arith), moved (goal.at.loop-i-preserved c).After-next_at)

pub returns : goal.returns
returns c = passed _ c.loop-i.i _ c.requires.1 (omega arith) c.loop-i.invariant.2

pub returns-else-is_some : goal.returns-else-is_some
returns-else-is_some c = passed _ (c.loop-i.i + 1) _ c.requires.1 (omega arith) (moved (goal.at.returns-else-is_some c).After-next_at)
