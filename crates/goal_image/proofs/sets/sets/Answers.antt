use native.Mathlib.Omega.{arith}
use Rattle.base.proofs.BoolLaws.{and_first}
use Rattle.goal_image.specs.Goal.{is_context_chain}
use Rattle.goal_image.proofs.Gather.{gathered_start, gathered_join, gathered_pass, gathered_end}
use Rattle.goal_image.proofs.SortLaws.{context_below}
use Rattle.goal_image.proofs.sets.sets.Goals as goal
use Rattle.goal_image.proofs.sets.sets.Goals.{then-is_in, else-is_in}

pub loop-h-init : goal.loop-h-init
loop-h-init g c = λ t _. gathered_start _ 0 (λ j b. absurd (omega arith))

pub returns : goal.returns
returns g c =
    let l = c.loop-h in
    λ h t says. gathered_end _ l.h l.mask (omega arith) (l.invariant t says) (λ j b. context_below j (and_first (is_context_chain j) _ b)) h

pub loop-h-preserved : goal.loop-h-preserved
loop-h-preserved g c =
    let l = c.loop-h in
    λ t says.
    let v = l.invariant t says in
    let said = c.is_in.ensures t says in
    elim c.if-is_in.branch [
      | then-is_in w ↦ gathered_join _ l.h l.mask v _ (omega arith) said w.if-is_in.true w.mask-is
      | else-is_in w ↦ gathered_pass _ l.h l.mask v _ said w.if-is_in.false w.mask-is
    ]
