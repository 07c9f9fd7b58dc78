use mathlib.Core.Logic.{∥∥₁_elim}
use Rattle.std.proofs.Common.{arith}
use Rattle.std.proofs.Props.{props}
use Rattle.base.proofs.ChainLaws.{left_less}
use Rattle.goal_image.specs.Goal.{goal_of, goal_links}
use Rattle.goal_image.proofs.chain.ChainIterator.next.Goals as goal

-- links rise, so fewer records are left from a record's next on
pub returns-clause-goes : goal.returns-clause-goes
returns-clause-goes c =
    let s = c.args.self.now in
    let fewer = ∥∥₁_elim s.rise (Prim.hlevel props)
    (λ up. left_less (goal_links (goal_of s.goal.now)) s.next c.next_at-self.result (omega arith) s.most (up s.next (omega arith) s.most) c.next_at-self.ensures) in
    record { on = λ _. (tt, tt, fewer); keeps = tt; rests = λ _. tt }
