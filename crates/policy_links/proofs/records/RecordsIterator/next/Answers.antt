use mathlib.Core.Logic.{∥∥₁_elim}
use Rattle.std.proofs.Common.{arith}
use Rattle.std.proofs.Props.{props}
use Rattle.base.proofs.ChainLaws.{left_less}
use Rattle.policy_image.specs.Policy.{policy_of, policy_links}
use Rattle.policy_image.proofs.FieldLaws.{same_fields}
use Rattle.policy_links.proofs.records.RecordsIterator.next.Goals as goal

-- links rise, so fewer records are left from a record's next on
pub returns-clause-goes : goal.returns-clause-goes
returns-clause-goes c =
    let s = c.args.self.now in
    let fewer = ∥∥₁_elim s.rise (Prim.hlevel props)
    (λ up. left_less (policy_links (policy_of s.image.now)) s.next c.record_at-r.result.next (omega arith) s.most (up s.next (omega arith) s.most) (same_fields c.record_at-r.ensures.same).next) in
    record { on = λ _. (tt, tt, fewer); keeps = tt; rests = λ _. tt }
