use Rattle.plan.proofs.NamedLaws.{names_user}
use native.Mathlib.Omega.{arith}
use Rattle.plan.proofs.named.names_both.Goals as goal

pub returns : goal.returns
returns c = names_user c.args.r (omega arith) (omega arith) c.if-r-ne0.false
