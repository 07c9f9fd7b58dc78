use mathlib.Core.Bool.{not}
use mathlib.Core.Path.{sym, ap, ◌∙◌}
use lib.Dec.{eqb}
use Rattle.base.proofs.BitLaws.{bit_zero}
use Rattle.base.proofs.BoolLaws.{and_no, and_yes}
use Rattle.plan_tables.proofs.MeaningLaws.{bit_object}
use Rattle.plan_tables.proofs.object_roles_of.Goals as goal

pub returns-then-domain : goal.returns-then-domain
returns-then-domain c = λ role. bit_zero role ∙ sym (and_no (eqb role 1) (not c.args.domain) (ap not c.if-domain.true))

pub returns-else-domain : goal.returns-else-domain
returns-else-domain c = λ role. bit_object role ∙ sym (and_yes (eqb role 1) (not c.args.domain) (ap not c.if-domain.false))
