use mathlib.Core.Path.{ap₂, ◌∙◌}
use lib.Dec.{eqb}
use native.Mathlib.Omega.{arith}
use Rattle.context.proofs.CodeLaws.{transition_code_lem}
use Rattle.context.proofs.Event.is_transition.Goals as goal

pub returns : goal.returns
returns c =
    ap₂ eqb c.code.ensures c.code-2.ensures
    ∙ transition_code_lem c.args.self (omega arith)
