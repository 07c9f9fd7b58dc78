use mathlib.Core.Path.{sym, ◌∙◌}
use borrow.Author.Tests.{not-false, eqb-true}
use Rattle.search_graph.proofs.StartLaws.{outside}
use Rattle.search_graph.proofs.starts.may_start.Goals.{then-paired, else-paired}
use Rattle.search_graph.proofs.starts.may_start.Goals as goal

pub returns-else-plan-own-ne0-2 : goal.returns-else-plan-own-ne0-2
returns-else-plan-own-ne0-2 c =
    let R = c.requires.0 in
    λ q. elim c.if-paired.branch [
      | then-paired w ↦ absurd (cc)
      | else-paired w ↦ outside R.counts R.falls c.requires.1 w.if-paired.false (eqb-true _ 0 (not-false _ (sym w.value-is ∙ c.if-plan-own-ne0-2.false))) (sym c.has_bit.ensures ∙ q)
    ]
