use mathlib.Core.Path.{sym, ◌∙◌}
use native.Mathlib.Omega.{arith}
use lib.ListN.{length-set}
use Rattle.fact_table.proofs.CollectLaws.{entered_none, entered_one, entered_two}
use Rattle.fact_table.proofs.collect.enter.Goals as goal

pub returns-then-not-is_fact : goal.returns-then-not-is_fact
returns-then-not-is_fact c = entered_none _ _ _ _ (sym c.is_fact.ensures ∙ c.if-not-is_fact.true)

pub bounds-given-n-2 : goal.bounds-given-n-2
bounds-given-n-2 c = simp length-set (omega (arith, c.requires.2))

pub bounds-codes-n-3 : goal.bounds-codes-n-3
bounds-codes-n-3 c = simp length-set (omega (arith, c.requires.1))

pub returns-then-not-says_both : goal.returns-then-not-says_both
returns-then-not-says_both c =
    entered_one _ _ _ _ (sym c.is_fact.ensures ∙ c.if-not-is_fact.false) (sym c.says_both.ensures ∙ c.if-not-says_both.true) (omega (arith, c.requires.1)) (omega (arith, c.requires.2)) _ c.code_of.ensures

pub returns : goal.returns
returns c =
    entered_two _ _ _ _ (sym c.is_fact.ensures ∙ c.if-not-is_fact.false) (sym c.says_both.ensures ∙ c.if-not-says_both.false) (omega (arith, c.requires.1)) (omega (arith, c.requires.2)) _ _
    c.code_of-2.ensures c.code_of-3.ensures
