-- The loop keeps `RuleTo`: of the pairs with a role below b it is known whether the rule holds.
use Rattle.search_steps.proofs.PairLaws.{RuleTo}
use Rattle.search_steps.proofs.pairs.rule_word.Given as goal

abbrev pub invariant-loop-b : goal.invariant-loop-b
invariant-loop-b l = RuleTo l.plan l.rows l.a l.r l.b
