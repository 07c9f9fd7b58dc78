use mathlib.Core.Bool.{false}
use mathlib.Core.Path.{sym, ◌∙◌}
use Rattle.goal_image.proofs.Searches.{callable, any_some}
use Rattle.goal_image.proofs.sets.is_in.Goals as goal

pub any-requires-clause-callable : goal.any-requires-clause-callable
any-requires-clause-callable g c =
    callable c.requires.0.chains c.requires.1 {says = λ i b. goal.F-post g c.args.passes.now i b} (λ x b q k. (k.met.1, k.met.0)) c.records_on.ensures false c.requires.2

pub returns-then-is_context_chain : goal.returns-then-is_context_chain
returns-then-is_context_chain g c =
    let sort = sym c.is_context_chain.ensures ∙ c.if-is_context_chain.true in
    λ t says.
    rw sort (any_some c.requires.0.chains c.requires.1 (λ x b q k. (k.met.1, k.met.0)) c.records_on.ensures _ _ c.any.ensures.ran t says)
