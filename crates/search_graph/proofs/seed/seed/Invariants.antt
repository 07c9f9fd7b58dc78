use Rattle.context.specs.Inner.Places.{first_place}
use Rattle.search_graph.proofs.SeedLaws.{Sowing}
use Rattle.search_graph.proofs.seed.seed.Given as goal

abbrev pub invariant-loop-ty : goal.invariant-loop-ty
invariant-loop-ty l = Sowing l.plan l.task l.nodes l.back l.queue l.tail (first_place l.counts l.ty)

abbrev pub invariant-loop-y : goal.invariant-loop-y
invariant-loop-y l = Sowing l.plan l.task l.nodes l.back l.queue l.tail l.y
