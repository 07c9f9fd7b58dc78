use Rattle.search.proofs.FoundLaws.{coded, found_start, found_least}
use Rattle.search.proofs.search.Goals as goal

pub seed-requires : goal.seed-requires
seed-requires c =
    (c.requires.0.readable, c.requires.1)

pub at-start-requires : goal.at-start-requires
at-start-requires c =
    let A = c.requires.0 in let z = rw c.in-Start.is at (c.seed.ensures _ A) in (A.readable.sets.counts.countable, z.below)

pub code-requires : goal.code-requires
code-requires c =
    let A = c.requires.0 in let z = rw c.in-Start.is at (c.seed.ensures _ A) in coded A z.below c.at-start.ensures

pub search_levels-requires : goal.search_levels-requires
search_levels-requires c =
    let A = c.requires.0 in let z = rw c.in-Nodes.is at (c.seed.ensures _ A) in (A, z.inv)

pub returns-in-Start : goal.returns-in-Start
returns-in-Start c =
    let A = c.requires.0 in let z = rw c.in-Start.is at (c.seed.ensures _ A) in (found_start A z c.at-start.ensures c.code.ensures, z.visited)

pub returns-in-Nodes : goal.returns-in-Nodes
returns-in-Nodes c =
    let A = c.requires.0 in let z = rw c.in-Nodes.is at (c.seed.ensures _ A) in (found_least A _ _ c.search_levels.result.found z.none c.search_levels.ensures.0, c.search_levels.ensures.1)
