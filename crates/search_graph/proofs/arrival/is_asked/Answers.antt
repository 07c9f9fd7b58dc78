use mathlib.Core.Bool.{not, ◌&&◌}
use mathlib.Core.Path.{ap, ap₂, ◌∙◌}
use Prim.Native.Nat.{ℕ}
use Rattle.base.specs.Bits.{bit}
use Rattle.goal_image.specs.Goal.{σeChain}
use Rattle.search_graph.proofs.arrival.is_asked.Goals as goal

pub sets_at-into-requires : goal.sets_at-into-requires
sets_at-into-requires c = (c.requires.0.counts, c.requires.0.falls, c.requires.0.size, c.requires.1)

pub is_held-requires : goal.is_held-requires
is_held-requires c = (c.requires.0.counts, c.requires.0.size, c.requires.1)

pub returns : goal.returns
returns c = ap₂ ◌&&◌ (ap not (c.has_bit.ensures ∙ ap (λ (k : ℕ). bit k σeChain) c.sets_at-into.ensures)) c.is_held.ensures
