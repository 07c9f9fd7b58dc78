use mathlib.Core.Path.{◌∙◌, ap}
use native.Mathlib.Omega.{arith}
use Rattle.context.specs.Inner.Coding.{context_code}
use Rattle.context.proofs.PlaceLaws.{at_in_range}
use Rattle.search_graph.specs.Inner.Nodes.{code_at, place_of}
use Rattle.witness.proofs.path.code_of.Goals as goal

pub code-requires : goal.code-requires
code-requires c =
    let n = c.requires in
    let r = at_in_range c.args.counts _ n.countable.roles n.countable.users n.below in
    rw c.at.ensures (omega (arith, r.ty.high, n.types), omega (arith, r.role.high, n.roles), omega (arith, r.user.high, n.users))

pub returns : goal.returns
unfolding code_at place_of
returns c = c.code.ensures ∙ ap context_code c.at.ensures
