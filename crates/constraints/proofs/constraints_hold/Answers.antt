use mathlib.Core.Path.{◌∙◌}
use native.Mathlib.Omega.{arith}
use Rattle.constraints.proofs.constraints_hold.Goals as goal

-- the first of 64 pairs that are all the one asked for
pub returns : goal.returns
returns c =
    let a = c.args in
    c.has_member.ensures ∙ (c.constraints_word.ensures.of 64 (λ _. a.x) (λ _. a.y) c.one_pair-leaves.ensures).at 0 (omega arith)
