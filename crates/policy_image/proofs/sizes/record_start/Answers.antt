use native.Mathlib.Omega.{arith}
use Rattle.policy_image.specs.Inner.Sizes.{start_of}
use Rattle.policy_image.proofs.sizes.record_start.Goals as goal

pub returns : goal.returns
unfolding start_of
returns c = omega arith
