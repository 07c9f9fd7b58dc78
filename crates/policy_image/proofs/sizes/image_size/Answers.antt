use native.Mathlib.Omega.{arith}
use Rattle.policy_image.specs.Inner.Sizes.{header_size, size_of}
use Rattle.policy_image.proofs.sizes.image_size.Goals as goal

pub returns : goal.returns
unfolding header_size size_of
returns c = (omega arith, omega arith)
