use mathlib.Core.Path.{refl, ◌∙◌}
use native.Mathlib.Omega.{arith}
use lib.ListN.{get_or}
use Rattle.base.specs.Ranges.{Within}
use Rattle.base.proofs.FillLaws.{fill_begin, fill_end}
use Rattle.policy_image.specs.Inner.Sizes.{header_size}
use Rattle.policy_writing.proofs.ImageLaws.{heads_more, header_done}
use borrow.Author.Rules.{rules}
use Rattle.policy_writing.proofs.put_header.Goals as goal

pub put_counts-requires : goal.put_counts-requires
unfolding header_size
put_counts-requires c = search rules

pub loop-k-init : goal.loop-k-init
loop-k-init c = (refl, fill_begin _ _ _ _)

pub returns : goal.returns
returns c =
    header_done c.args.c (λ i. get_or c.args.heads.now i 0) c.put_counts.ensures (fill_end c.loop-k.invariant.1 (omega arith))

pub put_head-requires : goal.put_head-requires
unfolding header_size
put_head-requires c =
    let w : Within 1 9 c.loop-k.k = record { low = omega arith; high = omega arith } in
    (omega (arith, c.loop-k.invariant.0, c.put_counts.auto.out, c.requires.0), w, c.requires.2 c.loop-k.k w)

pub loop-k-preserved : goal.loop-k-preserved
loop-k-preserved c =
    let w : Within 1 9 c.loop-k.k = record { low = omega arith; high = omega arith } in
    (c.put_head.auto.out ∙ c.loop-k.invariant.0, heads_more (λ i. get_or c.args.heads.now i 0) c.loop-k.k w c.loop-k.invariant.1 c.put_head.ensures)
