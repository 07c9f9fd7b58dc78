use mathlib.Core.Bool.{Bool, ◌&&◌}
use mathlib.Core.Path.{sym, ap, ◌∙◌}
use Rattle.base.specs.Bits.{bit}
use Rattle.base.proofs.BitLaws.{bit_zero}
use Rattle.goal_image.proofs.sets.class_mask.Goals as goal

pub returns-else-fits_field : goal.returns-else-fits_field
returns-else-fits_field c =
    let t = c.fits_field in
    λ q. bit_zero q ∙ sym (ap (λ (b : Bool). b && bit c.args.r.mask q) (sym t.ensures ∙ c.if-fits_field.false))
