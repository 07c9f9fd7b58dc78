use Rattle.std.proofs.Common.{rules}
use mathlib.Core.Bool.{Bool}
use mathlib.Core.Path.{◌≡◌, refl, sym, subst}
use lib.Dec.{eqb}
use Rattle.std.proofs.lemmas.Iterator.{YieldsList-from_range}
use Rattle.base.specs.Inner.Decides.{Decides}
use Rattle.base.proofs.Decide.{dec_eq}
use Rattle.goal_image.specs.Layout.{goal_head}
use Rattle.goal_image.proofs.Searches.{all_decides}
use Rattle.goal_image.proofs.check.heads_are_zero.Goals as goal

pub returns : goal.returns
returns c =
    all_decides
    (λ x b q k.
    let m : (q ≡ record { 0 = c.args.goal }) × (b ≡ eqb (goal_head c.args.goal.now x) 0) = search rules in
    (m.0, subst (λ (t : Bool). Decides t (goal_head c.args.goal.now x ≡ 0)) (sym m.1) (dec_eq (goal_head c.args.goal.now x) 0).it))
    c.args.a c.args.b (YieldsList-from_range _ _ _ refl refl) _ _ c.all.ensures.ran
