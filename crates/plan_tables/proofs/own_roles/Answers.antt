use mathlib.Core.Bool.{Bool, ◌||◌}
use mathlib.Core.Path.{◌≡◌, ap, ◌∙◌}
use Prim.Native.Nat.{ℕ}
use lib.Dec.{eqb}
use borrow.Author.Rules.{rules}
use Rattle.base.specs.Bits.{bit}
use Rattle.base.specs.Inner.Masks.{With}
use Rattle.base.proofs.BitLaws.{bit_zero}
use Rattle.plan_tables.proofs.FromFn.{made_at}
use Rattle.plan_tables.proofs.own_roles.Goals as goal

pub returns : goal.returns
returns c =
    let h = made_at _ _ (λ i y. (q : ℕ) → bit y q ≡ eqb i q) 0 (λ i y q k.
    let w : With 0 i y = search rules in
    (search rules, λ r. w.at r ∙ ap (λ (b : Bool). b || eqb i r) (bit_zero r))) _ _ c.from_fn.ensures.items in
    record { at = λ r1 r2 l. h r1 l r2 }
