use mathlib.Core.Bool.{not, ◌&&◌}
use mathlib.Core.Path.{◌≡◌}
use Prim.Native.Nat.{ℕ}
use lib.Dec.{eqb}
use lib.ListN.{get_or}
use borrow.Author.Rules.{rules}
use Rattle.base.specs.Bits.{bit}
use Rattle.plan_tables.proofs.FromFn.{made_at}
use Rattle.plan_tables.proofs.object_roles.Goals as goal

pub returns : goal.returns
returns c =
    let h = made_at _ _ (λ i y. (role : ℕ) → bit y role ≡ (eqb role 1 && not (bit (get_or c.args.domains.now i 0) 0))) 0 (λ i y q k.
    (search rules, λ role. search rules)) _ _ c.from_fn.ensures.items in
    record { at = λ t role l. h t l role }
