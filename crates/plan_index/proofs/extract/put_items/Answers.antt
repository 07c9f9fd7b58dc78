use mathlib.Core.Path.{refl}
use native.Mathlib.Omega.{arith}
use Rattle.plan_index.proofs.RecordLaws.{target_few, items_put}
use Rattle.plan_index.proofs.extract.put_items.Goals as goal

pub item_code-requires : goal.item_code-requires
item_code-requires c =
    let e = c.target-to.ensures in
    let few = target_few _ c.requires.0 in
    (omega arith, omega arith, omega arith)

pub item_code-requires-2 : goal.item_code-requires-2
item_code-requires-2 c =
    let e = c.target-to.ensures in
    let few = target_few _ c.requires.0 in
    (omega arith, omega arith, omega arith)

pub returns : goal.returns
returns c =
    let e = c.target-to.ensures in
    items_put _ _ _ c.args.r c.args.n _ _ _ (omega (arith, e, c.item_code.ensures)) (omega (arith, e, c.item_code-2.ensures)) refl c.requires.2 c.requires.3
