-- Item after item, in the order of their codes: the loop keeps `UnitedItems` for the items that it has passed.
use mathlib.Core.Path.{◌≡◌}
use mathlib.Core.List.{List}
use Prim.Native.Nat.{ℕ}
use lib.ListN.{length, get_or}
use Rattle.plan_index.specs.Inner.Items.{code_in, side_mask}
use Rattle.plan_index.specs.Inner.Unite.{UnitedItems}
use Rattle.plan_index.proofs.unite.unite.Given as goal

-- what the entries have of the first i items of the order
abbrev pub Passed : (codes masks order : List ℕ) → ℕ → (keys writes reads : List ℕ) → ℕ → Type 0
Passed codes masks order i keys writes reads m =
    UnitedItems (λ x. code_in codes (get_or order x 0)) (λ x. side_mask masks 0 (get_or order x 0)) (λ x. side_mask masks 1 (get_or order x 0)) i keys writes reads m

abbrev pub invariant-loop-i : goal.invariant-loop-i
invariant-loop-i l =
    (length l.keys ≡ length l.initial.keys) × (length l.writes ≡ length l.initial.writes) × (length l.reads ≡ length l.initial.reads) × Passed l.codes l.masks l.order l.i l.keys l.writes l.reads l.m
