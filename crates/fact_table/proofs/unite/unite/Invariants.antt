-- Fact after fact, in the order of their codes: the loop keeps `UnitedFacts` for those that it has passed.
use mathlib.Core.Path.{◌≡◌}
use mathlib.Core.List.{List}
use Prim.Native.Nat.{ℕ}
use lib.ListN.{length, get_or}
use Rattle.sorting.specs.Inner.Entries.{code_in}
use Rattle.fact_table.specs.Inner.Unite.{UnitedFacts}
use Rattle.fact_table.proofs.unite.unite.Given as goal

-- what the entries have of the first i facts of the order
abbrev pub Passed : (codes given order : List ℕ) → ℕ → (keys masks : List ℕ) → ℕ → Type 0
Passed codes given order i keys masks m = UnitedFacts (λ x. code_in codes (get_or order x 0)) (λ x. code_in given (get_or order x 0)) i keys masks m

abbrev pub invariant-loop-i : goal.invariant-loop-i
invariant-loop-i l =
    (length l.keys ≡ length l.initial.keys)
    × (length l.masks ≡ length l.initial.masks)
    × Passed l.codes l.given l.order l.i l.keys l.masks l.m
