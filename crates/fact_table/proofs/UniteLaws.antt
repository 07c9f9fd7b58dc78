-- The loop that unites facts: what the entries have where it has passed the first i of them, in the order of their codes.
use mathlib.Core.List.{List}
use Prim.Native.Nat.{ℕ, ◌+◌, ◌<◌}
use lib.ListN.{length, get_or, set}
use Rattle.sorting.specs.Inner.Order.{Ordered}
use Rattle.sorting.specs.Inner.Entries.{code_in, Placed}
use Rattle.sorting.proofs.EntryLaws.{joined, keys_none, unites_none, keys_more, unites_more, keys_all, unites_all}
use Rattle.fact_table.specs.Inner.Unite.{UnitedFacts}

pub united_none : (code give : ℕ → ℕ) (keys masks : List ℕ) → UnitedFacts code give 0 keys masks 0
united_none code give keys masks = record { entries = keys_none code keys; united = unites_none code give keys masks }

pub united_more : {code give : ℕ → ℕ} {i : ℕ} {keys masks : List ℕ} {m r : ℕ} → UnitedFacts code give i keys masks m → Placed keys m (code i) r → r < length keys → r < length masks
    → UnitedFacts code give (i + 1) (set keys r (code i)) (set masks r (joined masks m r (give i))) (r + 1)
united_more {code} {give} {i} {keys} {masks} {m} {r} U P rk rm =
    record { entries = keys_more code i P rk U.entries; united = unites_more code i P rk give masks rm U.united }

pub united_all : {codes : List ℕ} {n : ℕ} {order : List ℕ} → Ordered codes n order → {give : ℕ → ℕ} {keys masks : List ℕ} {m : ℕ}
    → UnitedFacts (λ x. code_in codes (get_or order x 0)) (λ x. give (get_or order x 0)) n keys masks m → UnitedFacts (code_in codes) give n keys masks m
united_all O U = record { entries = keys_all O U.entries; united = unites_all O U.united }
