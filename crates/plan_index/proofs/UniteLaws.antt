-- The loop that unites items: what the entries have where it has passed the first i of them, in the order of their codes.
use mathlib.Core.List.{List}
use Prim.Native.Nat.{ℕ, ◌+◌, ◌<◌}
use lib.ListN.{length, get_or, set}
use Rattle.sorting.specs.Inner.Order.{Ordered}
use Rattle.sorting.specs.Inner.Entries.{code_in, Placed}
use Rattle.sorting.proofs.EntryLaws.{joined, keys_none, unites_none, keys_more, unites_more, keys_all, unites_all}
use Rattle.plan_index.specs.Inner.Unite.{UnitedItems}

pub united_none : (code write read : ℕ → ℕ) (keys writes reads : List ℕ) → UnitedItems code write read 0 keys writes reads 0
united_none code write read keys writes reads =
    record { entries = keys_none code keys; writes = unites_none code write keys writes; reads = unites_none code read keys reads }

pub united_more : {code write read : ℕ → ℕ} {i : ℕ} {keys writes reads : List ℕ} {m r : ℕ} → UnitedItems code write read i keys writes reads m → Placed keys m (code i) r
    → r < length keys → r < length writes → r < length reads
    → UnitedItems code write read (i + 1) (set keys r (code i)) (set writes r (joined writes m r (write i))) (set reads r (joined reads m r (read i))) (r + 1)
united_more {code} {write} {read} {i} {keys} {writes} {reads} {m} {r} U P rk rw' rr =
    record {
      entries = keys_more code i P rk U.entries;
      writes = unites_more code i P rk write writes rw' U.writes;
      reads = unites_more code i P rk read reads rr U.reads;
    }

pub united_all : {codes : List ℕ} {n : ℕ} {order : List ℕ} → Ordered codes n order → {write read : ℕ → ℕ} {keys writes reads : List ℕ} {m : ℕ}
    → UnitedItems (λ x. code_in codes (get_or order x 0)) (λ x. write (get_or order x 0)) (λ x. read (get_or order x 0)) n keys writes reads m → UnitedItems (code_in codes) write read n keys writes reads m
united_all O U = record { entries = keys_all O U.entries; writes = unites_all O U.writes; reads = unites_all O U.reads }
