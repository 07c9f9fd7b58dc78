-- The set that has every record number.
use Prim.Native.Nat.{ℕ, ◌/◌, ◌%◌, ◌≤◌, ◌<◌}
use mathlib.Core.Path.{◌≡◌, ◌∙◌, ap}
use mathlib.Core.Bool.{Bool, true, not, ◌||◌}
use mathlib.Core.Logic.{⊎_elim}
use native.Mathlib.Omega.{arith}
use borrow.Author.Tests.{le-ltb}
use lib.Dec.{ltb}
use lib.ListN.{replicate, get_or-replicate, get_or}
use Rattle.base.specs.Bits.{bit}
use Rattle.base.proofs.BoolLaws.{or_true}
use Rattle.base.proofs.Numbers.{split_le}
use Rattle.plan_tables.proofs.GroupLaws.{all_in_lem}
use Rattle.plan_index.specs.Inner.Codes.{record_numbers, record_words}
use Rattle.plan_index.specs.Inner.Counting.{is_counted, all_bits}

pub every_counted : (k : ℕ) → is_counted (replicate record_words all_bits) k ≡ true
every_counted k =
    ⊎_elim (λ (h : record_numbers ≤ k). ap (λ (b : Bool). not b || bit (get_or (replicate record_words all_bits) (k / 32) 0) (k % 32)) (le-ltb k record_numbers h))
    (λ (h : k < record_numbers).
    or_true (not (ltb k record_numbers)) (bit (get_or (replicate record_words all_bits) (k / 32) 0) (k % 32))
    (ap (λ (w : ℕ). bit w (k % 32)) (get_or-replicate {A = ℕ} record_words (k / 32) all_bits 0 (omega arith)) ∙ all_in_lem (k % 32) (omega arith)))
    (split_le record_numbers k)
