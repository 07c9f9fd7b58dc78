use Rattle.base.proofs.Decide.{yes_of, no_of}
use Rattle.policy_image.specs.Layout.{record_count, counts_of}
use mathlib.Core.Path.{refl}
use mathlib.Core.Logic.{inl, inr}
use native.Mathlib.Omega.{arith}
use borrow.Author.Rules.{rules}
use Rattle.policy_image.proofs.counts.check_counts.Goals as goal

pub returns-then-image-lt-HEADER : goal.returns-then-image-lt-HEADER
unfolding record_count
returns-then-image-lt-HEADER c = inl ((λ e. omega arith), refl)

pub returns-then-n-gt-MOST_RECORDS : goal.returns-then-n-gt-MOST_RECORDS
unfolding record_count
returns-then-n-gt-MOST_RECORDS c = inl ((λ e. omega arith), refl)

pub returns-then-image-n : goal.returns-then-image-n
unfolding record_count
returns-then-image-n c = inl ((λ e. omega arith), refl)

pub returns-then-counts_in_range : goal.returns-then-counts_in_range
unfolding record_count counts_of
returns-then-counts_in_range c =
    let h = yes_of c.counts_in_range.result c.counts_in_range.ensures c.if-counts_in_range.true in
    (record { exact = search rules; same = cc; size = omega arith }, (search rules, (omega arith, tt)))

pub returns-else-counts_in_range : goal.returns-else-counts_in_range
unfolding record_count counts_of
returns-else-counts_in_range c = inr (search rules, inl ((λ r. no_of c.counts_in_range.result c.counts_in_range.ensures c.if-counts_in_range.false (omega arith)), refl))
