-- The loop keeps `Extracting`, whose laws say what the items are at the chain's end.
use mathlib.Core.Path.{◌≡◌}
use lib.ListN.{length}
use Rattle.plan_index.specs.Inner.Counting.{is_counted}
use Rattle.plan_index.proofs.ExtractLaws.{Extracting}
use Rattle.plan_index.proofs.extract.extract.Given as goal

abbrev pub invariant-loop-i : goal.invariant-loop-i
invariant-loop-i l =
    (length l.codes ≡ length l.initial.codes) × (length l.masks ≡ length l.initial.masks)
    × Extracting l.policy (is_counted l.counted) l.perms l.codes l.masks l.n l.i-iterator.records
