use Prim.Native.Nat.{ℕ}
use mathlib.Core.Path.{◌≡◌}
use mathlib.Core.List.{List}
use lib.ListN.{length}
use Rattle.policy_image.specs.Policy.{policy_of}
use Rattle.policy_lists.specs.Joined.{joined_kind, joined}
use Rattle.policy_lists.proofs.PlaceLaws.{ending}
use Rattle.policy_runs.proofs.RunImageLaws.{RecordsTo}
use Rattle.join.proofs.write.Given as goal

abbrev pub ends_in : List ℕ → List ℕ → ℕ → ℕ
ends_in maker board k = ending (joined_kind (policy_of maker) (policy_of board)) k

abbrev pub invariant-loop-kind : goal.invariant-loop-kind
invariant-loop-kind l =
    (length l.output ≡ length l.initial.output)
    × RecordsTo (joined (policy_of l.maker) (policy_of l.board)) (ends_in l.maker l.board l.kind-index) l.initial.output l.output
