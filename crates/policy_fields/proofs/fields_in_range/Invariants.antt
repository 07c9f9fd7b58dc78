use Prim.Native.Nat.{ℕ, ◌≤◌, ◌<◌}
use Rattle.policy_image.specs.Policy.{policy_of}
use Rattle.policy_fields.specs.Fields.{Fits}
use Rattle.policy_fields.proofs.fields_in_range.Given as goal

abbrev pub invariant-loop-i : goal.invariant-loop-i
invariant-loop-i l = (j : ℕ) → 1 ≤ j → j < l.i → Fits (policy_of l.image).counts ((policy_of l.image).rec j)
