-- Question 6 of policies that no image states: only records 1 to N use nodes, and only they are nodes. In an image what stands beside
-- its records is read as no record at all, so that no image tells these apart.
use Prim.Native.Nat.{ℕ, zero, suc}
use mathlib.Core.Bool.{true}
use mathlib.Core.Path.{refl}
use native.Mathlib.Omega.{arith}
use Rattle.policy_image.specs.declared.counts.Counts.{Counts}
use Rattle.policy_image.specs.declared.records.Record.{Record}
use Rattle.policy_image.specs.Policy.{Policy}
use Rattle.policy_expressions.specs.Nodes.{use_of, NodesInOrder}

abbrev counts : ℕ → Counts
counts size = record { types = 1; roles = 1; users = 1; classes = 1; records = size }

-- a node with the operator not and the left n, and a constraint with the root n
abbrev not_of : ℕ → Record
not_of n = record { next = 0; kind = 9; a = 1; b = 0; c = 0; d = 0; e = 0; mask = n }

abbrev constraint_of : ℕ → Record
constraint_of n = record { next = 0; kind = 8; a = 1; b = 0; c = 0; d = n; e = 0; mask = 1 }

abbrev policy_with : ℕ → (ℕ → Record) → Policy
policy_with size records = record { counts = counts size; size = size; head = λ k. 0; rec = records; counted = λ i. true }

-- there is no record, whatever stands at the numbers from 0 on: it uses nothing
pub no_record_no_use : NodesInOrder (policy_with 0 (λ i. not_of 1))
no_record_no_use =
    record {
      well = λ i s n u. absurd (omega (arith, u.low, u.high));
      once = λ i s j t n u v. absurd (omega (arith, u.low, u.high));
    }

-- one record, a constraint, and a node beside it, at 0 or at 2: its root is none of records 1 to 1
abbrev before : ℕ → Record
before zero = not_of 0
before (suc i) = constraint_of 0

abbrev behind : ℕ → Record
behind zero = constraint_of 2
behind (suc zero) = constraint_of 2
behind (suc (suc i)) = not_of 0

pub root_before_records : NodesInOrder (policy_with 1 before) → ⊥
unfolding use_of
root_before_records N = omega (arith, (N.well 1 0 0 (record { low = omega arith; high = omega arith; at = refl })).node.low)

pub root_behind_records : NodesInOrder (policy_with 1 behind) → ⊥
unfolding use_of
root_behind_records N = omega (arith, (N.well 1 0 2 (record { low = omega arith; high = omega arith; at = refl })).node.high)
