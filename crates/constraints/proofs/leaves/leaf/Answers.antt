use Prim.Native.Nat.{ℕ, ◌+◌, ◌≤◌, ◌<◌}
use mathlib.Core.Path.{◌≡◌}
use native.Mathlib.Omega.{arith}
use Rattle.constraints.proofs.LeafLaws.{leaf_other}
use Rattle.constraints.proofs.leaves.leaf.Goals.{Start}
use Rattle.constraints.proofs.leaves.leaf.Goals as goal

-- the number that a role or a user is compared with is small
few : (s : Start) (k : ℕ) → s.args.op ≡ k → 9 ≤ k → k ≤ 12 → s.args.b < 16
few s k e lo hi = s.requires.3 (omega arith) (omega arith)

-- six numbers in a row ruled out
six : (k n : ℕ) → k ≤ n → (n ≡ k → ⊥) → (n ≡ k + 1 → ⊥) → (n ≡ k + 2 → ⊥) → (n ≡ k + 3 → ⊥) → (n ≡ k + 4 → ⊥) → (n ≡ k + 5 → ⊥) → k + 6 ≤ n
six k n h a b c d e f = omega arith

pub returns-in_default : goal.returns-in_default
returns-in_default c =
    let op = c.args.op in
    let p = c.requires in
    let u = c.in_default.in_default-own.rest in
    let q = u.0.0.0 in
    leaf_other (λ lo hi.
    let h = six 7 op (six 1 op lo p.0 p.1 p.2 q.0.0.0.0.0.1 q.0.0.0.0.1 q.0.0.0.1) q.0.0.1 q.0.1 q.1 u.0.0.1 u.0.1 u.1 in
    omega (arith, h, hi))
