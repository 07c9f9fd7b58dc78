use Prim.Native.Nat.{ℕ, ◌+◌, ◌≤◌}
use mathlib.Core.Path.{◌≡◌, refl}
use native.Mathlib.Omega.{arith}
use Rattle.search_constraints.proofs.MarkLaws.{mark_by, mark_none}
use Rattle.search_constraints.proofs.marks.mark_of.Goals as goal

-- three numbers in a row ruled out
three : (k n : ℕ) → k ≤ n → (n ≡ k → ⊥) → (n ≡ k + 1 → ⊥) → (n ≡ k + 2 → ⊥) → k + 3 ≤ n
three k n h a b c = omega arith

pub returns-in-7 : goal.returns-in-7
returns-in-7 c = mark_by 7 _ c.in-7.is (omega arith)

pub returns-in-8 : goal.returns-in-8
returns-in-8 c = mark_by 8 _ c.in-8.is (omega arith)

pub returns-in-9 : goal.returns-in-9
returns-in-9 c = mark_by 9 _ c.in-9.is refl

pub returns-in-10 : goal.returns-in-10
returns-in-10 c = mark_by 10 _ c.in-10.is refl

pub returns-in-11 : goal.returns-in-11
returns-in-11 c = mark_by 11 _ c.in-11.is refl

pub returns-in-12 : goal.returns-in-12
returns-in-12 c = mark_by 12 _ c.in-12.is refl

pub returns-in_default : goal.returns-in_default
returns-in_default c =
    let op = c.args.op in
    let u = c.in_default.in_default-own.rest in
    let q = u.0.0.0 in
    mark_none _ _ (λ lo hi.
    let h = three 10 op (three 7 op (three 4 op lo q.0.0.0.0.0.1 q.0.0.0.0.1 q.0.0.0.1) q.0.0.1 q.0.1 q.1) u.0.0.1 u.0.1 u.1 in
    omega (arith, h, hi))
