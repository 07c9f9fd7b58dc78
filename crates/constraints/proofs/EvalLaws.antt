-- The value of a node is its operator's value over the values of its children, with no steps counted. It rests on question 6:
-- a node's children stand at lower numbers, so that as many steps as the node's number are enough.
use Prim.Native.Nat.{ℕ, zero, suc, ◌≤◌}
use mathlib.Core.Path.{◌≡◌, refl, ap, ap₂, ◌∙◌}
use mathlib.Core.Bool.{Bool, false, not, ◌&&◌, ◌||◌}
use native.Mathlib.Omega.{arith}
use native.Mathlib.Nat.{le_refl}
use Rattle.base.proofs.Numbers.{table_other}
use Rattle.policy_image.specs.Layout.{left_of, right_of}
use Rattle.policy_image.specs.Policy.{Policy}
use Rattle.policy_expressions.specs.Nodes.{IsNode, NodesInOrder}
use Rattle.policy_expressions.proofs.UseLaws.{left_child, right_child}
use Rattle.context.specs.declared.Context.{Context}
use Rattle.constraints.specs.Eval.{Value, never, operators, value_of, eval_at, eval_node}

-- the value of an operator rests on the values of the children that the operator has, whatever their numbers are
pub op_cong : (op b l r l' r' : ℕ) (u v : ℕ → Bool) (x y : Context) → (1 ≤ op → op ≤ 3 → u l ≡ v l') → (2 ≤ op → op ≤ 3 → u r ≡ v r')
    → value_of op b l r u x y ≡ value_of op b l' r' v x y
op_cong zero b l r l' r' u v x y f g = refl
op_cong (suc zero) b l r l' r' u v x y f g = ap not (f (omega arith) (omega arith))
op_cong (suc (suc zero)) b l r l' r' u v x y f g = ap₂ ◌&&◌ (f (omega arith) (omega arith)) (g (omega arith) (omega arith))
op_cong (suc (suc (suc zero))) b l r l' r' u v x y f g = ap₂ ◌||◌ (f (omega arith) (omega arith)) (g (omega arith) (omega arith))
op_cong (suc (suc (suc (suc zero)))) b l r l' r' u v x y f g = refl
op_cong (suc (suc (suc (suc (suc zero))))) b l r l' r' u v x y f g = refl
op_cong (suc (suc (suc (suc (suc (suc zero)))))) b l r l' r' u v x y f g = refl
op_cong (suc (suc (suc (suc (suc (suc (suc zero))))))) b l r l' r' u v x y f g = refl
op_cong (suc (suc (suc (suc (suc (suc (suc (suc zero)))))))) b l r l' r' u v x y f g = refl
op_cong (suc (suc (suc (suc (suc (suc (suc (suc (suc zero))))))))) b l r l' r' u v x y f g = refl
op_cong (suc (suc (suc (suc (suc (suc (suc (suc (suc (suc zero)))))))))) b l r l' r' u v x y f g = refl
op_cong (suc (suc (suc (suc (suc (suc (suc (suc (suc (suc (suc zero))))))))))) b l r l' r' u v x y f g = refl
op_cong (suc (suc (suc (suc (suc (suc (suc (suc (suc (suc (suc (suc zero)))))))))))) b l r l' r' u v x y f g = refl
op_cong (suc (suc (suc (suc (suc (suc (suc (suc (suc (suc (suc (suc (suc n))))))))))))) b l r l' r' u v x y f g = refl

-- any number but 1 to 12 is no operator
pub op_other : (op b l r : ℕ) (v : ℕ → Bool) (x y : Context) → (1 ≤ op → op ≤ 12 → ⊥) → value_of op b l r v x y ≡ false
op_other op b l r v x y h = ap (λ (f : Value). f v x y) (table_other (operators b l r) never op refl (λ i j. h i (omega arith)))

module _ (p : Policy) (N : NodesInOrder p) (x y : Context) where
  -- more steps than the node's number change nothing
  eval_fuel : (f g n : ℕ) → IsNode p n → n ≤ f → n ≤ g → eval_at p x y f n ≡ eval_at p x y g n
  unfolding eval_at
  eval_fuel zero g n I h k = let z : ⊥ = omega (arith, I.low) in absurd z
  eval_fuel (suc f) zero n I h k = let z : ⊥ = omega (arith, I.low) in absurd z
  eval_fuel (suc f) (suc g) n I h k =
      op_cong (p.rec n).a (p.rec n).b (left_of (p.rec n)) (right_of (p.rec n)) (left_of (p.rec n)) (right_of (p.rec n)) (λ m. eval_at p x y f m) (λ m. eval_at p x y g m) x y
      (λ a b. let q = left_child p N n I a b in eval_fuel f g (left_of (p.rec n)) q.0 (omega (arith, q.1)) (omega (arith, q.1)))
      (λ a b. let q = right_child p N n I a b in eval_fuel f g (right_of (p.rec n)) q.0 (omega (arith, q.1)) (omega (arith, q.1)))

  -- the definition with no steps counted
  pub eval_step : (n : ℕ) → IsNode p n → eval_node p x y n ≡ value_of (p.rec n).a (p.rec n).b (left_of (p.rec n)) (right_of (p.rec n)) (eval_node p x y) x y
  unfolding eval_node eval_at
  eval_step zero I = let z : ⊥ = omega (arith, I.low) in absurd z
  eval_step (suc m) I =
      let n = suc m in
      op_cong (p.rec n).a (p.rec n).b (left_of (p.rec n)) (right_of (p.rec n)) (left_of (p.rec n)) (right_of (p.rec n)) (λ k. eval_at p x y m k) (eval_node p x y) x y
      (λ a b. let q = left_child p N n I a b in eval_fuel m (left_of (p.rec n)) (left_of (p.rec n)) q.0 (omega (arith, q.1)) (le_refl _))
      (λ a b. let q = right_child p N n I a b in eval_fuel m (right_of (p.rec n)) (right_of (p.rec n)) q.0 (omega (arith, q.1)) (le_refl _))

  -- the same by the operator's number
  pub eval_by : (n : ℕ) → IsNode p n → (k : ℕ) → (p.rec n).a ≡ k → eval_node p x y n ≡ value_of k (p.rec n).b (left_of (p.rec n)) (right_of (p.rec n)) (eval_node p x y) x y
  eval_by n I k e =
      eval_step n I ∙ ap (λ (o : ℕ). value_of o (p.rec n).b (left_of (p.rec n)) (right_of (p.rec n)) (eval_node p x y) x y) e
