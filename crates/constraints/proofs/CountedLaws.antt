-- Which allow records count is nothing to a constraint.
use Prim.Native.Nat.{ℕ, zero, suc}
use mathlib.Core.Path.{◌≡◌, refl}
use mathlib.Core.Bool.{Bool, not, ◌||◌}
use Rattle.base.specs.Upto.{all_upto}
use lib.Dec.{eqb}
use Rattle.policy_image.specs.Layout.{root_of, left_of, right_of}
use Rattle.policy_image.specs.Policy.{Policy}
use Rattle.policy_image.specs.Inner.Counting.{counting}
use Rattle.policy_image.specs.OfKind.{every}
use Rattle.context.specs.declared.Context.{Context}
use Rattle.context.specs.declared.Event.{Event}
use Rattle.constraints.specs.Eval.{eval_at, eval_node}
use Rattle.constraints.specs.Constraints.{constrains, constraints_hold}
use Rattle.constraints.proofs.EvalLaws.{op_cong}

module _ (f : ℕ → Bool) (p : Policy) (x y : Context) where
  eval_counted : (steps n : ℕ) → eval_at (counting f p) x y steps n ≡ eval_at p x y steps n
  unfolding eval_at
  eval_counted zero n = refl
  eval_counted (suc s) n =
      op_cong (p.rec n).a (p.rec n).b (left_of (p.rec n)) (right_of (p.rec n)) (left_of (p.rec n)) (right_of (p.rec n)) (λ m. eval_at (counting f p) x y s m) (λ m. eval_at p x y s m) x y (λ _ _. eval_counted s (left_of (p.rec n))) (λ _ _. eval_counted s (right_of (p.rec n)))

  node_counted : (n : ℕ) → eval_node (counting f p) x y n ≡ eval_node p x y n
  unfolding eval_node
  node_counted n = eval_counted n n

  pub constraints_counted : (e : Event) → constraints_hold (counting f p) e x y ≡ constraints_hold p e x y
  unfolding constraints_hold every
  constraints_counted e = λ j. all_upto (λ i. not (eqb (p.rec i).kind 8) || (not (constrains (p.rec i) e) || node_counted (root_of (p.rec i)) j)) p.size
