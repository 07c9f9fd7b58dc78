-- Each operator's equation (paper 01, kind 9), for every node of every policy that passes question 6.
use Prim.Native.Nat.{ℕ, ◌≤◌}
use mathlib.Core.Path.{◌≡◌, refl, ◌∙◌}
use mathlib.Core.Bool.{false, not, ◌&&◌, ◌||◌}
use lib.Dec.{eqb}
use Rattle.policy_image.specs.Layout.{left_of, right_of}
use Rattle.policy_image.specs.Policy.{Policy}
use Rattle.policy_expressions.specs.Nodes.{IsNode, NodesInOrder}
use Rattle.context.specs.declared.Context.{Context}
use Rattle.constraints.specs.Eval.{eval_node}
use Rattle.constraints.proofs.EvalLaws.{eval_by, op_other}

module _ (p : Policy) (N : NodesInOrder p) (x y : Context) (n : ℕ) (I : IsNode p n) where
  pub eval_not : (p.rec n).a ≡ 1 → eval_node p x y n ≡ not (eval_node p x y (left_of (p.rec n)))
  eval_not = eval_by p N x y n I 1

  pub eval_and : (p.rec n).a ≡ 2 → eval_node p x y n ≡ (eval_node p x y (left_of (p.rec n)) && eval_node p x y (right_of (p.rec n)))
  eval_and = eval_by p N x y n I 2

  pub eval_or : (p.rec n).a ≡ 3 → eval_node p x y n ≡ (eval_node p x y (left_of (p.rec n)) || eval_node p x y (right_of (p.rec n)))
  eval_or = eval_by p N x y n I 3

  pub eval_same_type : (p.rec n).a ≡ 4 → eval_node p x y n ≡ eqb x.ty y.ty
  eval_same_type = eval_by p N x y n I 4

  pub eval_same_role : (p.rec n).a ≡ 5 → eval_node p x y n ≡ eqb x.role y.role
  eval_same_role = eval_by p N x y n I 5

  pub eval_same_user : (p.rec n).a ≡ 6 → eval_node p x y n ≡ eqb x.user y.user
  eval_same_user = eval_by p N x y n I 6

  pub eval_t1 : (p.rec n).a ≡ 7 → eval_node p x y n ≡ eqb x.ty (p.rec n).b
  eval_t1 = eval_by p N x y n I 7

  pub eval_t2 : (p.rec n).a ≡ 8 → eval_node p x y n ≡ eqb y.ty (p.rec n).b
  eval_t2 = eval_by p N x y n I 8

  pub eval_r1 : (p.rec n).a ≡ 9 → eval_node p x y n ≡ eqb x.role (p.rec n).b
  eval_r1 = eval_by p N x y n I 9

  pub eval_r2 : (p.rec n).a ≡ 10 → eval_node p x y n ≡ eqb y.role (p.rec n).b
  eval_r2 = eval_by p N x y n I 10

  pub eval_u1 : (p.rec n).a ≡ 11 → eval_node p x y n ≡ eqb x.user (p.rec n).b
  eval_u1 = eval_by p N x y n I 11

  pub eval_u2 : (p.rec n).a ≡ 12 → eval_node p x y n ≡ eqb y.user (p.rec n).b
  eval_u2 = eval_by p N x y n I 12

  -- any other number, which question 5 rules out
  pub eval_other : (1 ≤ (p.rec n).a → (p.rec n).a ≤ 12 → ⊥) → eval_node p x y n ≡ false
  eval_other h = eval_by p N x y n I (p.rec n).a refl ∙ op_other (p.rec n).a _ _ _ _ _ _ h
