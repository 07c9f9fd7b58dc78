-- The value of a node rests on its operator, the number that it compares with and the values of its children: nodes that stand in another
-- policy too, at other numbers, have the same values there.
use Prim.Native.Nat.{ℕ, zero, suc, ◌≤◌}
use mathlib.Core.Path.{◌≡◌, sym, ap, ap₂, ◌∙◌}
use mathlib.Core.Bool.{Bool, not, ◌||◌}
use native.Mathlib.Omega.{arith}
use native.Mathlib.Nat.{le_refl}
use Rattle.policy_image.specs.declared.records.Record.{Record}
use Rattle.policy_image.specs.Layout.{root_of, left_of, right_of}
use Rattle.policy_image.specs.Policy.{Policy}
use Rattle.policy_links.proofs.KindLaws.{OfKind}
use Rattle.policy_expressions.specs.Nodes.{IsNode, NodesInOrder}
use Rattle.policy_expressions.proofs.UseLaws.{use_root, left_child, right_child}
use Rattle.context.specs.declared.Context.{Context}
use Rattle.context.specs.declared.Event.{Event}
use Rattle.constraints.specs.Eval.{value_of, eval_node}
use Rattle.constraints.specs.Constraints.{constrains}
use Rattle.constraints.proofs.EvalLaws.{op_cong, eval_step}

-- node n of the policy o is node `to n` of the policy j, and so are its children, where its operator has them
pub record Carried (o j : Policy) (to : ℕ → ℕ) : Type 0 where
  pub node : (n : ℕ) → IsNode o n → IsNode j (to n)
  pub operator : (n : ℕ) → IsNode o n → (j.rec (to n)).a ≡ (o.rec n).a
  pub compared : (n : ℕ) → IsNode o n → (j.rec (to n)).b ≡ (o.rec n).b
  pub left : (n : ℕ) → IsNode o n → 1 ≤ (o.rec n).a → (o.rec n).a ≤ 3 → left_of (j.rec (to n)) ≡ to (left_of (o.rec n))
  pub right : (n : ℕ) → IsNode o n → 2 ≤ (o.rec n).a → (o.rec n).a ≤ 3 → right_of (j.rec (to n)) ≡ to (right_of (o.rec n))

module _ (o j : Policy) (to : ℕ → ℕ) (C : Carried o j to) (N : NodesInOrder o) (M : NodesInOrder j) (x y : Context) where
  -- children stand at lower numbers
  value_upto : (k n : ℕ) → n ≤ k → IsNode o n → eval_node j x y (to n) ≡ eval_node o x y n
  value_upto zero n h I = let z : ⊥ = omega (arith, I.low) in absurd z
  value_upto (suc k) n h I =
      let s = o.rec n in
      let t = j.rec (to n) in
      eval_step j M x y (to n) (C.node n I)
      ∙ ap₂ (λ (a b : ℕ). value_of a b (left_of t) (right_of t) (eval_node j x y) x y) (C.operator n I) (C.compared n I)
      ∙ op_cong s.a s.b (left_of t) (right_of t) (left_of s) (right_of s) (eval_node j x y) (eval_node o x y) x y
      (λ a b. let q = left_child o N n I a b in ap (eval_node j x y) (C.left n I a b) ∙ value_upto k (left_of s) (omega (arith, q.1)) q.0)
      (λ a b. let q = right_child o N n I a b in ap (eval_node j x y) (C.right n I a b) ∙ value_upto k (right_of s) (omega (arith, q.1)) q.0)
      ∙ sym (eval_step o N x y n I)

  pub carried_value : (n : ℕ) → IsNode o n → eval_node j x y (to n) ≡ eval_node o x y n
  carried_value n I = value_upto n n (le_refl n) I

  -- the root of a constraint
  pub carried_root : (i : ℕ) → OfKind o 8 i → eval_node j x y (to (root_of (o.rec i))) ≡ eval_node o x y (root_of (o.rec i))
  carried_root i K =
      carried_value (root_of (o.rec i))
      (N.well i 0 (root_of (o.rec i)) (record { low = K.low; high = K.high; at = use_root (o.rec i) K.kind })).node

-- what a constraint says of an event, its root being a node of the policy j
abbrev pub says : Event → Context → Context → Policy → Record → Bool
says e x y j r = not (constrains r e) || eval_node j x y (root_of r)
