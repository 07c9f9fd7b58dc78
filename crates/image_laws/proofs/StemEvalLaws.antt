-- The value of a node is the same in a policy made of a list, where the node stands renumbered, as in its own policy; so a constraint that
-- stands there renumbered says what it said.
use Prim.Native.Nat.{ℕ, ◌+◌, ◌*◌, ◌/◌, ◌%◌, ◌≤◌, ◌<◌}
use mathlib.Core.Path.{◌≡◌, refl, sym, ap, ◌∙◌}
use mathlib.Core.Bool.{Bool, false, not, ◌||◌}
use mathlib.Core.List.{List}
use native.Mathlib.Omega.{arith}
use borrow.Author.Tests.{eq-eqb}
use lib.ListN.{length}
use Rattle.base.proofs.BoolLaws.{clash}
use Rattle.policy_image.specs.declared.counts.Counts.{Counts}
use Rattle.policy_image.specs.declared.records.Record.{Record}
use Rattle.policy_image.specs.Layout.{root_of, left_of, right_of}
use Rattle.policy_image.specs.Policy.{Policy}
use Rattle.policy_image.specs.OfKind.{every}
use Rattle.std.specs.Prelude.{Some}
use Rattle.policy_expressions.specs.Nodes.{has_root, use_of, IsNode, NodesInOrder}
use Rattle.policy_expressions.proofs.UseLaws.{use_left, use_right}
use Rattle.policy_lists.specs.Lists.{record_in, policy_from}
use Rattle.policy_lists.specs.Joined.{with_root, renumbered}
use Rattle.policy_lists.proofs.RenumberLaws.{renumbered_kind}
use Rattle.policy_lists.proofs.RenumberUseLaws.{moved_use, moved_cases, use_moved}
use Rattle.context.specs.declared.Context.{Context}
use Rattle.context.specs.declared.Event.{Event}
use Rattle.constraints.specs.Eval.{eval_node}
use Rattle.constraints.specs.Constraints.{constrains, constraints_hold}
use Rattle.image_laws.proofs.CarryLaws.{Carried, carried_value, carried_root, says}
use Rattle.image_laws.proofs.AgreeLaws.{agrees_itself, every_agrees}

-- ---- what renumbering leaves of a record, and what it makes of the nodes that it uses
module _ (to : ℕ → ℕ) (r : Record) where
  pub renumbered_a : (renumbered to r).a ≡ r.a
  renumbered_a = moved_cases to r (λ w. w.a ≡ r.a) (λ x y z. refl) (λ x y z. refl) (λ x y z. refl) (λ x y z. refl)

  pub renumbered_b : (renumbered to r).b ≡ r.b
  renumbered_b = moved_cases to r (λ w. w.b ≡ r.b) (λ x y z. refl) (λ x y z. refl) (λ x y z. refl) (λ x y z. refl)

  -- of a constraint the root alone
  pub renumbered_constraint : r.kind ≡ 8 → renumbered to r ≡ with_root (to (root_of r)) r
  renumbered_constraint k =
      moved_cases to r (λ w. w ≡ with_root (to (root_of r)) r) (λ x y z. refl) (λ x y z. no x) (λ x y z. no x) (λ x y z. no x)
    where
      no : {w : Record} → has_root r ≡ false → w ≡ with_root (to (root_of r)) r
      no x = absurd (clash (eq-eqb r.kind 8 k) x)

  module _ (fits : (n : ℕ) → use_of r 0 ≡ Some n → to n < 65536) (k : r.kind ≡ 9) where
    pub renumbered_left : 1 ≤ r.a → r.a ≤ 3 → left_of (renumbered to r) ≡ to (left_of r)
    renumbered_left a b =
        let n = renumbered_a in
        let w = use_left (renumbered to r) (renumbered_kind to r ∙ k) (omega arith) (omega arith) in
        let e : Some (left_of (renumbered to r)) ≡ Some (to (left_of r)) = sym w ∙ use_moved to r fits 0 ∙ ap (moved_use to) (use_left r k a b) in
        cc

    pub renumbered_right : 2 ≤ r.a → r.a ≤ 3 → right_of (renumbered to r) ≡ to (right_of r)
    renumbered_right a b =
        let n = renumbered_a in
        let w = use_right (renumbered to r) (renumbered_kind to r ∙ k) (omega arith) (omega arith) in
        let e : Some (right_of (renumbered to r)) ≡ Some (to (right_of r)) = sym w ∙ use_moved to r fits 1 ∙ ap (moved_use to) (use_right r k a b) in
        cc

module _ (c : Counts) (l : List Record) (small : length l < 65536) (M : NodesInOrder (policy_from c l)) where
  abbrev made : Policy
  made = policy_from c l

  -- ---- a policy o: where its nodes stand in the result
  module _ (o : Policy) (to : ℕ → ℕ) (O : NodesInOrder o) (is : (n : ℕ) → IsNode o n → IsNode made (to n))
      (at : (n : ℕ) → IsNode o n → record_in l (to n) ≡ renumbered to (o.rec n)) where
    -- numbers of nodes of the result fit two bytes
    used_fits : (i : ℕ) → 1 ≤ i → i ≤ o.size → (n : ℕ) → use_of (o.rec i) 0 ≡ Some n → to n < 65536
    used_fits i a b n h =
        let w = O.well i 0 n (record { low = a; high = b; at = h }) in
        let m = (is n w.node).high in
        omega (arith, m, small)

    pub its_carried : Carried o made to
    its_carried =
        record {
          node = is;
          operator = λ n I. ap (λ (r : Record). r.a) (at n I) ∙ renumbered_a to (o.rec n);
          compared = λ n I. ap (λ (r : Record). r.b) (at n I) ∙ renumbered_b to (o.rec n);
          left = λ n I a b. ap left_of (at n I) ∙ renumbered_left to (o.rec n) (used_fits n I.low I.high) I.nine a b;
          right = λ n I a b. ap right_of (at n I) ∙ renumbered_right to (o.rec n) (used_fits n I.low I.high) I.nine a b;
        }

    pub its_value : (x y : Context) (n : ℕ) → IsNode o n → eval_node made x y (to n) ≡ eval_node o x y n
    its_value = carried_value o made to its_carried O M

    -- a constraint of it, renumbered, says of an event in the result what it says in its own policy
    pub its_constraints : (e : Event) (x y : Context) → every o 8 (λ r. says e x y made (renumbered to r)) ≡ constraints_hold o e x y
    unfolding constraints_hold
    its_constraints e x y =
        every_agrees o o (agrees_itself o) 8 (λ r. says e x y made (renumbered to r)) (says e x y o)
        (λ i K.
        let r = o.rec i in
        let n = to (root_of r) in
        ap (says e x y made) (renumbered_constraint to r K.kind)
        ∙ ap (λ (m : ℕ). not (constrains r e) || eval_node made x y m) (let h : n % 256 + 256 * (n / 256) ≡ n = omega arith in h)
        ∙ ap (λ (b : Bool). not (constrains r e) || b) (carried_root o made to its_carried O M x y i K))
