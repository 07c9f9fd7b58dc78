-- Each arm of the match is the operator's value, pair by pair; the calls at children stand at lower numbers, by question 6, and that is the
-- measure.
use Prim.Native.Nat.{ℕ, ◌≤◌, ◌<◌}
use mathlib.Core.List.{List}
use mathlib.Core.Path.{◌≡◌, sym, subst}
use native.Mathlib.Omega.{arith}
use Rattle.policy_image.specs.Layout.{left_of, right_of}
use Rattle.policy_image.specs.Policy.{Policy, policy_of}
use Rattle.policy_image.specs.declared.records.Record.{Record}
use Rattle.policy_expressions.specs.Nodes.{IsNode}
use Rattle.policy_expressions.proofs.UseLaws.{left_child, right_child}
use Rattle.policy_check.specs.Inner.Sound.{Sound}
use Rattle.constraints.proofs.NodeWordLaws.{node_not, node_and, node_or, node_leaf}
use Rattle.constraints.proofs.+eval.Goals as goal

-- what is known of a node n and its record r: a call at a child asks no more
module _ {s : List ℕ} {n t : ℕ} {r : Record} (S : Sound s) (I : IsNode (policy_of s) n) (same : r ≡ (policy_of s).rec n) (e : n ≡ t) where
  abbrev p : Policy
  p = policy_of s

  -- what a call at m asks
  abbrev Asks : ℕ → Type 0
  Asks m = (m < t) × (Sound s × IsNode p m)

  asks : (m : ℕ) → IsNode p m × (m < n) → Asks m
  asks m q = (subst (λ (u : ℕ). m < u) e q.1, (S, q.0))

  left_asks : 1 ≤ r.a → r.a ≤ 3 → Asks (left_of r)
  left_asks lo hi =
      subst (λ (z : Record). Asks (left_of z)) (sym same)
      (asks (left_of (p.rec n)) (left_child p S.nodes n I (subst (λ (z : Record). 1 ≤ z.a) same lo) (subst (λ (z : Record). z.a ≤ 3) same hi)))

  right_asks : 2 ≤ r.a → r.a ≤ 3 → Asks (right_of r)
  right_asks lo hi =
      subst (λ (z : Record). Asks (right_of z)) (sym same)
      (asks (right_of (p.rec n)) (right_child p S.nodes n I (subst (λ (z : Record). 2 ≤ z.a) same lo) (subst (λ (z : Record). z.a ≤ 3) same hi)))

pub eval-requires : goal.eval-requires
eval-requires t c = left_asks c.requires.0 c.requires.1 c.record_at-r.ensures.same c.decreases (omega arith) (omega arith)

pub eval-requires-in-2 : goal.eval-requires-in-2
eval-requires-in-2 t c = left_asks c.requires.0 c.requires.1 c.record_at-r.ensures.same c.decreases (omega arith) (omega arith)

pub eval-requires-in-2-2 : goal.eval-requires-in-2-2
eval-requires-in-2-2 t c = right_asks c.requires.0 c.requires.1 c.record_at-r.ensures.same c.decreases (omega arith) (omega arith)

pub eval-requires-in-3 : goal.eval-requires-in-3
eval-requires-in-3 t c = left_asks c.requires.0 c.requires.1 c.record_at-r.ensures.same c.decreases (omega arith) (omega arith)

pub eval-requires-in-3-2 : goal.eval-requires-in-3-2
eval-requires-in-3-2 t c = right_asks c.requires.0 c.requires.1 c.record_at-r.ensures.same c.decreases (omega arith) (omega arith)

-- not, and, or, a leaf
pub returns-in-1 : goal.returns-in-1
returns-in-1 t c = node_not c.requires.0.nodes c.requires.1 c.record_at-r.ensures.same c.in-1.is c.eval.ensures c.flipped.ensures

pub returns-in-2 : goal.returns-in-2
returns-in-2 t c = node_and c.requires.0.nodes c.requires.1 c.record_at-r.ensures.same c.in-2.is c.eval-in-2.ensures c.eval-in-2-2.ensures

pub returns-in-3 : goal.returns-in-3
returns-in-3 t c = node_or c.requires.0.nodes c.requires.1 c.record_at-r.ensures.same c.in-3.is c.eval-in-3.ensures c.eval-in-3-2.ensures

pub returns-in_default : goal.returns-in_default
returns-in_default t c =
    let u = c.in_default.in_default-own.rest in
    node_leaf c.requires.0.nodes c.requires.1 c.record_at-r.ensures.same u.0.0.1 u.0.1 u.1 c.leaf.ensures
