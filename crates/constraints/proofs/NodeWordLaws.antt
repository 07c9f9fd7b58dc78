-- The value of a node and of all constraints on an event, pair by pair.
use Prim.Native.Nat.{ℕ, ◌≤◌, ◌<◌}
use mathlib.Core.Path.{◌≡◌, refl, sym, ap, subst, ◌∙◌}
use mathlib.Core.Bool.{Bool, true, false, not, ◌||◌}
use mathlib.Core.List.{List}
use mathlib.Core.Logic.{⊎_elim}
use native.Mathlib.Omega.{arith}
use lib.Bits.{bit_and, bit_or}
use Rattle.base.specs.Bits.{bit}
use Rattle.base.proofs.BitLaws.{bit_and_lem}
use Rattle.base.proofs.BoolLaws.{and_first, and_second, and_true, true_or_false, clash}
use Rattle.base.proofs.Numbers.{two_of, split_le}
use Rattle.policy_image.specs.declared.records.Record.{Record}
use Rattle.policy_image.specs.Layout.{left_of, right_of, root_of}
use Rattle.policy_image.specs.Policy.{Policy, policy_of}
use Rattle.policy_links.proofs.KindLaws.{OfKind, every_yes, every_no}
use Rattle.policy_fields.specs.Fields.{WithinLimits, limits_of}
use Rattle.policy_expressions.specs.Nodes.{IsNode, NodesInOrder}
use Rattle.policy_check.specs.Inner.Sound.{Sound}
use Rattle.context.specs.declared.Context.{Context}
use Rattle.context.specs.declared.Event.{Event}
use Rattle.constraints.specs.Eval.{value_of, eval_node}
use Rattle.constraints.specs.Constraints.{constrains, constraints_hold}
use Rattle.constraints.specs.Inner.Words.{Word, LeavesOf, LeafWord, NodeWord, ConstraintWord, EventWord}
use Rattle.constraints.proofs.EvalLaws.{op_cong, eval_by}
use Rattle.constraints.proofs.WordLaws.{all_bits_lem, word_and, word_or, word_map}

-- the number that a node compares a role or a user with is small
pub number_few : {s : List ℕ} {n : ℕ} {r : Record} → Sound s → IsNode (policy_of s) n → r ≡ (policy_of s).rec n → 9 ≤ r.a → r.a ≤ 12 → r.b < 16
number_few {s} {n} {r} S I same lo hi =
    ⊎_elim (λ (h : 11 ≤ r.a). two_of Few 11 r.a h (omega arith) (users 11) (users 12) fields)
    (λ (h : r.a < 11). two_of Few 9 r.a lo (omega arith) (roles 9) (roles 10) fields) (split_le 11 r.a)
  where
    Few : ℕ → Type 0
    Few op = WithinLimits (limits_of (policy_of s).counts 9 op) r → r.b < 16

    fields : WithinLimits (limits_of (policy_of s).counts 9 r.a) r
    fields =
        subst (λ (z : Record). WithinLimits (limits_of (policy_of s).counts 9 z.a) z) (sym same)
        (subst (λ (k : ℕ). WithinLimits (limits_of (policy_of s).counts k ((policy_of s).rec n).a) ((policy_of s).rec n)) I.nine (S.fields.each n I.low I.high))

    roles : (op : ℕ) → WithinLimits (limits_of (policy_of s).counts 9 9) r → r.b < 16
    roles op F = omega (arith, F.b.high, S.range.roles.high)

    users : (op : ℕ) → WithinLimits (limits_of (policy_of s).counts 9 11) r → r.b < 16
    users op F = omega (arith, F.b.high, S.range.users.high)

-- ---- a node, by its operator: r is its record
module _ {p : Policy} (N : NodesInOrder p) {n : ℕ} (I : IsNode p n) {r : Record} (same : r ≡ p.rec n) where
  by : (k : ℕ) → r.a ≡ k → (x y : Context) → value_of k r.b (left_of r) (right_of r) (eval_node p x y) x y ≡ eval_node p x y n
  by k e x y =
      sym (subst (λ (z : Record). z.a ≡ k → eval_node p x y n ≡ value_of k z.b (left_of z) (right_of z) (eval_node p x y) x y) (sym same) (eval_by p N x y n I k) e)

  pub node_not : {leaves : List ℕ} {v w : ℕ} → r.a ≡ 1 → NodeWord p leaves (left_of r) v → Word 64 (λ j. not (bit v j)) w → NodeWord p leaves n w
  node_not e Q F = record { of = λ m xs ys L. record { at = λ j h. F.at j (omega (arith, L.few)) ∙ ap not ((Q.of m xs ys L).at j h) ∙ by 1 e (xs j) (ys j) } }

  pub node_and : {leaves : List ℕ} {v w : ℕ} → r.a ≡ 2 → NodeWord p leaves (left_of r) v → NodeWord p leaves (right_of r) w → NodeWord p leaves n (bit_and v w)
  node_and e Q W = record { of = λ m xs ys L. word_map (λ j h. by 2 e (xs j) (ys j)) (word_and (Q.of m xs ys L) (W.of m xs ys L)) }

  pub node_or : {leaves : List ℕ} {v w : ℕ} → r.a ≡ 3 → NodeWord p leaves (left_of r) v → NodeWord p leaves (right_of r) w → NodeWord p leaves n (bit_or v w)
  node_or e Q W = record { of = λ m xs ys L. word_map (λ j h. by 3 e (xs j) (ys j)) (word_or (Q.of m xs ys L) (W.of m xs ys L)) }

  pub node_leaf : {leaves : List ℕ} {w : ℕ} → (r.a ≡ 1 → ⊥) → (r.a ≡ 2 → ⊥) → (r.a ≡ 3 → ⊥) → LeafWord leaves r.a r.b w → NodeWord p leaves n w
  node_leaf a b c W =
      record {
        of = λ m xs ys L. word_map
            (λ j h. op_cong r.a r.b 0 0 (left_of r) (right_of r) (λ _. false) (eval_node p (xs j) (ys j)) (xs j) (ys j)
            (λ lo hi. absurd (let z : ⊥ = omega (arith, a, b, c) in z)) (λ lo hi. absurd (let z : ⊥ = omega (arith, b, c) in z))
            ∙ by r.a refl (xs j) (ys j))
            (W.of m xs ys L);
      }

-- ---- a constraint
module _ {p : Policy} {c : Record} {e : Event} {leaves : List ℕ} where
  pub constraint_off : constrains c e ≡ false → ConstraintWord p c e leaves 18446744073709551615
  constraint_off f =
      record { of = λ m xs ys L. record { at = λ j h. all_bits_lem j (omega (arith, L.few)) ∙ sym (ap (λ (b : Bool). not b || eval_node p (xs j) (ys j) (root_of c)) f) } }

  pub constraint_on : {w : ℕ} → constrains c e ≡ true → NodeWord p leaves (root_of c) w → ConstraintWord p c e leaves w
  constraint_on t W = record { of = λ m xs ys L. word_map (λ j h. sym (ap (λ (b : Bool). not b || eval_node p (xs j) (ys j) (root_of c)) t)) (W.of m xs ys L) }

-- ---- all constraints: what is asked of each
abbrev pub holds : Policy → Event → Context → Context → Record → Bool
holds p e x y c = not (constrains c e) || eval_node p x y (root_of c)

-- record j holds of the pairs that are left
pub record Upheld (p : Policy) (e : Event) (leaves : List ℕ) (left j : ℕ) : Type 0 where
  pub of : (m : ℕ) (xs ys : ℕ → Context) → LeavesOf leaves m xs ys → (k : ℕ) → k < m → bit left k ≡ true → holds p e (xs k) (ys k) (p.rec j) ≡ true

-- of the others some constraint does not hold
pub record Lost (p : Policy) (e : Event) (leaves : List ℕ) (left : ℕ) : Type 0 where
  pub of : (m : ℕ) (xs ys : ℕ → Context) → LeavesOf leaves m xs ys → (k : ℕ) → k < m → bit left k ≡ false → constraints_hold p e (xs k) (ys k) ≡ false

pub lost_begin : (p : Policy) (e : Event) (leaves : List ℕ) → Lost p e leaves 18446744073709551615
lost_begin p e leaves = record { of = λ m xs ys L k h f. absurd (clash (all_bits_lem k (omega (arith, L.few))) f) }

module _ {p : Policy} {e : Event} {leaves : List ℕ} (left w : ℕ) where
  pub upheld_less : (j : ℕ) → Upheld p e leaves left j → Upheld p e leaves (bit_and left w) j
  upheld_less j U = record { of = λ m xs ys L k h t. U.of m xs ys L k h (and_first (bit left k) (bit w k) (sym (bit_and_lem left w k) ∙ t)) }

  module _ {i : ℕ} {c : Record} (same : c ≡ p.rec i) (W : ConstraintWord p c e leaves w) where
    pub upheld_here : Upheld p e leaves (bit_and left w) i
    upheld_here =
        record {
          of = λ m xs ys L k h t.
              ap (holds p e (xs k) (ys k)) (sym same) ∙ sym ((W.of m xs ys L).at k h) ∙ and_second (bit left k) (bit w k) (sym (bit_and_lem left w k) ∙ t);
        }

    pub lost_more : OfKind p 8 i → Lost p e leaves left → Lost p e leaves (bit_and left w)
    unfolding constraints_hold
    lost_more O M =
        record {
          of = λ m xs ys L k h f.
              ⊎_elim
              (λ (t : bit left k ≡ true).
              ⊎_elim (λ (u : bit w k ≡ true). absurd (clash (bit_and_lem left w k ∙ and_true (bit left k) (bit w k) t u) f))
              (λ (u : bit w k ≡ false). every_no p 8 (holds p e (xs k) (ys k)) i O (ap (holds p e (xs k) (ys k)) (sym same) ∙ sym ((W.of m xs ys L).at k h) ∙ u))
              (true_or_false (bit w k)))
              (λ (u : bit left k ≡ false). M.of m xs ys L k h u)
              (true_or_false (bit left k));
        }

pub all_hold_lem : {p : Policy} {e : Event} {leaves : List ℕ} {left : ℕ} → ((j : ℕ) → OfKind p 8 j → Upheld p e leaves left j) → Lost p e leaves left → EventWord p e leaves left
unfolding constraints_hold
all_hold_lem {p} {e} {left = left} U M =
    record {
      of = λ m xs ys L. record {
        at = λ k h. ⊎_elim
            (λ (t : bit left k ≡ true). t ∙ sym (every_yes p 8 (holds p e (xs k) (ys k)) (λ j o. (U j o).of m xs ys L k h t)))
            (λ (f : bit left k ≡ false). f ∙ sym (M.of m xs ys L k h f))
            (true_or_false (bit left k));
      };
    }
