-- What the nodes of a policy do not tell apart, its constraints do not: nodes compare types, roles and users that have marks, and others alike.
use Prim.Native.Nat.{ℕ, zero, suc, ◌+◌, ◌≤◌, ◌<◌}
use mathlib.Core.Path.{◌≡◌, refl, sym, ap, ap₂, ◌∙◌}
use mathlib.Core.Bool.{Bool, true, false, not, ◌&&◌, ◌||◌, cond}
use mathlib.Core.List.{List}
use mathlib.Core.Logic.{⊎_elim}
use native.Mathlib.Omega.{arith}
use native.Mathlib.Nat.{le_refl, zero-add}
use borrow.Author.Tests.{eq-eqb, ne_eqb}
use lib.Dec.{eqb}
use lib.ListN.{length, get_or, set}
use lib.Seq.{get_or-set_same, get_or-set_other}
use Rattle.base.proofs.Numbers.{split_eq}
use Rattle.base.proofs.BoolLaws.{or_left, or_true, same_truth}
use Rattle.policy_image.specs.declared.records.Record.{Record}
use Rattle.policy_image.specs.Layout.{left_of, right_of, root_of}
use Rattle.policy_image.specs.Policy.{Policy}
use Rattle.policy_image.specs.OfKind.{every}
use Rattle.policy_links.proofs.KindLaws.{OfKind, every_yes, every_record}
use Rattle.policy_expressions.specs.Nodes.{Uses, IsNode, NodesInOrder}
use Rattle.policy_expressions.proofs.UseLaws.{use_root, left_child, right_child}
use Rattle.context.specs.declared.Context.{Context}
use Rattle.context.specs.declared.Event.{Event}
use Rattle.constraints.specs.Constraints.{constrains, constraints_hold}
use Rattle.constraints.specs.Eval.{value_of, eval_at, eval_node}
use Rattle.constraints.proofs.EvalLaws.{op_cong}
use Rattle.search_constraints.specs.Inner.Pairs.{mark_entries, mark_of, is_told, told_of, Marked}

-- ---- the entry of a node
pub mark_few : (op b : ℕ) → b < 256 → mark_of op b < mark_entries
mark_few zero b h = omega arith
mark_few (suc zero) b h = omega arith
mark_few (suc (suc zero)) b h = omega arith
mark_few (suc (suc (suc zero))) b h = omega arith
mark_few (suc (suc (suc (suc zero)))) b h = omega arith
mark_few (suc (suc (suc (suc (suc zero))))) b h = omega arith
mark_few (suc (suc (suc (suc (suc (suc zero)))))) b h = omega arith
mark_few (suc (suc (suc (suc (suc (suc (suc zero))))))) b h = omega arith
mark_few (suc (suc (suc (suc (suc (suc (suc (suc zero)))))))) b h = omega arith
mark_few (suc (suc (suc (suc (suc (suc (suc (suc (suc zero))))))))) b h = omega arith
mark_few (suc (suc (suc (suc (suc (suc (suc (suc (suc (suc zero)))))))))) b h = omega arith
mark_few (suc (suc (suc (suc (suc (suc (suc (suc (suc (suc (suc zero))))))))))) b h = omega arith
mark_few (suc (suc (suc (suc (suc (suc (suc (suc (suc (suc (suc (suc zero)))))))))))) b h = omega arith
mark_few (suc (suc (suc (suc (suc (suc (suc (suc (suc (suc (suc (suc (suc n))))))))))))) b h = omega arith

pub mark_by : {op r : ℕ} (k b : ℕ) → op ≡ k → r ≡ mark_of k b → r ≡ mark_of op b
mark_by k b e q = q ∙ ap (λ (i : ℕ). mark_of i b) (sym e)

-- a node that compares nothing: 0 to 3, and from 13 on
pub mark_none : (op b : ℕ) → (4 ≤ op → op ≤ 12 → ⊥) → 768 ≡ mark_of op b
mark_none zero b h = refl
mark_none (suc zero) b h = refl
mark_none (suc (suc zero)) b h = refl
mark_none (suc (suc (suc zero))) b h = refl
mark_none (suc (suc (suc (suc zero)))) b h = absurd (h (omega arith) (omega arith))
mark_none (suc (suc (suc (suc (suc zero))))) b h = absurd (h (omega arith) (omega arith))
mark_none (suc (suc (suc (suc (suc (suc zero)))))) b h = absurd (h (omega arith) (omega arith))
mark_none (suc (suc (suc (suc (suc (suc (suc zero))))))) b h = absurd (h (omega arith) (omega arith))
mark_none (suc (suc (suc (suc (suc (suc (suc (suc zero)))))))) b h = absurd (h (omega arith) (omega arith))
mark_none (suc (suc (suc (suc (suc (suc (suc (suc (suc zero))))))))) b h = absurd (h (omega arith) (omega arith))
mark_none (suc (suc (suc (suc (suc (suc (suc (suc (suc (suc zero)))))))))) b h = absurd (h (omega arith) (omega arith))
mark_none (suc (suc (suc (suc (suc (suc (suc (suc (suc (suc (suc zero))))))))))) b h = absurd (h (omega arith) (omega arith))
mark_none (suc (suc (suc (suc (suc (suc (suc (suc (suc (suc (suc (suc zero)))))))))))) b h = absurd (h (omega arith) (omega arith))
mark_none (suc (suc (suc (suc (suc (suc (suc (suc (suc (suc (suc (suc (suc n))))))))))))) b h = refl

-- a mark stays where another is set
pub mark_stays : (l : List ℕ) (at i : ℕ) → at < length l → get_or l i 0 ≡ 1 → get_or (set l at 1) i 0 ≡ 1
mark_stays l at i h e =
    ⊎_elim (λ (q : i ≡ at). ap (λ (k : ℕ). get_or (set l at 1) k 0) q ∙ get_or-set_same l at 1 0 h) (λ (d : i ≡ at → ⊥). get_or-set_other l at i 1 0 d ∙ e) (split_eq i at)

-- the marks of a chain's nodes, one after the other: node j has its own
abbrev pub HasMark : Policy → List ℕ → ℕ → Type 0
HasMark p marks j = get_or marks (mark_of (p.rec j).a (p.rec j).b) 0 ≡ 1

-- ---- what a number is told by
module _ (marks : List ℕ) (sort : ℕ) where
  pub told_high : (v : ℕ) → told_of marks sort v ≤ v + 1
  told_high v = go (is_told marks sort v)
    where
      go : (b : Bool) → cond b (v + 1) 0 ≤ v + 1
      go true = le_refl _
      go false = omega arith

  told_yes : (v : ℕ) → is_told marks sort v ≡ true → told_of marks sort v ≡ v + 1
  told_yes v e = ap (λ (b : Bool). cond b (v + 1) 0) e

  -- by the mark of all, by its own, and where there is neither
  pub told_first : (v : ℕ) → (get_or marks sort 0 ≡ 0 → ⊥) → v + 1 ≡ told_of marks sort v
  told_first v d = sym (told_yes v (or_left (not (eqb (get_or marks sort 0) 0)) (not (eqb (get_or marks (sort + v) 0) 0)) (ap not (ne_eqb (get_or marks sort 0) 0 d))))

  pub told_own : (v : ℕ) → (get_or marks (sort + v) 0 ≡ 0 → ⊥) → v + 1 ≡ told_of marks sort v
  told_own v d = sym (told_yes v (or_true (not (eqb (get_or marks sort 0) 0)) (not (eqb (get_or marks (sort + v) 0) 0)) (ap not (ne_eqb (get_or marks (sort + v) 0) 0 d))))

  pub told_none : (v : ℕ) → get_or marks sort 0 ≡ 0 → get_or marks (sort + v) 0 ≡ 0 → 0 ≡ told_of marks sort v
  told_none v e f = sym (ap₂ (λ (a b : ℕ). cond (not (eqb a 0) || not (eqb b 0)) (v + 1) 0) e f)

  -- a number that has a mark is told from every other
  told_is : (v w : ℕ) → is_told marks sort v ≡ true → told_of marks sort v ≡ told_of marks sort w → v ≡ w
  told_is v w e q = go (is_told marks sort w) (sym (told_yes v e) ∙ q)
    where
      go : (b : Bool) → v + 1 ≡ cond b (w + 1) 0 → v ≡ w
      go true h = omega arith
      go false h = absurd (omega arith)

  marked : (i : ℕ) → get_or marks i 0 ≡ 1 → not (eqb (get_or marks i 0) 0) ≡ true
  marked i e = ap (λ (k : ℕ). not (eqb k 0)) e

  -- where all have a mark
  pub told_all : get_or marks sort 0 ≡ 1 → (v w : ℕ) → told_of marks sort v ≡ told_of marks sort w → v ≡ w
  told_all e v w q = told_is v w (or_left (not (eqb (get_or marks sort 0) 0)) (not (eqb (get_or marks (sort + v) 0) 0)) (marked sort e)) q

  -- where b has one
  pub told_one : (b : ℕ) → get_or marks (sort + b) 0 ≡ 1 → (v w : ℕ) → told_of marks sort v ≡ told_of marks sort w → eqb v b ≡ eqb w b
  told_one b e v w q =
      ⊎_elim
      (λ (h : v ≡ b). eq-eqb v b h ∙ sym (eq-eqb w b (sym (told_is b w own (ap (told_of marks sort) (sym h) ∙ q)))))
      (λ (d : v ≡ b → ⊥). ne_eqb v b d ∙ sym (ne_eqb w b (λ h. d (sym (told_is b v own (ap (told_of marks sort) (sym h) ∙ sym q))))))
      (split_eq v b)
    where
      own : is_told marks sort b ≡ true
      own = or_true (not (eqb (get_or marks sort 0) 0)) (not (eqb (get_or marks (sort + b) 0) 0)) (marked (sort + b) e)

-- ---- contexts that no node tells apart
pub record Like (marks : List ℕ) (x y : Context) : Type 0 where
  pub type : told_of marks 0 x.ty ≡ told_of marks 0 y.ty
  pub role : told_of marks 256 x.role ≡ told_of marks 256 y.role
  pub user : told_of marks 512 x.user ≡ told_of marks 512 y.user

pub like_same : (marks : List ℕ) {x y : Context} → x ≡ y → Like marks x y
like_same marks e = record { type = ap (λ (z : Context). told_of marks 0 z.ty) e; role = ap (λ (z : Context). told_of marks 256 z.role) e; user = ap (λ (z : Context). told_of marks 512 z.user) e }

module _ {marks : List ℕ} {x y x' y' : Context} (X : Like marks x x') (Y : Like marks y y') where
  -- of a leaf that has its mark
  leaf_like : (op b : ℕ) → get_or marks (mark_of op b) 0 ≡ 1 → value_of op b 0 0 (λ _. false) x y ≡ value_of op b 0 0 (λ _. false) x' y'
  leaf_like zero b e = refl
  leaf_like (suc zero) b e = refl
  leaf_like (suc (suc zero)) b e = refl
  leaf_like (suc (suc (suc zero))) b e = refl
  leaf_like (suc (suc (suc (suc zero)))) b e = ap₂ eqb (told_all marks 0 e x.ty x'.ty X.type) (told_all marks 0 e y.ty y'.ty Y.type)
  leaf_like (suc (suc (suc (suc (suc zero))))) b e = ap₂ eqb (told_all marks 256 e x.role x'.role X.role) (told_all marks 256 e y.role y'.role Y.role)
  leaf_like (suc (suc (suc (suc (suc (suc zero)))))) b e = ap₂ eqb (told_all marks 512 e x.user x'.user X.user) (told_all marks 512 e y.user y'.user Y.user)
  leaf_like (suc (suc (suc (suc (suc (suc (suc zero))))))) b e = told_one marks 0 b (ap (λ (i : ℕ). get_or marks i 0) (zero-add b) ∙ e) x.ty x'.ty X.type
  leaf_like (suc (suc (suc (suc (suc (suc (suc (suc zero)))))))) b e = told_one marks 0 b (ap (λ (i : ℕ). get_or marks i 0) (zero-add b) ∙ e) y.ty y'.ty Y.type
  leaf_like (suc (suc (suc (suc (suc (suc (suc (suc (suc zero))))))))) b e = told_one marks 256 b e x.role x'.role X.role
  leaf_like (suc (suc (suc (suc (suc (suc (suc (suc (suc (suc zero)))))))))) b e = told_one marks 256 b e y.role y'.role Y.role
  leaf_like (suc (suc (suc (suc (suc (suc (suc (suc (suc (suc (suc zero))))))))))) b e = told_one marks 512 b e x.user x'.user X.user
  leaf_like (suc (suc (suc (suc (suc (suc (suc (suc (suc (suc (suc (suc zero)))))))))))) b e = told_one marks 512 b e y.user y'.user Y.user
  leaf_like (suc (suc (suc (suc (suc (suc (suc (suc (suc (suc (suc (suc (suc n))))))))))))) b e = refl

  -- of an operator, from its children
  op_like : (op b l r : ℕ) (u v : ℕ → Bool) → (1 ≤ op → op ≤ 3 → u l ≡ v l) → (2 ≤ op → op ≤ 3 → u r ≡ v r)
      → value_of op b 0 0 (λ _. false) x y ≡ value_of op b 0 0 (λ _. false) x' y' → value_of op b l r u x y ≡ value_of op b l r v x' y'
  op_like zero b l r u v f g e = refl
  op_like (suc zero) b l r u v f g e = ap not (f (omega arith) (omega arith))
  op_like (suc (suc zero)) b l r u v f g e = ap₂ ◌&&◌ (f (omega arith) (omega arith)) (g (omega arith) (omega arith))
  op_like (suc (suc (suc zero))) b l r u v f g e = ap₂ ◌||◌ (f (omega arith) (omega arith)) (g (omega arith) (omega arith))
  op_like (suc (suc (suc (suc k)))) b l r u v f g e =
      let op = suc (suc (suc (suc k))) in
      op_cong op b l r 0 0 u (λ _. false) x y (λ lo hi. absurd (omega arith)) (λ lo hi. absurd (omega arith))
      ∙ e
      ∙ op_cong op b 0 0 l r (λ _. false) v x' y' (λ lo hi. absurd (omega arith)) (λ lo hi. absurd (omega arith))

  module _ {p : Policy} (N : NodesInOrder p) (M : Marked p marks) where
    at_like : (f n : ℕ) → IsNode p n → eval_at p x y f n ≡ eval_at p x' y' f n
    unfolding eval_at
    at_like zero n I = refl
    at_like (suc f) n I =
        op_like (p.rec n).a (p.rec n).b (left_of (p.rec n)) (right_of (p.rec n)) (λ m. eval_at p x y f m) (λ m. eval_at p x' y' f m)
        (λ a b. at_like f (left_of (p.rec n)) (left_child p N n I a b).0)
        (λ a b. at_like f (right_of (p.rec n)) (right_child p N n I a b).0)
        (leaf_like (p.rec n).a (p.rec n).b (M.each n I.low I.high I.nine))

    eval_like : (n : ℕ) → IsNode p n → eval_node p x y n ≡ eval_node p x' y' n
    unfolding eval_node
    eval_like n I = at_like n n I

    -- .. nor does a constraint
    pub constraints_like : (e : Event) → constraints_hold p e x y ≡ constraints_hold p e x' y'
    unfolding constraints_hold
    constraints_like e =
        same_truth (every p 8 (holds x y)) (every p 8 (holds x' y'))
        (λ t. every_yes p 8 (holds x' y') (λ i o. sym (same i o) ∙ every_record p 8 (holds x y) t i o))
        (λ t. every_yes p 8 (holds x y) (λ i o. same i o ∙ every_record p 8 (holds x' y') t i o))
      where
        holds : Context → Context → Record → Bool
        holds z w r = not (constrains r e) || eval_node p z w (root_of r)

        root : (i : ℕ) → OfKind p 8 i → IsNode p (root_of (p.rec i))
        root i o =
            let u : Uses p i 0 (root_of (p.rec i)) = record { low = o.low; high = o.high; at = use_root (p.rec i) o.kind } in
            (N.well i 0 (root_of (p.rec i)) u).node

        same : (i : ℕ) → OfKind p 8 i → holds x y (p.rec i) ≡ holds x' y' (p.rec i)
        same i o = ap (λ (b : Bool). not (constrains (p.rec i) e) || b) (eval_like (root_of (p.rec i)) (root i o))
