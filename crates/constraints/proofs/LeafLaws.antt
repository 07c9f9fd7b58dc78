-- What leaves say: a side after it is written, the leaves of one pair, and the word of each leaf.
use Prim.Native.Nat.{ℕ, ◌+◌, ◌≤◌, ◌<◌}
use mathlib.Core.Path.{◌≡◌, sym, ap, ap₂, subst, ◌∙◌}
use mathlib.Core.Bool.{false}
use mathlib.Core.List.{List}
use mathlib.Core.Logic.{inl, inr, ⊎_elim}
use native.Mathlib.Omega.{arith}
use lib.Dec.{eqb}
use lib.ListN.{length, get_or, set, length-set}
use lib.Seq.{get_or-set_same, get_or-set_other}
use Rattle.base.specs.Inner.Fill.{Filled}
use Rattle.base.proofs.Numbers.{split_le}
use Rattle.base.proofs.BitLaws.{bit_zero}
use Rattle.context.specs.declared.Context.{Context}
use Rattle.constraints.specs.Eval.{value_of}
use Rattle.constraints.specs.Inner.Words.{Word, AllIf, leaf_entries, role_words_at, user_words_at, SideOf, LeavesOf, SidePut, LeafWord}
use Rattle.constraints.proofs.EvalLaws.{op_other}
use Rattle.constraints.proofs.WordLaws.{word_map, word_less}

-- ---- one context on a side
pub side_put : (l0 : List ℕ) {l2 l3 : List ℕ} {s : ℕ} {z : Context} → length l0 ≡ leaf_entries → s < 2
    → Filled (λ b r. AllIf (eqb z.role b) r) (set l0 s z.ty) l2 (role_words_at s) 0 16
    → Filled (λ b r. AllIf (eqb z.user b) r) l2 l3 (user_words_at s) 0 16 → SidePut l0 l3 s 64 (λ _. z)
side_put l0 {l2} {l3} {s} {z} size few R U =
    record {
      side = record {
        type = λ j h. sym (U.below s (omega arith) ∙ R.below s (omega arith) ∙ get_or-set_same l0 s z.ty 0 (omega arith));
        role = λ b h. subst (AllIf (eqb z.role b)) (sym (U.below (role_words_at s + b) (omega arith))) (R.here b (omega arith) h);
        user = λ b h. U.here b (omega arith) h;
      };
      kept = λ i d o. ⊎_elim
          (λ (a : i < role_words_at s). U.below i (omega arith) ∙ R.below i (omega arith) ∙ get_or-set_other l0 s i z.ty 0 d)
          (λ (a : role_words_at s + 32 ≤ i). U.above i (omega arith) ∙ R.above i (omega arith) ∙ get_or-set_other l0 s i z.ty 0 d) o;
    }

-- a side stays as it was where the other is written
pub side_keep : {old new : List ℕ} {s t k m : ℕ} {ys zs : ℕ → Context} → s < 2 → t < 2 → (s ≡ t → ⊥) → SidePut old new t k ys → SideOf old s m zs → SideOf new s m zs
side_keep {old} {new} {s} {t} {m = m} {zs = zs} ls lt apart P S =
    record {
      type = λ j h. S.type j h ∙ sym (P.kept s apart (inl (omega arith)));
      role = λ b h. subst (Word m (λ j. eqb (zs j).role b)) (sym (same (role_words_at s + b) (omega arith) (omega arith))) (S.role b h);
      user = λ b h. subst (Word m (λ j. eqb (zs j).user b)) (sym (same (user_words_at s + b) (omega arith) (omega arith))) (S.user b h);
    }
  where
    same : (i : ℕ) → role_words_at s ≤ i → i < role_words_at s + 32 → get_or new i 0 ≡ get_or old i 0
    same i lo hi =
        P.kept i (λ e. let z : ⊥ = omega arith in z)
        (⊎_elim (λ (a : t ≤ s). inr (let d : s ≡ t → ⊥ = apart in omega (arith, d))) (λ (a : s < t). inl (omega arith)) (split_le t s))

pub side_less : {leaves : List ℕ} {s k m : ℕ} {zs : ℕ → Context} → m ≤ k → SideOf leaves s k zs → SideOf leaves s m zs
side_less l S = record { type = λ j h. S.type j (omega arith); role = λ b h. word_less l (S.role b h); user = λ b h. word_less l (S.user b h) }

-- ---- one pair
pub one_leaves : (l1 : List ℕ) {l2 l3 : List ℕ} {v w : ℕ} {x y : Context} → length l1 ≡ leaf_entries → AllIf (eqb x.role y.role) v → AllIf (eqb x.user y.user) w
    → SidePut (set (set l1 2 v) 3 w) l2 0 64 (λ _. x) → SidePut l2 l3 1 64 (λ _. y) → LeavesOf l3 64 (λ _. x) (λ _. y)
one_leaves l1 {l2} {l3} {v} {w} {x} {y} size Q W X Y =
    record {
      few = omega arith;
      acting = side_keep (omega arith) (omega arith) (λ e. let z : ⊥ = omega arith in z) Y X.side;
      acted = Y.side;
      same_role = subst (AllIf (eqb x.role y.role)) (sym (entry 2 (omega arith) (omega arith) ∙ get_or-set_other (set l1 2 v) 3 2 w 0 (λ e. let z : ⊥ = omega arith in z) ∙ get_or-set_same l1 2 v 0 (omega arith))) Q;
      same_user = subst (AllIf (eqb x.user y.user)) (sym (entry 3 (omega arith) (omega arith) ∙ get_or-set_same (set l1 2 v) 3 w 0 (simp length-set (omega arith)))) W;
    }
  where
    entry : (i : ℕ) → 2 ≤ i → i < 4 → get_or l3 i 0 ≡ get_or (set (set l1 2 v) 3 w) i 0
    entry i lo hi = Y.kept i (λ e. let z : ⊥ = omega arith in z) (inl (omega arith)) ∙ X.kept i (λ e. let z : ⊥ = omega arith in z) (inl (omega arith))

-- ---- the word of a leaf, by the operator
module _ {leaves : List ℕ} {b : ℕ} where
  -- of a word, or a truth value, that all pairs have in common
  of_word : {op r : ℕ} → ((m : ℕ) (xs ys : ℕ → Context) → LeavesOf leaves m xs ys → Word m (λ j. value_of op b 0 0 (λ _. false) (xs j) (ys j)) r) → LeafWord leaves op b r
  of_word f = record { of = f }

  pub leaf_same_type : {r : ℕ} → AllIf (eqb (get_or leaves 0 0) (get_or leaves 1 0)) r → LeafWord leaves 4 b r
  leaf_same_type A = of_word (λ m xs ys L. word_map (λ j h. ap₂ eqb (sym (L.acting.type j h)) (sym (L.acted.type j h))) (word_less L.few A))

  pub leaf_same_role : LeafWord leaves 5 b (get_or leaves 2 0)
  leaf_same_role = of_word (λ m xs ys L. L.same_role)

  pub leaf_same_user : LeafWord leaves 6 b (get_or leaves 3 0)
  leaf_same_user = of_word (λ m xs ys L. L.same_user)

  pub leaf_type_1 : {r : ℕ} → AllIf (eqb (get_or leaves 0 0) b) r → LeafWord leaves 7 b r
  leaf_type_1 A = of_word (λ m xs ys L. word_map (λ j h. ap (λ (t : ℕ). eqb t b) (sym (L.acting.type j h))) (word_less L.few A))

  pub leaf_type_2 : {r : ℕ} → AllIf (eqb (get_or leaves 1 0) b) r → LeafWord leaves 8 b r
  leaf_type_2 A = of_word (λ m xs ys L. word_map (λ j h. ap (λ (t : ℕ). eqb t b) (sym (L.acted.type j h))) (word_less L.few A))

  pub leaf_role_1 : b < 16 → LeafWord leaves 9 b (get_or leaves (4 + b) 0)
  leaf_role_1 h = of_word (λ m xs ys L. L.acting.role b h)

  pub leaf_role_2 : b < 16 → LeafWord leaves 10 b (get_or leaves (36 + b) 0)
  leaf_role_2 h = of_word (λ m xs ys L. L.acted.role b h)

  pub leaf_user_1 : b < 16 → LeafWord leaves 11 b (get_or leaves (20 + b) 0)
  leaf_user_1 h = of_word (λ m xs ys L. L.acting.user b h)

  pub leaf_user_2 : b < 16 → LeafWord leaves 12 b (get_or leaves (52 + b) 0)
  leaf_user_2 h = of_word (λ m xs ys L. L.acted.user b h)

  pub leaf_other : {op : ℕ} → (1 ≤ op → op ≤ 12 → ⊥) → LeafWord leaves op b 0
  leaf_other {op} h = of_word (λ m xs ys L. record { at = λ j l. bit_zero j ∙ sym (op_other op b 0 0 (λ _. false) (xs j) (ys j) h) })

pub leaf_by : {leaves : List ℕ} {op b r : ℕ} (k : ℕ) → op ≡ k → LeafWord leaves k b r → LeafWord leaves op b r
leaf_by {leaves} {b = b} {r} k e W = subst (λ (i : ℕ). LeafWord leaves i b r) (sym e) W
