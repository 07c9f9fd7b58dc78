-- A region is filled from its first entry on.
use Prim.Native.Nat.{ℕ, ◌+◌, ◌-◌, ◌≤◌, ◌<◌}
use mathlib.Core.Path.{◌≡◌, refl, sym, subst, ◌∙◌}
use mathlib.Core.List.{List}
use mathlib.Core.Logic.{⊎_elim}
use native.Mathlib.Nat.{add-zero}
use native.Mathlib.Omega.{arith}
use lib.ListN.{length, get_or, set}
use lib.Seq.{get_or-set_same, get_or-set_other}
use Rattle.base.proofs.Numbers.{split_eq, split_le}
use Rattle.base.specs.Inner.Fill.{Filled}

module _ (P : ℕ → ℕ → Type 0) where
  pub fill_begin : (l : List ℕ) (at a : ℕ) → Filled P l l at a a
  fill_begin l at a = record { here = λ i lo hi. absurd (omega arith); below = λ i h. refl; above = λ i h. refl }

  pub fill_more : {old new : List ℕ} {at a i v : ℕ} → Filled P old new at a i → a ≤ i → at + i < length new → P i v → Filled P old (set new (at + i) v) at a (i + 1)
  fill_more {old} {new} {at} {a} {i} {v} F l h x =
      record {
        here = λ j lo hi. ⊎_elim
            (λ (q : j ≡ i). subst (λ (k : ℕ). P k (get_or (set new (at + i) v) (at + k) 0)) (sym q) (subst (P i) (sym (get_or-set_same new (at + i) v 0 h)) x))
            (λ (d : j ≡ i → ⊥). subst (P j) (sym (other (at + j) (λ q. d (omega arith)))) (F.here j lo (omega (arith, d))))
            (split_eq j i);
        below = λ j k. other j (λ q. omega arith) ∙ F.below j k;
        above = λ j k. other j (λ q. omega arith) ∙ F.above j (omega arith);
      }
    where
      other : (j : ℕ) → (j ≡ at + i → ⊥) → get_or (set new (at + i) v) j 0 ≡ get_or new j 0
      other j d = get_or-set_other new (at + i) j v 0 d

  -- the region's first entry
  pub fill_first : {old : List ℕ} {at v : ℕ} → at < length old → P 0 v → Filled P old (set old at v) at 0 1
  fill_first {old} {at} {v} h x =
      subst (λ (k : ℕ). Filled P old (set old k v) at 0 1) (add-zero at) (fill_more (fill_begin old at 0) (omega arith) (omega arith) x)

  -- a region that is filled right behind another
  pub fill_then : {Q : ℕ → ℕ → Type 0} {old mid new : List ℕ} {at a b place n : ℕ} → Filled P old mid at a b → Filled Q mid new place 0 n → place ≡ at + b → a ≤ b
      → ((j v : ℕ) → j < n → Q j v → P (b + j) v) → Filled P old new at a (b + n)
  fill_then {Q} {old} {mid} {new} {at} {a} {b} {place} {n} F G e l means =
      record {
        here = λ i lo hi. ⊎_elim
            (λ (h : b ≤ i). subst (λ (k : ℕ). P k (get_or new (at + k) 0)) (let q : b + (i - b) ≡ i = omega arith in q)
            (subst (λ (k : ℕ). P (b + (i - b)) (get_or new k 0)) (let q : place + (i - b) ≡ at + (b + (i - b)) = omega arith in q)
            (means (i - b) _ (omega arith) (G.here (i - b) (omega arith) (omega arith)))))
            (λ (h : i < b). subst (P i) (sym (G.below (at + i) (omega arith))) (F.here i lo h))
            (split_le b i);
        below = λ i h. G.below i (omega arith) ∙ F.below i h;
        above = λ i h. G.above i (omega arith) ∙ F.above i (omega arith);
      }

-- what is said of each entry may be said otherwise
pub fill_map : {P Q : ℕ → ℕ → Type 0} {old new : List ℕ} {at a b : ℕ} → ((j v : ℕ) → j < b → P j v → Q j v) → Filled P old new at a b → Filled Q old new at a b
fill_map means F = record { here = λ i lo hi. means i _ hi (F.here i lo hi); below = F.below; above = F.above }

pub fill_end : {P : ℕ → ℕ → Type 0} {old new : List ℕ} {at a i n : ℕ} → Filled P old new at a i → i ≡ n → Filled P old new at a n
fill_end {P} {old} {new} {at} {a} F e = subst (λ (k : ℕ). Filled P old new at a k) e F
