-- The entries of an array that `array::from_fn` makes, where the closure changes nothing that it captures.
use denote.Param.Members.{Mut, Called}
use mathlib.Core.List.{List}
use mathlib.Core.Logic.{⊎_elim}
use mathlib.Core.Path.{◌≡◌, refl, sym, subst}
use native.Mathlib.Omega.{arith}
use lib.ListN.{get_or}
use Prim.Native.Nat.{ℕ, zero, suc, ◌+◌, ◌≤◌, ◌<◌}
use Rattle.std.specs.Array.{IsFromFnResult, IsFromFnResultFrom}
use Rattle.base.proofs.Numbers.{split_eq}

module _ {F B : Type 0} (g : Mut F (ℕ × Unit {0}) B) (f : F) (R : ℕ → B → Type 0) (d : B) (each : (i : ℕ) (y : B) (q : F) → Called g f (i, tt) y q → (q ≡ f) × R i y) where
  made_from : (n i : ℕ) (ys : List B) (p : F) → p ≡ f → IsFromFnResultFrom g p ys i n → (k : ℕ) → i ≤ k → k < i + n → R k (get_or ys k d)
  made_from zero i ys p e w k a b = absurd (omega arith)
  made_from (suc n) i ys p e w k a b =
      let call = each i w.1 w.0 (subst (λ (x : F). Called g x (i, tt) w.1 w.0) e w.3) in
      ⊎_elim (λ (s : k ≡ i). subst (λ (x : ℕ). R x (get_or ys x d)) (sym s) (subst (R i) (sym (w.2.1 d)) call.1))
      (λ (s : k ≡ i → ⊥). made_from n (i + 1) ys w.0 call.0 w.4 k (omega (arith, s)) (omega arith)) (split_eq k i)

  pub made_at : (n : ℕ) (ys : List B) → IsFromFnResult g f ys n → (k : ℕ) → k < n → R k (get_or ys k d)
  made_at n ys w k l = made_from n 0 ys f refl w.each k (omega arith) (omega arith)
