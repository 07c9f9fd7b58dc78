-- A pass over the records, with a cursor on each chain from a to below b that stands at the chain's next record: what the cursors say
-- when the records below i have been passed, and what follows. E is what a record must be to each chain that holds it. That no cursor
-- lags behind (`ahead`) may rest on C, the very statement to be decided.
use Prim.Native.Nat.{ℕ, ◌+◌, ◌≤◌, ◌<◌}
use mathlib.Core.Path.{◌≡◌, sym, subst, ◌∙◌}
use mathlib.Core.Logic.{◌⊎◌, inl, inr, ⊎_elim}
use native.Mathlib.Nat.{eq-or-lt_of_le, eq-zero-or-pos}
use native.Mathlib.Omega.{arith}
use Rattle.base.specs.Chain.{Linked, Meets, OnChain}
use Rattle.base.specs.Chain.Meets.{here}
use Rattle.base.proofs.Numbers.{split_eq, upto_none, upto_more}
use Rattle.base.proofs.ChainLaws.{meets_zero, meets_step, meets_next, meets_range}
use Rattle.chains.specs.Inner.Links.{LinksRising}

-- record j lies on a chain, to which it is what it must be
pub record Held (l : Linked) (a b : ℕ) (E : ℕ → ℕ → Type 0) (j : ℕ) : Type 0 where
  pub chain : ℕ
  pub low : a ≤ chain
  pub high : chain < b
  pub on : OnChain l chain j
  pub is : E chain j

-- cur k is where chain k goes on
pub record Pass (l : Linked) (a b : ℕ) (E : ℕ → ℕ → Type 0) (C : Type 0) (i : ℕ) (cur : ℕ → ℕ) : Type 0 where
  pub met : (k j : ℕ) → a ≤ k → k < b → OnChain l k j → ((j < i) × E k j) ⊎ Meets l (cur k) j
  pub done : (j : ℕ) → 1 ≤ j → j < i → Held l a b E j
  pub on : (k : ℕ) → a ≤ k → k < b → (cur k ≡ 0 → ⊥) → OnChain l k (cur k)
  pub most : (k : ℕ) → a ≤ k → k < b → cur k ≤ l.size
  pub ahead : C → (k : ℕ) → a ≤ k → k < b → (cur k ≡ 0) ⊎ (i ≤ cur k)

module _ {l : Linked} {a b : ℕ} {E : ℕ → ℕ → Type 0} {C : Type 0} (R : LinksRising l a b) where
  pub pass_start : (cur : ℕ → ℕ) → ((k : ℕ) → a ≤ k → k < b → cur k ≡ l.head k) → Pass l a b E C 1 cur
  pass_start cur e =
      record {
        met = λ k j x y r. inr (subst (λ (z : ℕ). Meets l z j) (sym (e k x y)) r);
        done = upto_none _;
        on = λ k x y n. subst (λ (z : ℕ). Meets l z (cur k)) (e k x y) (here n);
        most = λ k x y. subst (λ (z : ℕ). z ≤ l.size) (sym (e k x y)) (R.heads k x y);
        ahead = λ c k x y. eq-zero-or-pos (cur k);
      }

  module _ {i : ℕ} {cur : ℕ → ℕ} (w : Pass l a b E C i cur) (low : 1 ≤ i) (high : i ≤ l.size) where
    -- a chain that holds i has its cursor at i
    pub stands : C → (k : ℕ) → a ≤ k → k < b → OnChain l k i → cur k ≡ i
    stands c k x y r =
        ⊎_elim (λ h. let z : ⊥ = omega (arith, h.0) in absurd z)
        (λ s.
        let m = meets_range l R.nexts (w.most k x y) s in
        ⊎_elim (λ z. absurd (meets_zero l s z)) (λ g. omega arith) (w.ahead c k x y))
        (w.met k i x y r)

    -- a cursor at i is that of a chain that holds i
    pub holds : (k : ℕ) → a ≤ k → k < b → cur k ≡ i → OnChain l k i
    holds k x y e = subst (λ (z : ℕ). OnChain l k z) e (w.on k x y (λ z. let o : ⊥ = omega arith in o))

    -- the cursor of κ stands at i, alone where C holds, and goes on to the next of record i
    pub pass_step : (κ : ℕ) → a ≤ κ → κ < b → cur κ ≡ i → E κ i → (C → (h : ℕ) → a ≤ h → h < b → cur h ≡ i → h ≡ κ)
        → (cur' : ℕ → ℕ) → cur' κ ≡ l.next i → ((h : ℕ) → (h ≡ κ → ⊥) → cur' h ≡ cur h) → Pass l a b E C (i + 1) cur'
    pass_step κ from below at is only cur' new old =
        record {
          met = met';
          done = upto_more _ _ w.done (record { chain = κ; low = from; high = below; on = holds κ from below at; is = is });
          on = λ k x y n.
              ⊎_elim
              (λ e. subst (λ (z : ℕ). OnChain l k z) (sym (new' k e))
              (meets_next l (subst (λ (z : ℕ). OnChain l z i) (sym e) (holds κ from below at)) (λ z. n (new' k e ∙ z))))
              (λ m. subst (λ (z : ℕ). OnChain l k z) (sym (old k m)) (w.on k x y (λ z. n (old k m ∙ z))))
              (split_eq k κ);
          most = λ k x y.
              ⊎_elim (λ e. let q = new' k e in ⊎_elim (λ z. omega arith) (λ g. omega arith) (R.nexts i low high))
              (λ m. let q = old k m in let h = w.most k x y in omega arith) (split_eq k κ);
          ahead = λ c k x y.
              ⊎_elim (λ e. ⊎_elim (λ z. inl (new' k e ∙ z)) (λ g. let q = new' k e in inr (omega arith)) (R.nexts i low high))
              (λ m.
              ⊎_elim (λ z. inl (old k m ∙ z))
              (λ h. let q = old k m in ⊎_elim (λ e. absurd (m (only c k x y (sym e)))) (λ g. inr (omega arith)) (eq-or-lt_of_le h))
              (w.ahead c k x y))
              (split_eq k κ);
        }
      where
        new' : (k : ℕ) → k ≡ κ → cur' k ≡ l.next i
        new' k e = subst (λ (z : ℕ). cur' z ≡ l.next i) (sym e) new

        met' : (k j : ℕ) → a ≤ k → k < b → OnChain l k j → ((j < i + 1) × E k j) ⊎ Meets l (cur' k) j
        met' k j x y r =
            ⊎_elim (λ h. inl (omega (arith, h.0), h.1))
            (λ s. ⊎_elim
            (λ e.
            ⊎_elim
            (λ q. inl (omega (arith, q), subst (λ (z : ℕ). E z j) (sym e) (subst (E κ) (sym q) is)))
            (λ t. inr (subst (λ (z : ℕ). Meets l z j) (sym (new' k e)) t))
            (meets_step l (subst (λ (z : ℕ). Meets l z j) (subst (λ (z : ℕ). cur z ≡ i) (sym e) at) s)))
            (λ m. inr (subst (λ (z : ℕ). Meets l z j) (sym (old k m)) s))
            (split_eq k κ))
            (w.met k j x y r)

  -- every record passed
  module _ {cur : ℕ → ℕ} (w : Pass l a b E C (l.size + 1) cur) where
    pub pass_zero : C → (k : ℕ) → a ≤ k → k < b → cur k ≡ 0
    pass_zero c k x y = let m = w.most k x y in ⊎_elim (λ z. z) (λ g. let o : ⊥ = omega arith in absurd o) (w.ahead c k x y)

    pub pass_end : (k j : ℕ) → a ≤ k → k < b → cur k ≡ 0 → OnChain l k j → E k j
    pass_end k j x y z r = ⊎_elim (λ h. h.1) (λ s. absurd (meets_zero l s z)) (w.met k j x y r)
