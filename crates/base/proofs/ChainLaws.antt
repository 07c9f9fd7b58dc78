-- Laws of chains, over the number of records, the heads and the nexts alone.
use Prim.Native.Nat.{ℕ, zero, suc, ◌+◌, ◌-◌, ◌≤◌, ◌<◌}
use mathlib.Core.Path.{◌≡◌, sym, subst, ◌∙◌, refl}
use mathlib.Core.Logic.{◌⊎◌, inl, inr, ⊎_elim}
use native.Mathlib.Omega.{arith}
use Rattle.base.specs.Chain.{Linked, Rises, Meets, OnChain}
use Rattle.base.specs.Inner.Left.{left}
use Rattle.base.specs.Chain.Meets.{here, later}

module _ (l : Linked) where
  -- ---- following links
  pub meets_zero : {c j : ℕ} → Meets l c j → c ≡ 0 → ⊥
  meets_zero (here n) = n
  meets_zero (later n r) = n

  pub meets_step : {c j : ℕ} → Meets l c j → (j ≡ c) ⊎ Meets l (l.next c) j
  meets_step (here n) = inl refl
  meets_step (later n r) = inr r

  pub meets_next : {c j : ℕ} → Meets l c j → (l.next j ≡ 0 → ⊥) → Meets l c (l.next j)
  meets_next (here n) m = later n (here m)
  meets_next (later n r) m = later n (meets_next r m)

  -- a record that is met has a number from 1 on
  pub meets_low : {c j : ℕ} → Meets l c j → 1 ≤ j
  meets_low (here n) = omega (arith, n)
  meets_low (later n r) = meets_low r

  -- links rise, so what is met from c stands at c or above
  pub meets_range : ((i : ℕ) → 1 ≤ i → i ≤ l.size → Rises l i) → {c j : ℕ} → c ≤ l.size → Meets l c j → (c ≤ j) × (j ≤ l.size)
  meets_range up h (here n) = (omega arith, h)
  meets_range up {c} {j} h (later n r) =
      ⊎_elim (λ z. absurd (meets_zero r z)) (λ g. let m = meets_range up g.1 r in (omega arith, m.1))
      (up c (let o : 1 ≤ c = omega arith in o) h)

-- ---- a loop that goes along chain k: i is where it stands, and Q holds of every record that it has left behind
pub record Visit (l : Linked) (k : ℕ) (Q : ℕ → Type 0) (i : ℕ) : Type 0 where
  pub most : i ≤ l.size
  pub on : (i ≡ 0 → ⊥) → OnChain l k i
  pub rest : (j : ℕ) → OnChain l k j → Q j ⊎ Meets l i j

-- what holds of the records left behind may be weakened
pub visit_map : (l : Linked) (k i : ℕ) (Q R : ℕ → Type 0) → ((j : ℕ) → Q j → R j) → Visit l k Q i → Visit l k R i
visit_map l k i Q R f v =
    record { most = v.most; on = v.on; rest = λ j r. ⊎_elim (λ q. inl (f j q)) (λ m. inr m) (v.rest j r) }

-- ---- a loop along a chain ends: from a record's next on there are fewer records left
left_at : (n i : ℕ) → 1 ≤ i → left n i ≡ n + 1 - i
left_at n zero h = let z : ⊥ = omega arith in absurd z
left_at n (suc i) h = omega arith

pub left_less : (l : Linked) (i i' : ℕ) → 1 ≤ i → i ≤ l.size → Rises l i → i' ≡ l.next i → left l.size i' < left l.size i
left_less l i i' low high up e =
    let a = left_at l.size i low in
    ⊎_elim
    (λ z. subst (λ (x : ℕ). left l.size x < left l.size i) (sym (e ∙ z)) (let t : 0 < left l.size i = omega arith in t))
    (λ g. let b = left_at l.size i' (let t : 1 ≤ i' = omega arith in t) in omega arith) up

module _ (l : Linked) (k : ℕ) (low : l.head k ≤ l.size) (up : (i : ℕ) → 1 ≤ i → i ≤ l.size → Rises l i) where
  pub visit_start : (Q : ℕ → Type 0) (i : ℕ) → i ≡ l.head k → Visit l k Q i
  visit_start Q i e =
      record {
        most = omega arith;
        on = λ n. subst (λ (x : ℕ). Meets l x i) e (here n);
        rest = λ j r. inr (subst (λ (x : ℕ). Meets l x j) (sym e) r);
      }

  module _ (Q : ℕ → Type 0) (i : ℕ) (n : i ≡ 0 → ⊥) (v : Visit l k Q i) where
    pub visit_step : (i' : ℕ) → i' ≡ l.next i → Q i → Visit l k Q i'
    visit_step i' e q =
        let m = v.most in
        record {
          most = ⊎_elim (λ z. omega arith) (λ g. omega arith) (up i (omega arith) m);
          on = λ d. subst (λ (x : ℕ). OnChain l k x) (sym e) (meets_next l (v.on n) (λ z. d (e ∙ z)));
          rest = λ j r. ⊎_elim (λ h. inl h)
              (λ s. ⊎_elim (λ h. inl (subst Q (sym h) q)) (λ t. inr (subst (λ (x : ℕ). Meets l x j) (sym e) t)) (meets_step l s))
              (v.rest j r);
        }

  -- at the end Q holds of every record of the chain
  pub visit_end : (Q : ℕ → Type 0) → Visit l k Q 0 → (j : ℕ) → OnChain l k j → Q j
  visit_end Q v j r = ⊎_elim (λ q. q) (λ s. absurd (meets_zero l s refl)) (v.rest j r)
