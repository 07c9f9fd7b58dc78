-- A pass along the chain of a kind, from the head on: which records stand before the cursor, and that none of the kind is passed over.
use Prim.Native.Nat.{ℕ, zero, suc, ◌≤◌, ◌<◌}
use mathlib.Core.Path.{◌≡◌, sym, subst, ◌∙◌}
use mathlib.Core.Logic.{◌⊎◌, inl, inr, ⊎_elim}
use native.Mathlib.Omega.{arith}
use Rattle.base.specs.Chain.{Meets, OnChain}
use Rattle.base.specs.Ranges.{Within}
use Rattle.base.proofs.ChainLaws.{Visit, visit_start, meets_zero, meets_step, meets_next, meets_range}
use Rattle.policy_image.specs.Policy.{Policy, policy_links}
use Rattle.policy_links.specs.Chains.{LinksRise, ChainsByKind}
use Rattle.policy_links.proofs.KindLaws.{OfKind, visit_kind, kind_chain}

-- how many records stand before the cursor i: all n of them where it is 0, at the chain's end
abbrev pub before_cursor : ℕ → ℕ → ℕ
before_cursor n zero = n
before_cursor n (suc i) = i

before_at : (n i : ℕ) → (i ≡ 0 → ⊥) → suc (before_cursor n i) ≡ i
before_at n zero d = absurd (d (omega arith))
before_at n (suc i) d = omega arith

-- the cursor stands at i, and the records of kind k that are not met from there on stand before it
abbrev pub CursorAt : Policy → ℕ → ℕ → Type 0
CursorAt o k i = Visit (policy_links o) k (λ j. j ≤ before_cursor o.size i) i

module _ (o : Policy) (L : LinksRise o) (C : ChainsByKind o) (k : ℕ) (w : Within 1 9 k) where
  -- no record of the kind stands behind record n and before the cursor
  none_before : (n i : ℕ) → i ≤ o.size → ((j : ℕ) → OnChain (policy_links o) k j → (j ≤ n) ⊎ Meets (policy_links o) i j)
      → (j : ℕ) → n < j → j ≤ before_cursor o.size i → (o.rec j).kind ≡ k → ⊥
  none_before n zero m rest j a b e =
      ⊎_elim (λ h. omega arith) (λ h. meets_zero (policy_links o) h (omega arith))
      (rest j (kind_chain o L C k w.low w.high j (record { low = omega arith; high = b; kind = e })))
  none_before n (suc i) m rest j a b e =
      ⊎_elim (λ h. omega arith) (λ h. let r = meets_range (policy_links o) L.nexts m h in omega (arith, r.0))
      (rest j (kind_chain o L C k w.low w.high j (record { low = omega arith; high = omega arith; kind = e })))

  -- ---- the head
  pub cursor_start : (i : ℕ) → i ≡ o.head k → CursorAt o k i
  cursor_start i e = visit_start (policy_links o) k (L.heads k w.low w.high) L.nexts (λ j. j ≤ before_cursor o.size i) i e

  pub start_none : (i : ℕ) → CursorAt o k i → i ≡ o.head k → (j : ℕ) → 0 < j → j ≤ before_cursor o.size i → (o.rec j).kind ≡ k → ⊥
  start_none i P e = none_before 0 i P.most (λ j r. inr (subst (λ (x : ℕ). Meets (policy_links o) x j) (sym e) r))

  -- ---- the next of record i
  module _ (i : ℕ) (d : i ≡ 0 → ⊥) (P : CursorAt o k i) where
    pub cursor_kind : OfKind o k i
    cursor_kind = visit_kind o L C k w.low w.high (λ j. j ≤ before_cursor o.size i) i d P

    pub cursor_here : suc (before_cursor o.size i) ≡ i
    cursor_here = before_at o.size i d

    module _ (i' : ℕ) (e : i' ≡ (o.rec i).next) where
      next_high : i' ≤ o.size
      next_high = ⊎_elim (λ z. omega arith) (λ g. omega (arith, g.1)) (L.nexts i cursor_kind.low P.most)

      pub next_past : i ≤ before_cursor o.size i'
      next_past =
          ⊎_elim
          (λ z. subst (λ (x : ℕ). i ≤ before_cursor o.size x) (sym (e ∙ z)) P.most)
          (λ g.
          let h : i < i' = omega (arith, g.0) in
          let b = before_at o.size i' (λ z. let y : ⊥ = omega arith in y) in
          omega arith)
          (L.nexts i cursor_kind.low P.most)

      rest : (j : ℕ) → OnChain (policy_links o) k j → (j ≤ i) ⊎ Meets (policy_links o) i' j
      rest j r =
          ⊎_elim (λ h. let b = cursor_here in inl (omega arith))
          (λ m. ⊎_elim (λ h. inl (omega arith)) (λ h. inr (subst (λ (x : ℕ). Meets (policy_links o) x j) (sym e) h)) (meets_step (policy_links o) m))
          (P.rest j r)

      pub cursor_next : CursorAt o k i'
      cursor_next =
          record {
            most = next_high;
            on = λ n. subst (λ (x : ℕ). OnChain (policy_links o) k x) (sym e) (meets_next (policy_links o) (P.on d) (λ z. n (e ∙ z)));
            rest = λ j r. ⊎_elim (λ h. let p = next_past in inl (omega arith)) (λ m. inr m) (rest j r);
          }

      pub next_none : (j : ℕ) → i < j → j ≤ before_cursor o.size i' → (o.rec j).kind ≡ k → ⊥
      next_none = none_before i i' next_high rest
