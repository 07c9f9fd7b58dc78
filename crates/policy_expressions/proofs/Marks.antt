-- The pass over the places of the records that answers question 6: what its marks say when the places below q have been
-- passed, and what follows. The places of record i are numbered 2 * i and 2 * i + 1.
use Prim.Native.Nat.{ℕ, zero, suc, ◌+◌, ◌*◌, ◌/◌, ◌%◌, ◌≤◌, ◌<◌}
use mathlib.Core.Path.{◌≡◌, sym, subst, ◌∙◌, refl}
use mathlib.Core.Logic.{⊎_elim}
use native.Mathlib.Nat.{eq-or-lt_of_le}
use native.Mathlib.Omega.{arith}
use Rattle.policy_image.specs.Policy.{Policy}
use Rattle.base.proofs.Numbers.{split_eq}
use Rattle.std.specs.Prelude.{Option, None, Some}
use Rattle.policy_expressions.specs.Nodes.{use_of, Uses, UsedWell, NodesInOrder}

-- what is used at place q
abbrev pub used_at : Policy → ℕ → Option ℕ
used_at p q = use_of (p.rec (q / 2)) (q % 2)

abbrev Within : Policy → ℕ → Type 0
Within p q = (2 ≤ q) × (q < 2 * p.size + 2)

-- ---- places and their numbers
pub uses_at : (p : Policy) (q m : ℕ) → 2 ≤ q → q < 2 * p.size + 2 → used_at p q ≡ Some m → Uses p (q / 2) (q % 2) m
uses_at p q m a b e = record { low = omega arith; high = omega arith; at = e }

place_two : (p : Policy) (i s m : ℕ) → use_of (p.rec i) s ≡ Some m → s < 2
unfolding use_of
place_two p i zero m e = omega arith
place_two p i (suc zero) m e = omega arith
place_two p i (suc (suc s)) m e = let z : ◌≡◌ {A = ℕ} 0 1 = cc in omega arith

place_at : (p : Policy) (i s m : ℕ) → Uses p i s m → used_at p (2 * i + s) ≡ Some m
place_at p i s m n =
    let t : s < 2 = place_two p i s m n.at in
    let a : (2 * i + s) / 2 ≡ i = omega arith in
    let b : (2 * i + s) % 2 ≡ s = omega arith in
    subst (λ (j : ℕ). use_of (p.rec j) ((2 * i + s) % 2) ≡ Some m) (sym a)
    (subst (λ (u : ℕ). use_of (p.rec i) u ≡ Some m) (sym b) n.at)

-- an earlier place that uses m
pub record Earlier (p : Policy) (q m : ℕ) : Type 0 where
  pub place : ℕ
  pub two : 2 ≤ place
  pub below : place < q
  pub at : used_at p place ≡ Some m

pub record Marks (p : Policy) (q : ℕ) (used : ℕ → ℕ) : Type 0 where
  pub good : (j m : ℕ) → 2 ≤ j → j < q → used_at p j ≡ Some m → UsedWell p (j / 2) (p.rec (j / 2)).kind m
  pub set : (j m : ℕ) → 2 ≤ j → j < q → used_at p j ≡ Some m → used m ≡ 0 → ⊥
  pub from : (m : ℕ) → (used m ≡ 0 → ⊥) → Earlier p q m
  pub once : (j k m : ℕ) → 2 ≤ j → j < q → 2 ≤ k → k < q → used_at p j ≡ Some m → used_at p k ≡ Some m → j ≡ k

node_same : {m n : ℕ} → Some m ≡ Some n → m ≡ n
node_same e = cc

module _ (p : Policy) where
  pub marks_start_lem : (used : ℕ → ℕ) → ((m : ℕ) → used m ≡ 0) → Marks p 2 used
  marks_start_lem used z =
      record {
        good = λ j m a b e. let o : ⊥ = omega arith in absurd o;
        set = λ j m a b e u. omega arith;
        from = λ m n. absurd (n (z m));
        once = λ j k m a b c d e f. let o : ⊥ = omega arith in absurd o;
      }

  -- what holds of the places below q, and of q, holds of those below q + 1
  last : (P : ℕ → Type 0) (q : ℕ) → ((j : ℕ) → 2 ≤ j → j < q → P j) → P q → (j : ℕ) → 2 ≤ j → j < q + 1 → P j
  last P q all here j a b =
      let l : j ≤ q = omega arith in
      ⊎_elim (λ e. subst P (sym e) here) (λ h. all j a h) (eq-or-lt_of_le l)

  later : {q m : ℕ} → Earlier p q m → Earlier p (q + 1) m
  later {q} r = let l = r.below in record { place = r.place; two = r.two; below = omega arith; at = r.at }

  module _ (q : ℕ) (used : ℕ → ℕ) (w : Marks p q used) (two : 2 ≤ q) where
    pub marks_nothing : used_at p q ≡ None → Marks p (q + 1) used
    marks_nothing none =
        record {
          good = λ j m a b e. last (λ j. used_at p j ≡ Some m → UsedWell p (j / 2) (p.rec (j / 2)).kind m) q (λ j a b e. w.good j m a b e) (λ e. absurd (never m e)) j a b e;
          set = λ j m a b e u. last (λ j. used_at p j ≡ Some m → ⊥) q (λ j a b e. w.set j m a b e u) (never m) j a b e;
          from = λ m n. later (w.from m n);
          once = λ j k m a b c d e f.
              last (λ j. used_at p j ≡ Some m → j ≡ k) q
              (λ j a b e. last (λ k. used_at p k ≡ Some m → j ≡ k) q (λ k c d f. w.once j k m a b c d e f) (λ f. absurd (never m f)) k c d f)
              (λ e. absurd (never m e)) j a b e;
        }
      where
        never : (m : ℕ) → used_at p q ≡ Some m → ⊥
        never m e = let z : ◌≡◌ {A = ℕ} 0 1 = cc in omega arith

    pub marks_node : (used' : ℕ → ℕ) (n : ℕ) → used_at p q ≡ Some n → UsedWell p (q / 2) (p.rec (q / 2)).kind n → used n ≡ 0
        → (used' n ≡ 0 → ⊥) → ((m : ℕ) → (m ≡ n → ⊥) → used' m ≡ used m) → Marks p (q + 1) used'
    marks_node used' n at ok free new old =
        record {
          good = λ j m a b e.
              last (λ j. used_at p j ≡ Some m → UsedWell p (j / 2) (p.rec (j / 2)).kind m) q (λ j a b e. w.good j m a b e)
              (λ e. subst (λ (z : ℕ). UsedWell p (q / 2) (p.rec (q / 2)).kind z) (is m e) ok) j a b e;
          set = λ j m a b e u. last (λ j. used_at p j ≡ Some m → ⊥) q (λ j a b e. set' j m a b e u) (λ e. new (subst (λ (z : ℕ). used' z ≡ 0) (sym (is m e)) u)) j a b e;
          from = from';
          once = λ j k m a b c d e f.
              last (λ j. used_at p j ≡ Some m → j ≡ k) q
              (λ j a b e. last (λ k. used_at p k ≡ Some m → j ≡ k) q (λ k c d f. w.once j k m a b c d e f) (λ f. absurd (apart j m a b e f)) k c d f)
              (λ e. last (λ k. used_at p k ≡ Some m → q ≡ k) q (λ k c d f. absurd (apart k m c d f e)) (λ f. refl) k c d f) j a b e;
        }
      where
        is : (m : ℕ) → used_at p q ≡ Some m → n ≡ m
        is m e = node_same (sym at ∙ e)

        -- no earlier place uses n
        apart : (j m : ℕ) → 2 ≤ j → j < q → used_at p j ≡ Some m → used_at p q ≡ Some m → ⊥
        apart j m a b e f = w.set j m a b e (subst (λ (z : ℕ). used z ≡ 0) (is m f) free)

        set' : (j m : ℕ) → 2 ≤ j → j < q → used_at p j ≡ Some m → used' m ≡ 0 → ⊥
        set' j m a b e u = ⊎_elim (λ s. new (subst (λ (z : ℕ). used' z ≡ 0) s u)) (λ d. w.set j m a b e (sym (old m d) ∙ u)) (split_eq m n)

        from' : (m : ℕ) → (used' m ≡ 0 → ⊥) → Earlier p (q + 1) m
        from' m u =
            ⊎_elim (λ s. record { place = q; two = two; below = omega arith; at = subst (λ (z : ℕ). used_at p q ≡ Some z) (sym s) at })
            (λ d. later (w.from m (λ z. u (old m d ∙ z)))) (split_eq m n)

    module _ (high : q < 2 * p.size + 2) (n : ℕ) (at : used_at p q ≡ Some n) where
      pub marks_bad : (UsedWell p (q / 2) (p.rec (q / 2)).kind n → ⊥) → NodesInOrder p → ⊥
      marks_bad wrong N = wrong (N.well (q / 2) (q % 2) n (uses_at p q n two high at))

      pub marks_twice : (used n ≡ 0 → ⊥) → NodesInOrder p → ⊥
      marks_twice u N =
          let r = w.from n u in
          let l = r.below in
          let t = r.two in
          let s = N.once (q / 2) (q % 2) (r.place / 2) (r.place % 2) n (uses_at p q n two high at) (uses_at p r.place n t (omega arith) r.at) in
          let a : q / 2 ≡ r.place / 2 = s.0 in
          let b : q % 2 ≡ r.place % 2 = s.1 in
          omega arith

  pub marks_end : (used : ℕ → ℕ) → Marks p (2 * p.size + 2) used → NodesInOrder p
  marks_end used w =
      record {
        well = λ i s n m.
            let t : s < 2 = place_two p i s n m.at in
            let a = m.low in
            let b = m.high in
            let h : (2 * i + s) / 2 ≡ i = omega arith in
            subst (λ (j : ℕ). UsedWell p j (p.rec j).kind n) h (w.good (2 * i + s) n (omega arith) (omega arith) (place_at p i s n m));
        once = λ i s j t n m o.
            let a : s < 2 = place_two p i s n m.at in
            let b : t < 2 = place_two p j t n o.at in
            let c = m.low in
            let d = m.high in
            let e = o.low in
            let f = o.high in
            let g : 2 * i + s ≡ 2 * j + t = w.once (2 * i + s) (2 * j + t) n (omega arith) (omega arith) (omega arith) (omega arith) (place_at p i s n m) (place_at p j t n o) in
            (omega arith, omega arith);
      }
